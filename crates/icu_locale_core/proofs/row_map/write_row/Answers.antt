use Rattle.icu_locale_core.proofs.row_map.write_row.Goals as goal

pub returns : goal.returns
returns g c = rw (← c.name.ensures) (g.met.S.TextSink.further _ _ _ _ _ _ c.in_ok-write_after_dash.ensures c.write_pieces.ensures)
