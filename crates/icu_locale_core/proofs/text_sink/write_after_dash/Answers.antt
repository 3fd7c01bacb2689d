use Rattle.icu_locale_core.proofs.text_sink.write_after_dash.Goals as goal

pub returns : goal.returns
returns g c = g.met.S.TextSink.further _ _ _ _ _ _ c.in_ok-write_ascii.ensures c.write_text.ensures
