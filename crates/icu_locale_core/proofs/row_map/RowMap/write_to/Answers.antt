use Rattle.icu_locale_core.specs.laws.TextSinks.{refused_later}
use Rattle.icu_locale_core.proofs.row_map.RowMap.write_to.Goals as goal

pub returns-in_err-write_row : goal.returns-in_err-write_row
returns-in_err-write_row g c =
    refused_later g.S.TextSink.Writes g.met.S.TextSink.further g.met.S.TextSink.broken _ _ _ _ _ _ _ _ c.loop-row.invariant c.in_err-write_row.ensures c.from_residual.ensures.0
