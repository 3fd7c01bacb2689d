use Rattle.icu_locale_core.specs.laws.TextSinks.{refused_later}
use Rattle.icu_locale_core.proofs.value.write_each.Goals as goal

pub returns-in_err-write_after_dash : goal.returns-in_err-write_after_dash
returns-in_err-write_after_dash g c =
    refused_later g.S.TextSink.Writes g.met.S.TextSink.further g.met.S.TextSink.broken _ _ _ _ _ _ _ _ c.loop-piece.invariant c.in_err-write_after_dash.ensures c.from_residual.ensures.0
