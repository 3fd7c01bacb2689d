use Rattle.std.proofs.Common.{subst}
use Rattle.icu_locale_core.specs.laws.TextSinks.{refused_later}
use Rattle.icu_locale_extensions.proofs.Marked.{dashed_extensions}
use Rattle.icu_locale_extensions.proofs.writing.write_extensions.Goals as goal

pub returns-in_err-write_transform : goal.returns-in_err-write_transform
returns-in_err-write_transform g c =
    refused_later g.S.TextSink.Writes g.met.S.TextSink.further g.met.S.TextSink.broken _ _ _ _ _ _ _ _ c.in_ok-write_below_t.ensures
    c.in_err-write_transform.ensures c.from_residual-in_err-write_transform.ensures.0

pub returns-in_err-write_unicode : goal.returns-in_err-write_unicode
returns-in_err-write_unicode g c =
    refused_later g.S.TextSink.Writes g.met.S.TextSink.further g.met.S.TextSink.broken _ _ _ _ _ _ _ _ (g.met.S.TextSink.further _ _ _ _ _ _ c.in_ok-write_below_t.ensures c.in_ok-write_transform.ensures)
    c.in_err-write_unicode.ensures c.from_residual-in_err-write_unicode.ensures.0

pub returns-in_err-write_above_t : goal.returns-in_err-write_above_t
returns-in_err-write_above_t g c =
    refused_later g.S.TextSink.Writes g.met.S.TextSink.further g.met.S.TextSink.broken _ _ _ _ _ _ _ _ (g.met.S.TextSink.further _ _ _ _ _ _ c.in_ok-write_below_t.ensures
    (g.met.S.TextSink.further _ _ _ _ _ _ c.in_ok-write_transform.ensures c.in_ok-write_unicode.ensures))
    c.in_err-write_above_t.ensures c.from_residual-in_err-write_above_t.ensures.0

pub returns : goal.returns
returns g c =
    subst (λ t. g.S.TextSink.Writes c.args.sink.now t c.write_private_use.result c.write_private_use.new.sink) (dashed_extensions c.args.x.now)
    (g.met.S.TextSink.further _ _ _ _ _ _ c.in_ok-write_below_t.ensures (g.met.S.TextSink.further _ _ _ _ _ _ c.in_ok-write_transform.ensures
    (g.met.S.TextSink.further _ _ _ _ _ _ c.in_ok-write_unicode.ensures (g.met.S.TextSink.further _ _ _ _ _ _ c.in_ok-write_above_t.ensures c.write_private_use.ensures))))
