use Rattle.std.proofs.Common.{◌≡◌, true, subst}
use Rattle.icu_locale_core.specs.laws.TextSinks.{refused_later}
use Rattle.icu_locale_extensions.specs.Extensions.{any_piece}
use Rattle.icu_locale_extensions.specs.Locales.{transform_pieces}
use Rattle.icu_locale_extensions.proofs.Marked.{dashed_transform}
use Rattle.icu_locale_extensions.proofs.writing.write_transform.Goals as goal

pub returns-in_err-write_language : goal.returns-in_err-write_language
returns-in_err-write_language g c =
    refused_later g.S.TextSink.Writes g.met.S.TextSink.further g.met.S.TextSink.broken _ _ _ _ _ _ _ _ c.in_ok-write_text.ensures c.in_err-write_language.ensures c.from_residual-in_err-write_language.ensures.0

pub returns : goal.returns
returns g c =
    let some : any_piece (transform_pieces c.args.x.now) ≡ true = cc (c.has_transform.ensures, c.if-not-has_transform.false) in
    subst (λ t. g.S.TextSink.Writes c.args.sink.now t c.write_to.result c.write_to.new.sink) (dashed_transform c.args.x.now some)
    (g.met.S.TextSink.further _ _ _ _ _ _ c.in_ok-write_text.ensures (g.met.S.TextSink.further _ _ _ _ _ _ c.in_ok-write_language.ensures c.write_to.ensures))
