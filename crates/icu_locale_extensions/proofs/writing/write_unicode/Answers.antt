use Rattle.std.proofs.Common.{◌≡◌, true, subst}
use Rattle.icu_locale_core.specs.laws.TextSinks.{refused_later}
use Rattle.icu_locale_extensions.specs.Extensions.{any_piece}
use Rattle.icu_locale_extensions.specs.Locales.{unicode_pieces}
use Rattle.icu_locale_extensions.proofs.Marked.{dashed_unicode}
use Rattle.icu_locale_extensions.proofs.writing.write_unicode.Goals as goal

pub returns-in_err-write_attributes : goal.returns-in_err-write_attributes
returns-in_err-write_attributes g c =
    refused_later g.S.TextSink.Writes g.met.S.TextSink.further g.met.S.TextSink.broken _ _ _ _ _ _ _ _ c.in_ok-write_text.ensures c.in_err-write_attributes.ensures c.from_residual-in_err-write_attributes.ensures.0

pub returns : goal.returns
returns g c =
    let some : any_piece (unicode_pieces c.args.x.now) ≡ true = cc (c.has_unicode.ensures, c.if-not-has_unicode.false) in
    subst (λ t. g.S.TextSink.Writes c.args.sink.now t c.write_to.result c.write_to.new.sink) (dashed_unicode c.args.x.now some)
    (g.met.S.TextSink.further _ _ _ _ _ _ c.in_ok-write_text.ensures (g.met.S.TextSink.further _ _ _ _ _ _ c.in_ok-write_attributes.ensures c.write_to.ensures))
