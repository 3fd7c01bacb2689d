use Rattle.std.proofs.Common.{◌++◌, ◌∙◌, codes, subst, ap, sym}
use Rattle.icu_locale_extensions.specs.Locales.{marked_if_any}
use Rattle.icu_locale_extensions.specs.Rows.{dashed}
use Rattle.icu_locale_extensions.proofs.Dashes.{dashed_pieces}
use Rattle.icu_locale_extensions.proofs.writing.write_private_use.Goals as goal

pub returns : goal.returns
returns g c =
    let text = ap (λ t. codes "-x-" ++ t) c.as_str.ensures.text ∙ ap (λ t. codes "-x" ++ t) (dashed_pieces _ c.as_str.ensures.known.some)
    ∙ ap (λ o. dashed (marked_if_any (codes "x") o)) (sym c.in-Some.is) in
    subst (λ t. g.S.TextSink.Writes c.args.sink.now t c.write_text-2.result c.write_text-2.new.self) text
    (g.met.S.TextSink.further _ _ _ _ _ _ c.in_ok-write_text.ensures c.write_text-2.ensures)
