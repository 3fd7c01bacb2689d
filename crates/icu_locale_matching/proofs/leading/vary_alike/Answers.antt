use Rattle.std.proofs.Common.{◌≡◌, sym, ap, ◌∙◌}
use Rattle.std.proofs.lemmas.Option.{get_or_from_slice_get}
use Rattle.icu_locale_core.specs.declared.langid.LanguageIdentifier.{LanguageIdentifier}
use Rattle.icu_locale_core.specs.laws.Identifiers.{sets_tell}
use Rattle.icu_locale_matching.proofs.leading.vary_alike.Goals as goal

-- the two that were read are these
pub returns : goal.returns
returns c = λ same x y first second.
    let ids = c.args.identifiers.now in
    let one = c.in-Some.one.now in
    let other = c.in-Some-get.other.now in
    let is_first : one ≡ x = c.in-Some.ensures.lookup.1 ∙ get_or_from_slice_get ids c.args.one x one first in
    let is_second : other ≡ y = c.in-Some-get.ensures.lookup.1 ∙ get_or_from_slice_get ids c.args.other y other second in
    let variants = (sets_tell one.variants other.variants).0 (sym c.has_same_variants.ensures ∙ same) in
    ap (λ (z : LanguageIdentifier). z.variants) (sym is_first) ∙ variants ∙ ap (λ (z : LanguageIdentifier). z.variants) is_second
