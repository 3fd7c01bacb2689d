use Rattle.std.proofs.Common.{◌≡◌, ◌==◌, ◌∙◌, sym, ap, length}
use Rattle.icu_locale_core.specs.TextSet.{rising, TextSet}
use Rattle.icu_locale_core.specs.laws.TextSets.{length-rising_empty}
use Rattle.icu_locale_core.proofs.VariantLists.{empty_from_length}
use Rattle.icu_locale_core.proofs.variants.Variants.is_empty.Goals as goal

pub returns : goal.returns
returns c =
    let asked : c.is_empty.result ≡ (length (rising c.args.self.now) == 0) = c.is_empty.ensures ∙ ap (λ ts. length ts == 0) c.as_slice.ensures in
    (λ h. empty_from_length c.args.self.now (sym asked ∙ h), λ h. asked ∙ ap (λ (s : TextSet). length (rising s) == 0) h ∙ ap (λ n. n == 0) length-rising_empty)
