use Rattle.std.proofs.Common.{◌≡◌, ◌∙◌, sym, ap, unwrap_or}
use Rattle.icu_locale_core.specs.TextSet.{image, empty}
use Rattle.icu_locale.specs.RuleSet.{lent}
use Rattle.icu_locale.specs.Kinds.{variant_alias}
use Rattle.icu_locale.proofs.Subsets.{image-empty, empty_from_image}
use Rattle.icu_locale.proofs.canonicalizer.identifiers.replaced_variants.Goals as goal

pub returns-then-is_empty-clause-found : goal.returns-then-is_empty-clause-found
returns-then-is_empty-clause-found c =
    let none : c.args.variants.now ≡ empty = c.is_empty.ensures.0 c.if-is_empty.true in
    c.new.ensures ∙ sym (ap (image (λ v. unwrap_or (variant_alias (lent c.args.rules.now) v) v)) none
    ∙ image-empty (λ v. unwrap_or (variant_alias (lent c.args.rules.now) v) v))

pub returns-in-Err-clause-free : goal.returns-in-Err-clause-free
returns-in-Err-clause-free c none =
    sym c.if-is_empty.false ∙ c.is_empty.ensures.1 (empty_from_image (λ v. unwrap_or (variant_alias (lent c.args.rules.now) v) v) c.args.variants.now none)
