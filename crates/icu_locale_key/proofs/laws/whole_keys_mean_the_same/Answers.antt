use Rattle.std.proofs.Common.{◌≡◌, ap, sym, subst, ◌∙◌}
use Rattle.icu_locale_core.specs.declared.langid.LanguageIdentifier.{LanguageIdentifier}
use Rattle.icu_locale.specs.declared.expander.Favor.TheVariants.{RegionFirst}
use Rattle.icu_locale_extensions.specs.Built.{with_id}
use Rattle.icu_locale_extensions.specs.declared.identifier.LocaleIdentifier.{LocaleIdentifier}
use Rattle.icu_locale_values.specs.Whole.{WholeRules, IsWhole}
use Rattle.icu_locale_key.specs.Stable.{IsStableKey}
use Rattle.icu_locale_key.specs.Whole.{IsWholeKey}
use Rattle.icu_locale_key.proofs.laws.whole_keys_mean_the_same.Goals as goal

module _ (one : (by : WholeRules) (old new other : LocaleIdentifier) → IsWhole by old new → IsWhole by old other → new ≡ other) (by : WholeRules) where
  -- a key has all of the canonical form but for the identifier
  key_of : (x c k : LocaleIdentifier) → IsWhole by x c → (a : IsWholeKey by x k) → k ≡ with_id c a.key
  key_of x c k whole a = a.is ∙ ap (λ w. with_id w a.key) (one by x a.canonical c a.whole whole)

  stable_of : (x c k : LocaleIdentifier) → IsWhole by x c → (a : IsWholeKey by x k) → IsStableKey RegionFirst by.likely by.rules c.locale.id a.key
  stable_of x c k whole a =
      subst (λ (w : LocaleIdentifier). IsStableKey RegionFirst by.likely by.rules w.locale.id a.key) (one by x a.canonical c a.whole whole) a.stays

  same_key : (x y c d k : LocaleIdentifier) → IsWhole by x c → IsWhole by y d → (a : IsWholeKey by x k) (b : IsWholeKey by y k) → b.key ≡ a.key
  same_key x y c d k of_x of_y a b =
      ap (λ (w : LocaleIdentifier). w.locale.id) (sym (key_of y d k of_y b) ∙ key_of x c k of_x a)

pub returns-clause-forms : goal.returns-clause-forms
returns-clause-forms c = λ by x y first second k of_x of_y a b.
    let one = c.whole_form_is_one.ensures.one in
    ap (λ w. with_id w first.locale.id) (sym (key_of one by y second k of_y b) ∙ key_of one by x first k of_x a)

pub returns-clause-identifiers : goal.returns-clause-identifiers
returns-clause-identifiers c = λ by x y first second k of_x of_y a b classes also.
    let one = c.whole_form_is_one.ensures.one in
    c.stable_keys_mean_the_same.ensures.equal RegionFirst by.likely by.rules first.locale.id second.locale.id a.key classes also
    (stable_of one by x first k of_x a)
    (subst (IsStableKey RegionFirst by.likely by.rules second.locale.id) (same_key one by x y first second k of_x of_y a b) (stable_of one by y second k of_y b))
