-- The form that an identifier falls back to is in a list.
use Rattle.std.proofs.Common.{◌≡◌, ◌↔◌, ℕ, ◌<◌, Bool, true, false, List, length, get_or, Option, Some, None, MatchOption, nat_lt, cond, position}
use Rattle.std.proofs.Common.{refl, sym, ◌∙◌, arith}
use Rattle.std.specs.List.{All, slice_get, position_or_len}
use Rattle.std.proofs.lemmas.Bool.{false≢true, ltb-false}
use Rattle.std.proofs.lemmas.List.Quantifiers.{position-Some}
use Rattle.std.proofs.lemmas.List.Sums.{fails_before_first}
use Rattle.std.proofs.lemmas.Option.{none-some, slice_get-get_or}
use Rattle.icu_locale_core.specs.declared.langid.LanguageIdentifier.{LanguageIdentifier}
use Rattle.icu_locale_core.specs.laws.Identifiers.{same_parts, identifiers_decide}
use Rattle.icu_locale.specs.LikelySubtags.{LikelySubtags}
use Rattle.uses.specs.Meaning.{MeanTheSame, NoneMeans, IsMinimal}

no_place : (test : Bool) (place : ℕ) → cond test (Some place) None ≡ None → test ≡ false
no_place true place e = absurd (none-some place (sym e))
no_place false place e = refl

-- where no element passes, each fails
fails_everywhere : {X : Type 0} (p : X → Bool) (xs : List X) → position p xs ≡ None → (k : ℕ) (d : X) → k < length xs → p (get_or xs k d) ≡ false
fails_everywhere p xs none k d within =
    let past : nat_lt (position_or_len p xs) (length xs) ≡ false = no_place (nat_lt (position_or_len p xs) (length xs)) (position_or_len p xs) none in
    let before = ltb-false (position_or_len p xs) (length xs) past in
    fails_before_first p xs k d (omega (arith, before, within))

-- a form that is its own minimal form means the same as id exactly where it is the minimal form of id
module _ (likely : LikelySubtags) (forms : List LanguageIdentifier) (id minimal : LanguageIdentifier)
    (tells : (form : LanguageIdentifier) → IsMinimal likely form → (minimal ≡ form) ↔ MeanTheSame likely id form) (own : All (IsMinimal likely) forms) where
  pub form_at : (found : Option ℕ) → found ≡ position (λ x. same_parts x minimal) forms
      → MatchOption found (NoneMeans likely forms id) (λ place. (form : LanguageIdentifier) × (slice_get forms place ≡ Some form) × MeanTheSame likely id form)
  form_at (Some place) is =
      let at = position-Some (λ x. same_parts x minimal) forms place minimal (sym is) in
      let form = get_or forms place minimal in
      (form, slice_get-get_or forms place minimal at.0, (tells form (own place minimal at.0)).0 (sym ((identifiers_decide form minimal).0 at.1)))
  form_at None is = λ k d within same.
      let form = get_or forms k d in
      false≢true (sym (fails_everywhere (λ x. same_parts x minimal) forms (sym is) k d within)
      ∙ (identifiers_decide form minimal).1 (sym ((tells form (own k d within)).1 same)))
