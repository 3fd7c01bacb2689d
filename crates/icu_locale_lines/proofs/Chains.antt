-- A chain is written in one way.
use Rattle.std.proofs.Common.{◌≡◌, ℕ, suc, ◌+◌, Bool, List, [], ◌∷◌, ◌++◌, Option, Some, refl, ap, sym, ◌∙◌, inl, inr, arith}
use Rattle.std.specs.Prelude.{codes}
use Rattle.std.specs.List.{slice_get}
use Rattle.std.proofs.lemmas.Option.{same_Some, none-some}
use Rattle.icu_locale_core.specs.declared.langid.LanguageIdentifier.{LanguageIdentifier}
use Rattle.icu_locale_runs.specs.Run.{at, EndsAt}
use Rattle.icu_locale_runs.specs.laws.Places.{at_same_number}
use Rattle.icu_locale_runs.specs.laws.Runs.{at_rest, ends_with_no_repeat}
use Rattle.icu_locale_fallback.specs.Identifiers.{chain_text, next_identifier}
use Rattle.icu_locale_fallback.specs.declared.fallbacker.LocaleFallbackerWithConfig.{LocaleFallbackerWithConfig}
use Rattle.icu_locale_lines.specs.Chains.{inheritance_of, start_of, IsChained}

-- lists with the same members at each place are one
pub same_lists : {X : Type 0} (xs ys : List X) → ((i : ℕ) → slice_get xs i ≡ slice_get ys i) → xs ≡ ys
same_lists [] [] each = refl
same_lists [] (y ∷ ys) each = absurd (none-some y (each 0))
same_lists (x ∷ xs) [] each = absurd (none-some x (sym (each 0)))
same_lists (x ∷ xs) (y ∷ ys) each =
    let first = same_Some x y (each 0) in
    let rest = same_lists xs ys (λ i. each (suc i)) in
    λ i. first i ∷ rest i

module _ {X : Type 0} (next : X → Option X) where
  -- a run that is a list ends
  list_ends : (x : X) (list : List X) → ((i : ℕ) → slice_get list i ≡ at next x i) → (y : X) × EndsAt next x y
  list_ends x [] is = absurd (none-some x (is 0))
  list_ends x (y ∷ []) is = (x, record { stands = (0, refl); last = sym (is 1) })
  list_ends x (y ∷ z ∷ zs) is =
      let here : at next x 1 ≡ Some z = sym (is 1) in
      let onward : (d : ℕ) → at next z d ≡ at next x (1 + d) = at_rest next x 1 z here in
      let rest = list_ends z (z ∷ zs) (λ i. is (suc i) ∙ at_same_number next x (suc i) (1 + i) (omega arith) ∙ sym (onward i)) in (
        rest.0,
        record {
          stands = (1 + rest.1.stands.0, sym (onward rest.1.stands.0) ∙ rest.1.stands.1);
          last = rest.1.last;
        },
      )

-- the line of an identifier's chain is one
pub chained_one : (f : LocaleFallbackerWithConfig) (x : LanguageIdentifier) (one two : List ℕ) (a b : Bool)
    → IsChained f x one a → IsChained f x two b → (one ≡ two) × (a ≡ b)
chained_one f x one two a b (inl h) (inl k) =
    let lists = same_lists h.0.list k.0.list (λ i. h.0.chain i ∙ sym (k.0.chain i)) in
    (h.0.written ∙ ap (λ list. chain_text list ++ codes "\n") lists ∙ sym k.0.written, h.1 ∙ sym k.1)
chained_one f x one two a b (inl h) (inr k) =
    let ends = list_ends (next_identifier (inheritance_of f)) (start_of f x) h.0.list h.0.chain in
    absurd (ends_with_no_repeat (next_identifier (inheritance_of f)) (start_of f x) ends.0 _ ends.1 k.0.1.again)
chained_one f x one two a b (inr h) (inl k) =
    let ends = list_ends (next_identifier (inheritance_of f)) (start_of f x) k.0.list k.0.chain in
    absurd (ends_with_no_repeat (next_identifier (inheritance_of f)) (start_of f x) ends.0 _ ends.1 h.0.1.again)
chained_one f x one two a b (inr h) (inr k) = (h.1 ∙ sym k.1, h.2 ∙ sym k.2)
