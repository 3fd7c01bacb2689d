-- Whether some row is followed, and what follows at each key.
use Rattle.std.proofs.Common.{◌≡◌, ◌||◌, inl, inr, ℕ, Bool, false, List, [], ◌∷◌, Option, None, is_some, option_and_then, refl, sym, ap, ◌∙◌, subst}
use Rattle.std.specs.Map.{keys_of}
use Rattle.std.proofs.lemmas.Map.Keys.{sorted_tail}
use Rattle.icu_locale_core.specs.Keywords.{KeywordRows}
use Rattle.icu_locale_core.specs.Maps.{value_at, IsSortedMap}
use Rattle.icu_locale_core.specs.TextSet.{text_cmp}
use Rattle.icu_locale_core.specs.laws.TextSets.{text_total, text_same}
use Rattle.icu_locale_values.specs.Aliases.{Pieces}
use Rattle.icu_locale_values.specs.Whole.{is_any_followed}
use Rattle.icu_locale_values.proofs.Found.{same_key, found_first, found_behind, none_at_first}
use Rattle.icu_locale_values.proofs.Walks.{first_false, second_false, none_is}

module _ (next : List ℕ → Pieces → Option Pieces) where
  -- where no row is followed, nothing follows at any key
  pub none_followed : (rows : KeywordRows) → is_any_followed next rows ≡ false → (key : List ℕ) → option_and_then (next key) (value_at text_cmp rows key) ≡ None
  none_followed [] off key = refl
  none_followed (row ∷ rows) off key =
      elim (same_key text_cmp text_total text_same key row.0) [
        | inl same ↦
            let here = none_is (next row.0 row.1) (first_false (is_some (next row.0 row.1)) (is_any_followed next rows) off) in
            let first : option_and_then (next row.0) (value_at text_cmp (row ∷ rows) row.0) ≡ None =
            ap (option_and_then (next row.0)) (found_first text_cmp text_total text_same row rows) ∙ here in
            subst (λ k. option_and_then (next k) (value_at text_cmp (row ∷ rows) k) ≡ None) (sym same) first
        | inr other ↦
            ap (option_and_then (next key)) (found_behind text_cmp text_total text_same row rows key other)
            ∙ none_followed rows (second_false (is_some (next row.0 row.1)) (is_any_followed next rows) off) key
      ]

  or_both : (a b : Bool) → a ≡ false → b ≡ false → (a || b) ≡ false
  or_both a b off none = ap (λ c. c || b) off ∙ none

  -- and the other way round, where no key comes twice
  pub followed_none : (rows : KeywordRows) → IsSortedMap text_cmp rows
      → ((key : List ℕ) → option_and_then (next key) (value_at text_cmp rows key) ≡ None) → is_any_followed next rows ≡ false
  followed_none [] sorted none = refl
  followed_none (row ∷ rows) sorted none =
      let first : next row.0 row.1 ≡ None =
      ap (option_and_then (next row.0)) (sym (found_first text_cmp text_total text_same row rows)) ∙ none row.0 in
      or_both (is_some (next row.0 row.1)) (is_any_followed next rows) (ap is_some first)
      (followed_none rows (sorted_tail text_cmp row.0 (keys_of rows) sorted) (λ key. elim (same_key text_cmp text_total text_same key row.0) [
        | inl same ↦ ap (option_and_then (next key)) (ap (value_at text_cmp rows) same ∙ none_at_first text_cmp text_total text_same row rows sorted)
        | inr other ↦ ap (option_and_then (next key)) (sym (found_behind text_cmp text_total text_same row rows key other)) ∙ none key
      ]))

  -- without rows of the table nothing follows
  pub unfollowed : ((key : List ℕ) (v : Pieces) → next key v ≡ None) → (rows : KeywordRows) → is_any_followed next rows ≡ false
  unfollowed none [] = refl
  unfollowed none (row ∷ rows) = or_both (is_some (next row.0 row.1)) (is_any_followed next rows) (ap is_some (none row.0 row.1)) (unfollowed none rows)
