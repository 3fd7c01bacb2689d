-- The walk over the rows of a map: one row further, its refusals, and its end.
use Rattle.std.proofs.Common.{◌≡◌, ◌||◌, ◌++◌, inl, inr, Bool, true, false, List, [], ◌∷◌, Option, Some, None, IsSomeAnd, is_some, refl, sym, ap, ◌∙◌, subst}
use Rattle.std.specs.Cmp.{IsTotalOrder}
use Rattle.std.specs.Map.{keys_of}
use Rattle.std.specs.declared.cmp.Ordering.{Ordering}
use Rattle.std.specs.declared.cmp.Ordering.TheVariants.{Equal}
use Rattle.std.proofs.lemmas.Bool.{false≢true}
use Rattle.std.proofs.lemmas.Option.{none-some}
use Rattle.std.proofs.lemmas.Map.Keys.{sorted_tail}
use Rattle.icu_locale_core.specs.Maps.{value_at, IsSortedMap}
use Rattle.icu_locale_runs.specs.Run.{IsLaterEnd, IsLaterEndOf, IsRepeat}
use Rattle.icu_locale_runs.specs.laws.LaterEnds.{EndsIfAny-later_end}
use Rattle.icu_locale_values.specs.Refusals.{IsFirstRepeat}
use Rattle.icu_locale_values.specs.Whole.{is_any_followed}
use Rattle.icu_locale_values.specs.inner.Walked.{has_row, with_end, AreLaterEnds, IsWalked, IsRunRefusal, IsWalkRefusal}
use Rattle.icu_locale_values.specs.declared.walk.Refusal.{Refusal}
use Rattle.icu_locale_values.specs.declared.walk.Refusal.TheVariants.{Memory, Repeats}
use Rattle.icu_locale_values.proofs.Found.{same_key, found_first, found_behind, none_before, none_at_first, with_end-own, with_end-other}

or_false : (b : Bool) → (b || false) ≡ b
or_false true = refl
or_false false = refl

pub first_false : (a b : Bool) → (a || b) ≡ false → a ≡ false
first_false true b e = e
first_false false b e = refl

pub second_false : (a b : Bool) → (a || b) ≡ false → b ≡ false
second_false true true e = e
second_false true false e = refl
second_false false b e = e

pub none_is : {X : Type 0} (o : Option X) → is_some o ≡ false → o ≡ None
none_is None e = refl
none_is (Some x) e = absurd (false≢true (sym e))

module _ {K V : Type 0} (order : K → K → Ordering) (next : K → V → Option V) (rows : List (K × V)) where
  -- nothing is found before the first row
  pub IsWalked-start : IsSortedMap order rows → IsWalked order next rows rows []
  IsWalked-start sorted = record {
    sorted = sorted;
    passed = λ key none. subst (λ o. IsLaterEndOf (next key) o None) (sym none) refl;
    ahead = λ key v here. (here, refl);
    any = refl;
  }

  pub IsWalked-end : (ends : List (K × V)) → IsWalked order next rows [] ends → AreLaterEnds order next rows ends
  IsWalked-end ends walked key = walked.passed key refl

  pub IsWalked-any : (ends : List (K × V)) → IsWalked order next rows [] ends → has_row ends ≡ is_any_followed next rows
  IsWalked-any ends walked = sym (or_false (has_row ends)) ∙ walked.any

  module _ (total : IsTotalOrder order) (exact : (x y : K) → order x y ≡ Equal → x ≡ y) (row : K × V) (left ends : List (K × V))
      (walked : IsWalked order next rows (row ∷ left) ends) where
    here : (value_at order rows row.0 ≡ Some row.1) × (value_at order ends row.0 ≡ None)
    here = walked.ahead row.0 row.1 (found_first order total exact row left)

    more_any : (end : Option V) → IsLaterEnd (next row.0) row.1 end
        → (has_row (with_end ends row.0 end) || is_any_followed next left) ≡ is_any_followed next rows
    more_any None none = ap (λ b. has_row ends || (b || is_any_followed next left)) (sym (ap is_some none)) ∙ walked.any
    more_any (Some y) later = ap (λ b. b || is_any_followed next left) (has_last ends (row.0, y)) ∙ (both (has_row ends) ∙ walked_true)
      where
        has_last : (xs : List (K × V)) (x : K × V) → has_row (xs ++ x ∷ []) ≡ true
        has_last [] x = refl
        has_last (z ∷ zs) x = refl

        both : (b : Bool) → true ≡ (b || (true || is_any_followed next left))
        both true = refl
        both false = refl

        walked_true : (has_row ends || (true || is_any_followed next left)) ≡ is_any_followed next rows
        walked_true = ap (λ b. has_row ends || (b || is_any_followed next left)) (sym later.0) ∙ walked.any

    -- one row further
    pub IsWalked-more : (end : Option V) → IsLaterEnd (next row.0) row.1 end → IsWalked order next rows left (with_end ends row.0 end)
    IsWalked-more end later = record {
      sorted = sorted_tail order row.0 (keys_of left) walked.sorted;
      passed = λ key none. elim (same_key order total exact key row.0) [
        | inl same ↦
            let own = with_end-own order total exact ends row.0 end here.1 in
            let at : IsLaterEndOf (next row.0) (value_at order rows row.0) (value_at order (with_end ends row.0 end) row.0) =
            subst (λ o. IsLaterEndOf (next row.0) o (value_at order (with_end ends row.0 end) row.0)) (sym here.0)
            (subst (IsLaterEnd (next row.0) row.1) (sym own) later) in
            subst (λ k. IsLaterEndOf (next k) (value_at order rows k) (value_at order (with_end ends row.0 end) k)) (sym same) at
        | inr other ↦
            let before = walked.passed key (found_behind order total exact row left key other ∙ none) in
            subst (IsLaterEndOf (next key) (value_at order rows key)) (sym (with_end-other order total exact ends row.0 end key other)) before
      ];
      ahead = λ key v at. elim (same_key order total exact key row.0) [
        | inl same ↦
            let none = none_at_first order total exact row left walked.sorted in
            absurd (none-some v (sym none ∙ (ap (value_at order left) (sym same) ∙ at)))
        | inr other ↦
            let before = walked.ahead key v (found_behind order total exact row left key other ∙ at) in
            (before.0, with_end-other order total exact ends row.0 end key other ∙ before.1)
      ];
      any = more_any end later;
    }

    -- what is refused at a row is refused of the walk
    pub IsWalkRefusal-here : (e : Refusal K V) → IsRunRefusal (next row.0) row.0 row.1 e → IsWalkRefusal order next rows e
    IsWalkRefusal-here Memory h = tt
    IsWalkRefusal-here (Repeats key v) (same, repeats) = subst (λ k. IsFirstRepeat order next rows k v) (sym same) (record {
      repeats = subst (λ o. IsSomeAnd o (λ start. IsRepeat (next row.0) start v)) (sym here.0) repeats;
      before = λ other less. EndsIfAny-later_end (next other) (value_at order rows other) (value_at order ends other)
          (walked.passed other (none_before order total exact row left walked.sorted other less));
    })

    -- where nothing follows any value, nothing follows this one
    pub none_here : is_any_followed next rows ≡ false → next row.0 row.1 ≡ None
    none_here off =
        let all = walked.any ∙ off in
        none_is (next row.0 row.1) (first_false _ (is_any_followed next left) (second_false (has_row ends) _ all))
