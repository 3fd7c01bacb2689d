-- Ends are put at their keys, from the last on.
use Rattle.std.proofs.Common.{◌≡◌, ◌≢◌, ◌++◌, inl, inr, Bool, true, false, List, [], ◌∷◌, Option, Some, None, refl, sym, ap, ◌∙◌, subst, if◌then◌else◌}
use Rattle.std.specs.Cmp.{IsTotalOrder}
use Rattle.std.specs.Option.{option_or, IsSome}
use Rattle.std.specs.declared.cmp.Ordering.{Ordering}
use Rattle.std.specs.declared.cmp.Ordering.TheVariants.{Equal}
use Rattle.std.proofs.lemmas.Bool.{false≢true}
use Rattle.icu_locale.specs.declared.expander.TransformResult.{TransformResult}
use Rattle.icu_locale.specs.declared.expander.TransformResult.TheVariants.{Modified}
use Rattle.icu_locale_core.specs.Maps.{value_at, SetsOnly}
use Rattle.icu_locale_values.specs.inner.Walked.{has_row, AreThere, ArePut, IsPutting}
use Rattle.icu_locale_values.proofs.Found.{same_key, itself, apart, found_first, found_behind, found_append}

some_first : {V : Type 0} (o p : Option V) → IsSome o → IsSome (option_or o p)
some_first None p some = absurd (false≢true some)
some_first (Some v) p some = refl

some_second : {V : Type 0} (o : Option V) (v : V) → IsSome (option_or o (Some v))
some_second None v = refl
some_second (Some w) v = refl

or_assoc : {V : Type 0} (o p q : Option V) → option_or (option_or o p) q ≡ option_or o (option_or p q)
or_assoc None p q = refl
or_assoc (Some v) p q = refl

has_last : {X : Type 0} (xs : List X) (x : X) → has_row (xs ++ x ∷ []) ≡ true
has_last [] x = refl
has_last (z ∷ zs) x = refl

module _ {K V : Type 0} (order : K → K → Ordering) (ends old : List (K × V)) (answer : TransformResult) where
  pub IsPutting-start : AreThere order ends old → IsPutting order ends old ends old answer answer
  IsPutting-start there = record { there = there; same = λ key. refl; answered = refl }

  pub IsPutting-end : (now : List (K × V)) (told : TransformResult) → IsPutting order ends old [] now answer told → ArePut order ends old now
  IsPutting-end now told putting key = putting.same key

  module _ (total : IsTotalOrder order) (exact : (x y : K) → order x y ≡ Equal → x ≡ y) (left : List (K × V)) (key : K) (end : V) (now : List (K × V)) (told : TransformResult)
      (putting : IsPutting order ends old (left ++ (key, end) ∷ []) now answer told) where
    -- the key of the last is there
    pub last_there : IsSome (value_at order now key)
    last_there =
        let found = found_append order total exact left ((key, end) ∷ []) key ∙ ap (option_or (value_at order left key)) (found_first order total exact (key, end) []) in
        putting.there key (subst IsSome (sym found) (some_second (value_at order left key) end))

    module _ (new : List (K × V)) (sets : SetsOnly order now new key (Some end)) where
      own : value_at order new key ≡ Some end
      own = sets key ∙ ap (λ b. if b then Some end else value_at order now key) (itself order total exact key)

      other : (q : K) → q ≢ key → value_at order new q ≡ value_at order now q
      other q ne = sets q ∙ ap (λ b. if b then Some end else value_at order now q) (apart order total exact key q (λ e. ne (sym e)))

      same : (q : K) → option_or (value_at order left q) (value_at order new q) ≡ option_or (value_at order (left ++ (key, end) ∷ []) q) (value_at order now q)
      same q =
          ap (option_or (value_at order left q)) (elim (same_key order total exact q key) [
            | inl is ↦ subst (λ k. value_at order new k ≡ option_or (value_at order ((key, end) ∷ []) k) (value_at order now k)) (sym is)
                (own ∙ ap (λ o. option_or o (value_at order now key)) (sym (found_first order total exact (key, end) [])))
            | inr ne ↦ other q ne ∙ ap (λ o. option_or o (value_at order now q)) (sym (found_behind order total exact (key, end) [] q ne))
          ])
          ∙ (sym (or_assoc (value_at order left q) (value_at order ((key, end) ∷ []) q) (value_at order now q))
          ∙ ap (λ o. option_or o (value_at order now q)) (sym (found_append order total exact left ((key, end) ∷ []) q)))

      pub IsPutting-more : IsPutting order ends old left new answer Modified
      IsPutting-more = record {
        there = λ q some. elim (same_key order total exact q key) [
          | inl is ↦ subst (λ k. IsSome (value_at order new k)) (sym is) (subst IsSome (sym own) refl)
          | inr ne ↦
              let all : IsSome (value_at order (left ++ (key, end) ∷ []) q) = subst IsSome (sym (found_append order total exact left ((key, end) ∷ []) q))
              (some_first (value_at order left q) (value_at order ((key, end) ∷ []) q) some) in
              subst IsSome (sym (other q ne)) (putting.there q all)
        ];
        same = λ q. same q ∙ putting.same q;
        answered = modified (has_row left) ∙ (ap (λ b. if b then Modified else told) (sym (has_last left (key, end))) ∙ putting.answered);
      }
        where
          modified : (b : Bool) → (if b then Modified else Modified) ≡ Modified
          modified true = refl
          modified false = refl
