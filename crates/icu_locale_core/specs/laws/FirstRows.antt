-- Rows of which the first with a key counts: what is found in them, and what a further row changes.
use Rattle.std.proofs.Common.{◌≡◌, Bool, true, false, cond, List, [], ◌∷◌, ◌++◌, Option, Some, None, IsSome, refl, ap, sym, ◌∙◌, subst}
use Rattle.std.specs.BTreeMap.{is_at}
use Rattle.std.specs.Cmp.{IsTotalOrder, Equal-is}
use Rattle.std.specs.Option.{option_or}
use Rattle.std.specs.Ordering.{is_eq, eq_by_cmp}
use Rattle.std.specs.declared.cmp.Ordering.{Ordering}
use Rattle.std.proofs.lemmas.Bool.{false≢true}
use Rattle.std.proofs.lemmas.Cmp.{eq_by_cmp_equiv}
use Rattle.icu_locale_core.specs.Maps.{value_at, SetsOnly, FindsAlike}

module _ {K V : Type 0} (compare : K → K → Ordering) where
  -- what is found in two lists, one after the other
  pub value_at-append : (rows more : List (K × V)) (q : K)
      → value_at compare (rows ++ more) q ≡ option_or (value_at compare rows q) (value_at compare more q)
  value_at-append [] more q = refl
  value_at-append (row ∷ rows) more q = by (is_at (compare q) row.0) (value_at-append rows more q)
    where
      by : (b : Bool) → value_at compare (rows ++ more) q ≡ option_or (value_at compare rows q) (value_at compare more q)
          → cond b (Some row.1) (value_at compare (rows ++ more) q) ≡ option_or (cond b (Some row.1) (value_at compare rows q)) (value_at compare more q)
      by true rest = refl
      by false rest = rest

found_stays : {V : Type 0} (o : Option V) (value : V) → IsSome o → o ≡ option_or o (Some value)
found_stays None value there = absurd (false≢true there)
found_stays (Some v) value there = refl

nothing_after : {V : Type 0} (o : Option V) → o ≡ option_or o None
nothing_after None = refl
nothing_after (Some v) = refl

module _ {K V : Type 0} {compare : K → K → Ordering} (total : IsTotalOrder compare) where
  -- at keys that tie the same is found
  value_at-tied : (rows : List (K × V)) (q key : K) → eq_by_cmp compare q key ≡ true → value_at compare rows q ≡ value_at compare rows key
  value_at-tied [] q key tied = refl
  value_at-tied (row ∷ rows) q key tied = λ i. cond (is_eq (total.congr q key row.0 ((Equal-is (compare q key)).0 tied) i)) (Some row.1) (value_at-tied rows q key tied i)

  module _ (rows : List (K × V)) (key : K) (value : V) where
    -- a row after others counts only where they have none with its key
    after : (q : K) (b : Bool) → eq_by_cmp compare q key ≡ b
        → value_at compare (rows ++ (key, value) ∷ []) q ≡ option_or (value_at compare rows q) (cond b (Some value) None)
    after q b e = value_at-append compare rows ((key, value) ∷ []) q ∙ ap (λ c. option_or (value_at compare rows q) (cond c (Some value) None)) e

    -- where a key is there, a further row with it changes nothing
    pub first_is_there : IsSome (value_at compare rows key) → FindsAlike compare rows (rows ++ (key, value) ∷ [])
    first_is_there there q = by (eq_by_cmp compare q key) refl
      where
        by : (b : Bool) → eq_by_cmp compare q key ≡ b → value_at compare rows q ≡ value_at compare (rows ++ (key, value) ∷ []) q
        by true e = found_stays (value_at compare rows q) value (subst (λ o. IsSome o) (sym (value_at-tied rows q key e)) there) ∙ sym (after q true e)
        by false e = nothing_after (value_at compare rows q) ∙ sym (after q false e)

    -- where it is not, the row that is put in is the first
    pub first_is_new : (new : List (K × V)) → value_at compare rows key ≡ None
        → SetsOnly compare rows new key (Some value) → FindsAlike compare new (rows ++ (key, value) ∷ [])
    first_is_new new absent sets q = sets q ∙ ap (λ b. cond b (Some value) (value_at compare rows q))
        ((eq_by_cmp_equiv total).symm key q) ∙ by (eq_by_cmp compare q key) refl
      where
        by : (b : Bool) → eq_by_cmp compare q key ≡ b → cond (eq_by_cmp compare q key) (Some value)
            (value_at compare rows q) ≡ value_at compare (rows ++ (key, value) ∷ []) q
        by true e = ap (λ b. cond b (Some value) (value_at compare rows q)) e
            ∙ sym (after q true e ∙ ap (λ o. option_or o (Some value)) (value_at-tied rows q key e ∙ absent))
        by false e = ap (λ b. cond b (Some value) (value_at compare rows q)) e ∙ nothing_after (value_at compare rows q) ∙ sym (after q false e)
