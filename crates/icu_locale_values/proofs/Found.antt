-- What is found at a key: among rows, among those after the first, and among rows with one more.
use Rattle.std.proofs.Common.{◌≡◌, ◌≢◌, ◌++◌, ◌⊎◌, inl, inr, Bool, true, false, List, [], ◌∷◌, Option, Some, None, cond, refl, sym, ap, ◌∙◌, if◌then◌else◌}
use Rattle.std.specs.BTreeMap.{is_at}
use Rattle.std.specs.Cmp.{IsTotalOrder, Equal-is}
use Rattle.std.specs.List.{AllByRecursion}
use Rattle.std.specs.Map.{keys_of}
use Rattle.std.specs.Option.{option_or}
use Rattle.std.specs.Ordering.{is_eq}
use Rattle.std.specs.declared.cmp.Ordering.{Ordering}
use Rattle.std.specs.declared.cmp.Ordering.TheVariants.{Less, Equal}
use Rattle.std.proofs.lemmas.Bool.{false_from_ne_true, cases_Bool, false≢true}
use Rattle.std.proofs.lemmas.Cmp.{tied_itself}
use Rattle.std.proofs.lemmas.Map.{lookup-none, NonePasses}
use Rattle.std.proofs.lemmas.Map.Keys.{sorted_head}
use Rattle.std.proofs.lemmas.Map.Entries.{none_below_head}
use Rattle.icu_locale_core.specs.Maps.{value_at, IsSortedMap}
use Rattle.icu_locale_values.specs.inner.Walked.{with_end}

module _ {K : Type 0} (order : K → K → Ordering) (total : IsTotalOrder order) (exact : (x y : K) → order x y ≡ Equal → x ≡ y) where
  pub itself : (key : K) → is_at (order key) key ≡ true
  itself key = ap is_eq (tied_itself total key)

  tied_same : (x y : K) → is_at (order x) y ≡ true → x ≡ y
  tied_same x y tied = exact x y ((Equal-is (order x y)).0 tied)

  pub apart : (x y : K) → x ≢ y → is_at (order x) y ≡ false
  apart x y ne = false_from_ne_true (is_at (order x) y) (λ tied. ne (tied_same x y tied))

  pub same_key : (x y : K) → (x ≡ y) ⊎ (x ≢ y)
  same_key x y =
      elim (cases_Bool (is_at (order x) y)) [
        | inl tied ↦ inl (tied_same x y tied)
        | inr untied ↦ inr (λ e. false≢true (sym untied ∙ (ap (is_at (order x)) (sym e) ∙ itself x)))
      ]

  module _ {V : Type 0} where
    -- ---- the first row, and those after it

    module _ (row : K × V) (rows : List (K × V)) where
      pub found_first : value_at order (row ∷ rows) row.0 ≡ Some row.1
      found_first = ap (λ b. if b then Some row.1 else value_at order rows row.0) (itself row.0)

      pub found_behind : (key : K) → key ≢ row.0 → value_at order (row ∷ rows) key ≡ value_at order rows key
      found_behind key ne = ap (λ b. if b then Some row.1 else value_at order rows key) (apart key row.0 ne)

      pub none_before : IsSortedMap order (row ∷ rows) → (key : K) → order key row.0 ≡ Less → value_at order (row ∷ rows) key ≡ None
      none_before sorted key less = lookup-none (is_at (order key)) (row ∷ rows) (none_below_head total key row rows sorted less)

      pub none_at_first : IsSortedMap order (row ∷ rows) → value_at order rows row.0 ≡ None
      none_at_first sorted = lookup-none (is_at (order row.0)) rows (none_pass rows (sorted_head order row.0 (keys_of rows) sorted))
        where
          none_pass : (es : List (K × V)) → AllByRecursion (λ other. order row.0 other ≡ Less) (keys_of es) → NonePasses (is_at (order row.0)) es
          none_pass [] each = tt
          none_pass (e ∷ es) each = (ap is_eq each.0, none_pass es each.1)

    -- ---- one row more after all

    found_or : (b : Bool) (v : V) (o p : Option V) → cond b (Some v) (option_or o p) ≡ option_or (cond b (Some v) o) p
    found_or true v o p = refl
    found_or false v o p = refl

    pub found_append : (rows others : List (K × V)) (key : K) → value_at order (rows ++ others) key ≡ option_or (value_at order rows key) (value_at order others key)
    found_append [] others key = refl
    found_append (row ∷ rows) others key =
        ap (λ o. cond (is_at (order key) row.0) (Some row.1) o) (found_append rows others key)
        ∙ found_or (is_at (order key) row.0) row.1 (value_at order rows key) (value_at order others key)

    or_none : (o : Option V) → option_or o None ≡ o
    or_none None = refl
    or_none (Some v) = refl

    pub with_end-own : (ends : List (K × V)) (key : K) (end : Option V) → value_at order ends key ≡ None → value_at order (with_end ends key end) key ≡ end
    with_end-own ends key None none = none
    with_end-own ends key (Some v) none =
        found_append ends ((key, v) ∷ []) key
        ∙ (ap (λ o. option_or o (value_at order ((key, v) ∷ []) key)) none
        ∙ found_first (key, v) [])

    pub with_end-other : (ends : List (K × V)) (key : K) (end : Option V) (other : K) → other ≢ key
        → value_at order (with_end ends key end) other ≡ value_at order ends other
    with_end-other ends key None other ne = refl
    with_end-other ends key (Some v) other ne =
        found_append ends ((key, v) ∷ []) other
        ∙ (ap (option_or (value_at order ends other)) (found_behind (key, v) [] other ne)
        ∙ or_none (value_at order ends other))
