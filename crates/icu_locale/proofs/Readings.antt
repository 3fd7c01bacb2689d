-- What is kept of rows, one row after another.
use Rattle.std.proofs.Common.{◌≡◌, ℕ, zero, suc, ◌<◌, Bool, false, List, [], ◌∷◌, ◌++◌, map, length, get_or, Option, Some, None, inl, inr}
use Rattle.std.proofs.Common.{refl, ap, sym, ◌∙◌, subst, arith, append-nil}
use Rattle.std.proofs.lemmas.Bool.{and_left, and_right}
use Rattle.std.specs.List.{list_all, AllByRecursion}
use Rattle.std.specs.List.Sorted.{IsStrictlySortedBy}
use Rattle.std.specs.Map.{keys_of}
use Rattle.std.specs.declared.cmp.Ordering.TheVariants.{Less}
use Rattle.icu_locale_core.specs.TextSet.{text_cmp}
use Rattle.icu_provider.specs.SortedMaps.{IsSortedMap}
use Rattle.std.specs.Option.{option_to_list, MatchOption}
use Rattle.icu_locale.specs.Rules.{AreRead}

module _ {R K : Type 0} (reads : R → K → Type 0) where
  -- one more row that is read
  pub AreRead-push : (rows : List R) (kept : List K) (row : R) (k : K) → AreRead reads rows kept → reads row k
      → AreRead reads (rows ++ row ∷ []) (kept ++ k ∷ [])
  AreRead-push [] kept row k none read = inl (k, [], ap (λ ks. ks ++ k ∷ []) none, read, refl)
  AreRead-push (r ∷ rows) kept row k (inl (first, rest, is, here, later)) read =
      inl (first, rest ++ k ∷ [], ap (λ ks. ks ++ k ∷ []) is, here, AreRead-push rows rest row k later read)
  AreRead-push (r ∷ rows) kept row k (inr (off, later)) read = inr (off, AreRead-push rows kept row k later read)

  -- one more that cannot be read
  pub AreRead-skip : (rows : List R) (kept : List K) (row : R) → AreRead reads rows kept → ((k : K) → ¬ (reads row k)) → AreRead reads (rows ++ row ∷ []) kept
  AreRead-skip [] kept row none off = inr (off, none)
  AreRead-skip (r ∷ rows) kept row (inl (first, rest, is, here, later)) off = inl (first, rest, is, here, AreRead-skip rows rest row later off)
  AreRead-skip (r ∷ rows) kept row (inr (no_first, later)) off = inr (no_first, AreRead-skip rows kept row later off)

  -- one more row, whether it can be read or not
  pub AreRead-more : (rows : List R) (kept : List K) (row : R) (k : Option K) → AreRead reads rows kept
      → MatchOption k ((any : K) → ¬ (reads row any)) (reads row) → AreRead reads (rows ++ row ∷ []) (kept ++ option_to_list k)
  AreRead-more rows kept row (Some k) so_far read = AreRead-push rows kept row k so_far read
  AreRead-more rows kept row None so_far off = subst (AreRead reads (rows ++ row ∷ [])) (sym (append-nil kept)) (AreRead-skip rows kept row so_far off)

-- a test of each piece fails where it fails of one
pub list_all-off : {X : Type 0} (p : List ℕ → Bool) (f : X → List ℕ) (xs : List X) (k : ℕ) (d : X) → k < length xs
    → p (f (get_or xs k d)) ≡ false → list_all p (map f xs) ≡ false
list_all-off p f [] k d within off = absurd (omega arith)
list_all-off p f (x ∷ xs) zero d within off = and_left (p (f x)) (list_all p (map f xs)) off
list_all-off p f (x ∷ xs) (suc k) d within off = and_right (p (f x)) (list_all p (map f xs)) (list_all-off p f xs k d (omega arith) off)

-- ---- keys that rise still rise among the rows that were read

module _ {V W : Type 0} (reads : (List ℕ × V) → (List ℕ × W) → Type 0) (same_key : (row : List ℕ × V) (kept : List ℕ × W) → reads row kept
    → kept.0 ≡ row.0) where
  above_all : (x : List ℕ) (rows : List (List ℕ × V)) (kept : List (List ℕ × W)) → AreRead reads rows kept
      → AllByRecursion (λ y. text_cmp x y ≡ Less) (keys_of rows) → AllByRecursion (λ y. text_cmp x y ≡ Less) (keys_of kept)
  above_all x [] kept none above = subst (λ ks. AllByRecursion (λ y. text_cmp x y ≡ Less) (keys_of ks)) (sym none) tt
  above_all x (row ∷ rows) kept (inl (k, rest, is, here, later)) above =
      subst (λ ks. AllByRecursion (λ y. text_cmp x y ≡ Less) (keys_of ks)) (sym is)
      (ap (text_cmp x) (same_key row k here) ∙ above.0, above_all x rows rest later above.1)
  above_all x (row ∷ rows) kept (inr (off, later)) above = above_all x rows kept later above.1

  pub IsSortedMap-from_read : (rows : List (List ℕ × V)) (kept : List (List ℕ × W)) → AreRead reads rows kept → IsSortedMap text_cmp rows
      → IsSortedMap text_cmp kept
  unfolding IsStrictlySortedBy
  IsSortedMap-from_read [] kept none rise = subst (IsSortedMap text_cmp) (sym none) tt
  IsSortedMap-from_read (row ∷ rows) kept (inl (k, rest, is, here, later)) rise =
      subst (IsSortedMap text_cmp) (sym is) (
        subst (λ x. AllByRecursion (λ y. text_cmp x y ≡ Less) (keys_of rest))
            (sym (same_key row k here)) (above_all row.0 rows rest later rise.0),
        IsSortedMap-from_read rows rest later rise.1,
      )
  IsSortedMap-from_read (row ∷ rows) kept (inr (off, later)) rise = IsSortedMap-from_read rows kept later rise.1
