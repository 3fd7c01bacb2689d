-- Keys that have a name in a locale: those of each marker, and all of them once.
use Rattle.std.proofs.Common.{◌≡◌, ◌↔◌, ◌⊎◌, ◌<◌, ◌+◌, ℕ, suc, zero, Bool, true, false, ◌||◌, List, [], ◌∷◌, ◌++◌, length, take, get_or, None, refl, ap, sym, subst, ◌∙◌, inl, inr, arith, is_some, is_eq, codes}
use Rattle.std.specs.Prelude.{IsTrue}
use Rattle.std.specs.Cmp.{IsEquivalence}
use Rattle.std.specs.Ordering.{eq_by_cmp, ordering_then}
use Rattle.std.specs.declared.cmp.Ordering.{Ordering}
use Rattle.std.specs.declared.cmp.Ordering.TheVariants.{Less, Equal, Greater}
use Rattle.std.specs.List.{Contains, dedup, list_any}
use Rattle.std.specs.List.Sorted.{IsStrictlySortedBy, IsSorted, IsPermutation}
use Rattle.std.specs.Map.{keys_of}
use Rattle.std.proofs.lemmas.Bool.{false≢true}
use Rattle.std.proofs.lemmas.Cmp.{eq_by_cmp_equiv, tied_itself}
use Rattle.std.proofs.lemmas.List.Elements.{All-contains, All-from_recursion, Contains-append_left, Contains-append_right, Contains-append_cases}
use Rattle.std.proofs.lemmas.List.Folds.{list_any_more}
use Rattle.std.proofs.lemmas.List.Kept.{Contains-dedup, Contains-from_dedup, IsStrictlySortedBy-dedup}
use Rattle.std.proofs.lemmas.List.Sorted.{Contains-permutation, IsPermutation-sym}
use Rattle.std.proofs.lemmas.Map.Views.{Contains-keys_from_lookup, IsSome-lookup_from_Contains}
use Rattle.icu_locale_core.specs.Agreement.{TellsEquality}
use Rattle.icu_locale_core.specs.Maps.{value_at}
use Rattle.icu_provider.specs.Requests.{name_cmp}
use Rattle.icu_provider.specs.SortedMaps.{TiesEqualAlone}
use Rattle.icu_provider.specs.declared.data_locale.DataLocale.{DataLocale}
use Rattle.icu_provider.specs.declared.names.NameKey.{NameKey}
use Rattle.icu_provider.specs.declared.names.NameMarker.{NameMarker}
use Rattle.icu_provider.specs.declared.names.NameMarker.TheVariants.{RegionMediumLight}
use Rattle.icu_tables.specs.Groups.{Names, key_cmp}
use Rattle.icu_tables.specs.NamedKeys.{AreNamedKeys, is_named_by}
use Rattle.icu_tables.proofs.NameGroups.{group_total, key_total}

abbrev pub Rows : Type 0
Rows = List ((NameMarker × DataLocale × NameKey) × List ℕ)

-- ---- the order of keys

is_equal : (r : Ordering) → is_eq r ≡ true → r ≡ Equal
is_equal Less h = absurd (false≢true h)
is_equal Equal h = refl
is_equal Greater h = absurd (false≢true h)

-- it ties equal keys alone, as that of requests does
pub key_ties : TiesEqualAlone name_cmp → TiesEqualAlone key_cmp
key_ties ties k l = (
  λ tied. ap (λ r. r.2) ((ties (marker, at, k) (marker, at, l)).0 (ap (λ o. ordering_then o (key_cmp k l)) (tied_itself group_total (marker, at)) ∙ tied)),
  λ same. subst (λ x. key_cmp k x ≡ Equal) same (tied_itself key_total k),
)
  where
    marker : NameMarker
    marker = RegionMediumLight

    at : DataLocale
    at = record { language = codes "und"; script = None; region = None }

pub exact : TiesEqualAlone key_cmp → (k l : NameKey) → eq_by_cmp key_cmp k l ≡ true → k ≡ l
exact ties k l same = (ties k l).0 (is_equal (key_cmp k l) same)

-- ---- one marker

-- a key is among those of names exactly where it has one
pub key_has_name : TiesEqualAlone key_cmp → (names : Names) (key : NameKey)
    → Contains (keys_of names) key ↔ IsTrue (is_some (value_at key_cmp names key))
key_has_name ties names key = (IsSome-lookup_from_Contains (eq_by_cmp_equiv key_total) key names, Contains-keys_from_lookup (exact ties) key names)

-- ---- several markers

either_true : (a b : Bool) → (a || b) ≡ true → (a ≡ true) ⊎ (b ≡ true)
either_true true b h = inl refl
either_true false b h = inr h

first_true : (a b : Bool) → a ≡ true → (a || b) ≡ true
first_true a b h = ap (λ x. x || b) h

second_true : (a b : Bool) → b ≡ true → (a || b) ≡ true
second_true true b h = refl
second_true false b h = h

-- with the keys of one marker more
module _ (rows : Rows) (markers : List NameMarker) (locale : DataLocale) (i : ℕ) (d : NameMarker) (inside : i < length markers) (keys more : List NameKey) where
  abbrev pub names : NameKey → NameMarker → Bool
  names key marker = is_some (value_at name_cmp rows (marker, locale, key))

  pub gathered_more : ((key : NameKey) → Contains more key ↔ IsTrue (names key (get_or markers i d)))
      → ((key : NameKey) → Contains keys key ↔ IsTrue (is_named_by rows (take i markers) locale key))
      → (key : NameKey) → Contains (keys ++ more) key ↔ IsTrue (is_named_by rows (take (i + 1) markers) locale key)
  gathered_more now before key = (
    λ c. both ∙ by c,
    λ h. back (either_true _ _ (sym both ∙ h)),
  )
    where
      both : list_any (names key) (take (i + 1) markers) ≡ (list_any (names key) (take i markers) || names key (get_or markers i d))
      both = list_any_more (names key) markers i d inside

      by : Contains (keys ++ more) key → (list_any (names key) (take i markers) || names key (get_or markers i d)) ≡ true
      by c = elim (Contains-append_cases keys more key c) [
        | inl first ↦ first_true _ _ ((before key).0 first)
        | inr second ↦ second_true _ _ ((now key).0 second)
      ]

      back : (list_any (names key) (take i markers) ≡ true) ⊎ (names key (get_or markers i d) ≡ true) → Contains (keys ++ more) key
      back (inl h) = Contains-append_left keys more key ((before key).1 h)
      back (inr h) = Contains-append_right keys more key ((now key).1 h)

-- ---- each once

pub tests_agree : (a b : Bool) → (a ≡ true → b ≡ true) → (b ≡ true → a ≡ true) → a ≡ b
tests_agree true b there back = sym (there refl)
tests_agree false true there back = back refl
tests_agree false false there back = refl

module _ (eq : NameKey → NameKey → Bool) (tells : TellsEquality eq) (ties : TiesEqualAlone key_cmp) where
  equivalence : IsEquivalence eq
  equivalence = record {
    refl = λ k. (tells k k).1 refl;
    symm = λ k l. tests_agree (eq k l) (eq l k) (λ h. (tells l k).1 (sym ((tells k l).0 h))) (λ h. (tells k l).1 (sym ((tells l k).0 h)));
    congr = λ k l m h. ap (λ x. eq x m) ((tells k l).0 h);
  }

  agree : (k l : NameKey) → eq k l ≡ eq_by_cmp key_cmp k l
  agree k l = tests_agree (eq k l) (eq_by_cmp key_cmp k l) (λ h. ap is_eq ((ties k l).1 ((tells k l).0 h))) (λ h. (tells k l).1 (exact ties k l h))

  module _ (list sorted left : List NameKey) (is : left ≡ dedup eq sorted) (moved : IsPermutation list sorted) where
    pub once_rises : IsSorted key_cmp sorted → IsStrictlySortedBy key_cmp left
    once_rises order = subst (IsStrictlySortedBy key_cmp) (sym is) (IsStrictlySortedBy-dedup key_total agree sorted order)

    pub once_each : (key : NameKey) → Contains left key ↔ Contains list key
    once_each key = (
      λ c. Contains-permutation sorted list key (IsPermutation-sym list sorted moved) (Contains-from_dedup eq sorted key (subst (λ l. Contains l key) is c)),
      λ c. subst (λ l. Contains l key) (sym is)
          (Contains-dedup equivalence (λ k l. (tells k l).0) sorted key (Contains-permutation list sorted key moved c)),
    )

-- ---- the keys are one list

either_one : (x k : NameKey) (xs : List NameKey) → Contains (x ∷ xs) k → (x ≡ k) ⊎ Contains xs k
either_one x k xs (zero, l, e) = inl e
either_one x k xs (suc n, l, e) = inr (n, omega arith, e)

at_first : (x : NameKey) (xs : List NameKey) → Contains (x ∷ xs) x
at_first x xs = (0, omega arith, refl)

later : (x k : NameKey) (xs : List NameKey) → Contains xs k → Contains (x ∷ xs) k
later x k xs (n, l, e) = (suc n, omega arith, e)

below : (x k : NameKey) (xs : List NameKey) → IsStrictlySortedBy key_cmp (x ∷ xs) → Contains xs k → key_cmp x k ≡ Less
unfolding IsStrictlySortedBy
below x k xs rise c = All-contains (λ y. key_cmp x y ≡ Less) xs k (All-from_recursion (λ y. key_cmp x y ≡ Less) xs rise.0) c

rest_rises : (x : NameKey) (xs : List NameKey) → IsStrictlySortedBy key_cmp (x ∷ xs) → IsStrictlySortedBy key_cmp xs
unfolding IsStrictlySortedBy
rest_rises x xs rise = rise.1

never_less : (k : NameKey) → key_cmp k k ≡ Less → ⊥
never_less k less = is_less (sym less ∙ tied_itself key_total k)
  where
    is_less : Less ≡ Equal → ⊥
    is_less h = cc h

pub same_keys : (xs ys : List NameKey) → IsStrictlySortedBy key_cmp xs → IsStrictlySortedBy key_cmp ys
    → ((k : NameKey) → Contains xs k ↔ Contains ys k) → xs ≡ ys
same_keys [] [] rise also each = refl
same_keys [] (y ∷ ys) rise also each = let c = (each y).1 (at_first y ys) in absurd (omega (arith, c.1))
same_keys (x ∷ xs) [] rise also each = let c = (each x).0 (at_first x xs) in absurd (omega (arith, c.1))
same_keys (x ∷ xs) (y ∷ ys) rise also each =
    ap (λ k. k ∷ xs) first ∙ ap (λ ks. y ∷ ks) (same_keys xs ys (rest_rises x xs rise) (rest_rises y ys also) (λ k. (there k, back k)))
  where
    one : (x ≡ y) ⊎ Contains xs y → (y ≡ x) ⊎ Contains ys x → x ≡ y
    one (inl same) other = same
    one (inr c) (inl same) = sym same
    one (inr c) (inr d) =
        let less = below x y xs rise c in
        absurd (never_less x (key_total.trans x y x less (below y x ys also d)))

    first : x ≡ y
    first = one (either_one x y xs ((each y).1 (at_first y ys))) (either_one y x ys ((each x).0 (at_first x xs)))

    there : (k : NameKey) → Contains xs k → Contains ys k
    there k c = elim (either_one y k ys ((each k).0 (later x k xs c))) [
      | inl same ↦ absurd (never_less x (subst (λ z. key_cmp x z ≡ Less) (sym same ∙ sym first) (below x k xs rise c)))
      | inr d ↦ d
    ]

    back : (k : NameKey) → Contains ys k → Contains xs k
    back k c = elim (either_one x k xs ((each k).1 (later y k ys c))) [
      | inl same ↦ absurd (never_less y (subst (λ z. key_cmp y z ≡ Less) (sym same ∙ first) (below y k ys also c)))
      | inr d ↦ d
    ]

pub named_keys_one : (rows : Rows) (markers : List NameMarker) (locale : DataLocale) (keys others : List NameKey)
    → AreNamedKeys rows markers locale keys → AreNamedKeys rows markers locale others → keys ≡ others
named_keys_one rows markers locale keys others are also =
    same_keys keys others are.rise also.rise (λ k. (λ c. (also.each k).1 ((are.each k).0 c), λ c. (are.each k).1 ((also.each k).0 c)))
