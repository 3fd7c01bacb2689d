-- What parts in the form are known to be.
use Rattle.std.proofs.Common.{◌≡◌, ℕ, zero, suc, ◌-◌, ◌<◌, ◌≤◌, Bool, true, false, nat_lt, if◌then◌else◌, List, [], ◌∷◌, map, length, get_or, take, drop, slice_get, Option, Some, None, refl, ap, ◌∙◌, subst, arith}
use Rattle.std.specs.List.{list_all, All, AllByRecursion}
use Rattle.std.specs.List.Sorted.{IsStrictlySortedBy}
use Rattle.std.specs.Map.{keys_of}
use Rattle.std.specs.Option.{option_and_then, option_map}
use Rattle.std.specs.Ordering.{is_lt}
use Rattle.std.specs.declared.cmp.Ordering.{Ordering}
use Rattle.std.specs.declared.cmp.Ordering.TheVariants.{Less, Equal, Greater}
use Rattle.std.proofs.lemmas.Bool.{and_parts, and_from, false≢true, ltb-true}
use Rattle.std.proofs.lemmas.List.{length-map}
use Rattle.std.proofs.lemmas.Option.{none-some, same_Some, slice_get-get_or, slice_get-map, slice_get_past, slice_get_within}
use Rattle.std.proofs.lemmas.List.Elements.{All-from_recursion, recursion_from_All, All-weaker}
use Rattle.std.proofs.lemmas.List.Sums.{AllPass-from_list_all}
use Rattle.icu_locale_core.specs.TextSet.{text_cmp}
use Rattle.icu_locale_core.specs.laws.TextSets.{text_total}
use Rattle.icu_locale_core.specs.Maps.{IsSortedMap}
use Rattle.icu_tables_flat.specs.Flat.{run_at}
use Rattle.icu_tables_flat.specs.Form.{FlatParts, number32, flat_parts, flat_rows, said, well_formed, cut, row_of, is_group, is_row, rises, rises_after, ends, ends_at}
use Rattle.icu_tables_flat.proofs.Cuts.{length-cut}

less_from_is : (o : Ordering) → is_lt o ≡ true → o ≡ Less
less_from_is Less is = refl
less_from_is Equal is = absurd (false≢true is)
less_from_is Greater is = absurd (false≢true is)

-- texts that rise after one are above it, and in order
sorted_after : (before : List ℕ) (ts : List (List ℕ)) → rises_after before ts ≡ true
    → AllByRecursion (λ t. text_cmp before t ≡ Less) ts × IsStrictlySortedBy text_cmp ts
unfolding IsStrictlySortedBy
sorted_after before [] is = (tt, tt)
sorted_after before (t ∷ ts) is =
    let parts = and_parts _ _ is in
    let first = less_from_is (text_cmp before t) parts.0 in
    let later = sorted_after t ts parts.1 in (
      (
        first,
        recursion_from_All _ _ (All-weaker (λ u. text_cmp t u ≡ Less) (λ u. text_cmp before u ≡ Less)
            (λ u. text_total.trans before t u first) _ (All-from_recursion _ _ later.0)),
      ),
      (later.0, later.1),
    )

pub sorted_from_rises : (ts : List (List ℕ)) → rises ts ≡ true → IsStrictlySortedBy text_cmp ts
unfolding IsStrictlySortedBy
sorted_from_rises [] is = tt
sorted_from_rises (t ∷ ts) is = sorted_after t ts is

-- what the test of parts tells
pub record IsFormed (p : FlatParts) : Type 0 where
  pub groups : list_all (is_group p.texts) p.groups ≡ true
  pub rows : list_all (is_row p.texts) p.rows ≡ true
  pub names : IsSortedMap text_cmp (said p).groups
  pub there : All (λ group. group.1 < length (said p).runs) (said p).groups
  pub ended : ends_at (length p.rows) 0 (ends p.runs) ≡ true
  pub keys : All (IsSortedMap text_cmp) (said p).runs

length_runs : (p : FlatParts) → length (said p).runs ≡ length p.runs
length_runs p =
    length-map (cut 0 (ends p.runs) p.rows) (map (row_of p.texts))
    ∙ length-cut 0 (ends p.runs) p.rows
    ∙ length-map p.runs (λ entry. number32 entry 0)

pub formed : (p : FlatParts) → well_formed p ≡ true → IsFormed p
unfolding well_formed
formed p is =
    let a = and_parts _ _ is in
    let b = and_parts _ _ a.0 in
    let c = and_parts _ _ b.0 in
    let d = and_parts _ _ c.0 in
    let e = and_parts _ _ d.0 in
    let f = and_parts _ _ e.0 in
    record {
      groups = f.1;
      rows = e.1;
      names = sorted_from_rises (keys_of (said p).groups) d.1;
      there = λ k d within.
          let below : (get_or (said p).groups k d).1 < length p.runs =
          ltb-true _ _ (AllPass-from_list_all (λ group. nat_lt group.1 (length p.runs)) (said p).groups c.1 k d within) in
          omega (arith, below, length_runs p);
      ended = b.1;
      keys = λ k d within. sorted_from_rises _ (AllPass-from_list_all (λ run. rises (keys_of run)) (said p).runs a.1 k d within);
    }

-- ---- what bytes say

pub none_without_parts : (bytes : List ℕ) → flat_parts bytes ≡ None → flat_rows bytes ≡ None
unfolding flat_rows
none_without_parts bytes none = ap (option_and_then (λ p. if well_formed p then Some (said p) else None)) none

pub none_where_ill : (bytes : List ℕ) (p : FlatParts) → flat_parts bytes ≡ Some p → well_formed p ≡ false → flat_rows bytes ≡ None
unfolding flat_rows
none_where_ill bytes p parts ill =
    ap (option_and_then (λ p. if well_formed p then Some (said p) else None)) parts
    ∙ ap (λ b. if b then Some (said p) else None) ill

pub some_where_well : (bytes : List ℕ) (p : FlatParts) → flat_parts bytes ≡ Some p → well_formed p ≡ true → flat_rows bytes ≡ Some (said p)
unfolding flat_rows
some_where_well bytes p parts well =
    ap (option_and_then (λ p. if well_formed p then Some (said p) else None)) parts
    ∙ ap (λ b. if b then Some (said p) else None) well

-- ---- a run that is there

-- the rows of entries, if any
abbrev rows_in : (List ℕ → List ℕ × List ℕ) → Option (List (List ℕ)) → List (List ℕ × List ℕ)
rows_in row None = []
rows_in row (Some es) = map row es

run_at_told : (row : List ℕ → List ℕ × List ℕ) (runs : List (List (List ℕ))) (run : ℕ)
    → get_or (map (map row) runs) run [] ≡ rows_in row (slice_get runs run)
run_at_told row [] run = refl
run_at_told row (es ∷ runs) zero = refl
run_at_told row (es ∷ runs) (suc run) = run_at_told row runs run

all_dropped : (p : List ℕ → Bool) (n : ℕ) (xs : List (List ℕ)) → list_all p xs ≡ true → list_all p (drop n xs) ≡ true
all_dropped p zero xs all = all
all_dropped p (suc n) [] all = refl
all_dropped p (suc n) (x ∷ xs) all = all_dropped p n xs (and_parts _ _ all).1

all_taken : (p : List ℕ → Bool) (n : ℕ) (xs : List (List ℕ)) → list_all p xs ≡ true → list_all p (take n xs) ≡ true
all_taken p zero xs all = refl
all_taken p (suc n) [] all = refl
all_taken p (suc n) (x ∷ xs) all =
    let parts = and_parts _ _ all in
    and_from _ _ parts.0 (all_taken p n xs parts.1)

-- what holds of all entries holds of those of a run
all_cut : (p : List ℕ → Bool) (start : ℕ) (ends : List ℕ) (xs : List (List ℕ)) (run : ℕ) (es : List (List ℕ))
    → list_all p xs ≡ true → slice_get (cut start ends xs) run ≡ Some es → list_all p es ≡ true
all_cut p start [] xs run es all is = absurd (none-some es is)
all_cut p start (end ∷ later) xs zero es all is =
    subst (λ l. list_all p l ≡ true) (same_Some _ _ is) (all_taken p (end - start) (drop start xs) (all_dropped p start xs all))
all_cut p start (end ∷ later) xs (suc run) es all is = all_cut p end later xs run es all is

-- the entries of a run
pub record IsRun (p : FlatParts) (run : ℕ) (es : List (List ℕ)) : Type 0 where
  pub rows : run_at (said p) run ≡ map (row_of p.texts) es
  pub pieces : list_all (is_row p.texts) es ≡ true
  pub rise : IsSortedMap text_cmp (map (row_of p.texts) es)

pub run_known : (p : FlatParts) (run : ℕ) (es : List (List ℕ)) → IsFormed p
    → slice_get (cut 0 (ends p.runs) p.rows) run ≡ Some es → IsRun p run es
run_known p run es form is =
    let runs = cut 0 (ends p.runs) p.rows in
    let rows : run_at (said p) run ≡ map (row_of p.texts) es =
    run_at_told (row_of p.texts) runs run ∙ ap (rows_in (row_of p.texts)) is in
    record {
      rows = rows;
      pieces = all_cut (is_row p.texts) 0 (ends p.runs) p.rows run es form.rows is;
      rise = subst (λ r. IsSortedMap text_cmp r) rows
          (form.keys run [] (omega (arith, slice_get_within runs run es is, length-map runs (map (row_of p.texts)))));
    }

pub run_unknown : (p : FlatParts) (run : ℕ) → slice_get (cut 0 (ends p.runs) p.rows) run ≡ None → run_at (said p) run ≡ []
run_unknown p run is = run_at_told (row_of p.texts) (cut 0 (ends p.runs) p.rows) run ∙ ap (rows_in (row_of p.texts)) is

-- ---- the element at a place

pub slice_get_there : {A : Type 0} (f : List ℕ → A) (xs : List (List ℕ)) (at : ℕ) → at < length xs
    → slice_get (map f xs) at ≡ Some (f (get_or xs at []))
slice_get_there f xs at within = slice_get-map f xs at ∙ ap (option_map f) (slice_get-get_or xs at [] within)

pub slice_get_beyond : {A : Type 0} (f : List ℕ → A) (xs : List (List ℕ)) (at : ℕ) → length xs ≤ at → slice_get (map f xs) at ≡ None
slice_get_beyond f xs at past = slice_get_past (map f xs) at (omega (arith, length-map xs f))
