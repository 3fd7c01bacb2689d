-- The rows of a negotiator: those with a minimal form are side by side, by rising places.
use Rattle.std.proofs.Common.{◌≡◌, ℕ, ◌+◌, ◌-◌, ◌<◌, ◌≤◌, true, false, List, length, take, drop, get_or, Option, Some, None, refl, ap, sym, ◌∙◌}
use Rattle.std.proofs.Common.{subst, ⊎_elim, arith, length-drop}
use Rattle.std.specs.declared.cmp.Ordering.{Ordering}
use Rattle.std.specs.declared.cmp.Ordering.TheVariants.{Less, Equal, Greater}
use Rattle.std.specs.Ordering.{is_lt, is_le, ordering_index, ordering_then, MatchOrdering}
use Rattle.std.specs.Option.{option_cmp}
use Rattle.std.specs.Cmp.{IsTotalOrder}
use Rattle.std.specs.Cmp.Lexicographic.{options_total}
use Rattle.std.specs.List.{AllWithin, Contains}
use Rattle.std.specs.List.Sorted.{IsSorted, IsNonDecreasingBy, IsPartitionPoint, IsPartitionedBy}
use Rattle.std.proofs.lemmas.Bool.{false≢true, cases_lt}
use Rattle.std.proofs.lemmas.Cmp.{then_total, on_total, nat_cmp_total, tied_itself, ranked}
use Rattle.std.proofs.lemmas.List.{get_or-take, get_or-drop, length-take-le}
use Rattle.std.proofs.lemmas.List.Sorted.{sorted_far, searchable_from_sorted, ranks_by, IsNonDecreasingBy-drop}
use Rattle.icu_locale_core.specs.TextSet.{text_cmp}
use Rattle.icu_locale_core.specs.laws.TextSets.{text_total, text_same}
use Rattle.icu_provider.specs.declared.data_locale.DataLocale.{DataLocale}
use Rattle.icu_locale.specs.declared.negotiator.available.Row.{Row}
use Rattle.icu_provider.specs.laws.Requests.{both_tied}
use Rattle.icu_locale.specs.Index.{subtags_cmp, row_cmp}
use Rattle.icu_locale.specs.inner.Index.{IsPartOf}

-- ---- orders

locale_total : IsTotalOrder subtags_cmp
locale_total = then_total (on_total (λ (d : DataLocale). d.language) text_total)
    (then_total (on_total (λ (d : DataLocale). d.script) (options_total text_total)) (on_total (λ (d : DataLocale). d.region) (options_total text_total)))

row_total : IsTotalOrder row_cmp
row_total = then_total (on_total (λ (r : Row). r.minimal) locale_total) (on_total (λ (r : Row). r.place) nat_cmp_total)

same_option : (s t : Option (List ℕ)) → option_cmp text_cmp s t ≡ Equal → s ≡ t
same_option None None e = refl
same_option None (Some t) e = absurd (cc)
same_option (Some s) None e = absurd (cc)
same_option (Some s) (Some t) e = ap Some (text_same s t e)

-- locales that tie are one
same_locale_from_tied : (x y : DataLocale) → subtags_cmp x y ≡ Equal → x ≡ y
same_locale_from_tied x y e =
    let first = both_tied _ _ e in
    let rest = both_tied _ _ first.1 in
    let l : x.language ≡ y.language = text_same _ _ first.0 in
    let s : x.script ≡ y.script = same_option _ _ rest.0 in
    let r : x.region ≡ y.region = same_option _ _ rest.1 in
    λ i. record { language = l i; script = s i; region = r i }

-- ---- what follows from an answer of an order

first_not_less : (o p : Ordering) → is_lt (ordering_then o p) ≡ false → is_lt o ≡ false
first_not_less Less p e = e
first_not_less Equal p e = refl
first_not_less Greater p e = refl

second_not_less : (o p : Ordering) → o ≡ Equal → is_lt (ordering_then o p) ≡ false → is_lt p ≡ false
second_not_less Less p tied e = absurd (cc)
second_not_less Equal p tied e = e
second_not_less Greater p tied e = absurd (cc)

tied_between : (o : Ordering) → is_lt o ≡ false → is_le o ≡ true → o ≡ Equal
tied_between Less a b = absurd (cc)
tied_between Equal a b = refl
tied_between Greater a b = absurd (cc)

less_before : (o p : Ordering) → ordering_index o ≤ ordering_index p → is_lt p ≡ true → is_lt o ≡ true
less_before Less p h e = refl
less_before Equal Less h e = absurd (omega (arith, h))
less_before Equal Equal h e = e
less_before Equal Greater h e = e
less_before Greater Less h e = absurd (omega (arith, h))
less_before Greater Equal h e = e
less_before Greater Greater h e = e

at_most_before : (o p : Ordering) → ordering_index o ≤ ordering_index p → is_le p ≡ true → is_le o ≡ true
at_most_before Less p h e = refl
at_most_before Equal p h e = refl
at_most_before Greater Less h e = absurd (omega (arith, h))
at_most_before Greater Equal h e = absurd (omega (arith, h))
at_most_before Greater Greater h e = e

at_most_from_ranked : (m n : ℕ) (o : Ordering) → MatchOrdering o (m < n) (m ≡ n) (n < m) → is_lt o ≡ false → n ≤ m
at_most_from_ranked m n Less h e = absurd (cc)
at_most_from_ranked m n Equal h e = omega (arith, h)
at_most_from_ranked m n Greater h e = omega (arith, h)

-- ---- rows in order

module _ (rows : List Row) (sorted : IsSorted row_cmp rows) where
  -- seen from a minimal form, the rows are first below it, then at it, and then above it
  pub rows_rise : (d : DataLocale) → IsNonDecreasingBy (λ r. ordering_index (subtags_cmp r.minimal d)) rows
  rows_rise d = searchable_from_sorted locale_total (λ (r : Row). r.minimal) rows d (λ k e low high. first_not_less _ _ (sorted k e low high))

  -- of rows with the same minimal form, the earlier has the lesser place
  places_rise : (i j : ℕ) (e : Row) (d : DataLocale) → i ≤ j → j < length rows → (get_or rows i e).minimal ≡ d
      → (get_or rows j e).minimal ≡ d → (get_or rows i e).place ≤ (get_or rows j e).place
  places_rise i j e d le within first second =
      let far = sorted_far (λ r s. is_lt (row_cmp r s)) (ranks_by row_total (λ (r : Row). r)) rows sorted i j e le within in
      let tied : subtags_cmp (get_or rows j e).minimal (get_or rows i e).minimal ≡ Equal = ap (λ z. subtags_cmp z (get_or rows i e).minimal)
      (second ∙ sym first) ∙ tied_itself locale_total (get_or rows i e).minimal in
      at_most_from_ranked (get_or rows j e).place (get_or rows i e).place _ (ranked (get_or rows j e).place (get_or rows i e).place _ refl)
      (second_not_less _ _ tied far)

-- no row that is below a minimal form follows one that is not
pub parted_below : (rows : List Row) (d : DataLocale) → IsNonDecreasingBy (λ r. ordering_index (subtags_cmp r.minimal d)) rows
    → IsPartitionedBy (λ r. is_lt (subtags_cmp r.minimal d)) rows
parted_below rows d rise i j e le within below = less_before _ _ (rise i j e le within) below

-- nor one that is not above it follows one that is
pub parted_above : (rows : List Row) (d : DataLocale) → IsNonDecreasingBy (λ r. ordering_index (subtags_cmp r.minimal d)) rows
    → IsPartitionedBy (λ r. is_le (subtags_cmp r.minimal d)) rows
parted_above rows d rise i j e le within most = at_most_before _ _ (rise i j e le within) most

-- what follows the first rows is in the same order
pub rest_rises : (rows rest : List Row) (d : DataLocale) (below : ℕ) → IsSorted row_cmp rows → rest ≡ drop below rows
    → IsNonDecreasingBy (λ r. ordering_index (subtags_cmp r.minimal d)) rest
rest_rises rows rest d below sorted back =
    subst (IsNonDecreasingBy (λ r. ordering_index (subtags_cmp r.minimal d))) (sym back)
    (IsNonDecreasingBy-drop (λ (r : Row). ordering_index (subtags_cmp r.minimal d)) below rows (rows_rise rows sorted d))

-- the rows after those below a minimal form, up to those above it, are the ones with that form
module _ (rows : List Row) (sorted : IsSorted row_cmp rows) (d : DataLocale) (below count : ℕ) (within : below ≤ length rows)
    (long : count ≤ length (drop below rows))
    (before : AllWithin (λ r. is_lt (subtags_cmp r.minimal d) ≡ true) rows 0 below)
    (from : AllWithin (λ r. is_lt (subtags_cmp r.minimal d) ≡ false) rows below (length rows))
    (upto : AllWithin (λ r. is_le (subtags_cmp r.minimal d) ≡ true) (drop below rows) 0 count)
    (past : AllWithin (λ r. is_le (subtags_cmp r.minimal d) ≡ false) (drop below rows) count (length (drop below rows))) where
  abbrev part : List Row
  part = take count (drop below rows)

  part_length : length part ≡ count
  part_length = length-take-le count (drop below rows) long

  part_at : (k : ℕ) (e : Row) → k < count → get_or part k e ≡ get_or rows (below + k) e
  part_at k e lt = get_or-take count (drop below rows) k e lt ∙ get_or-drop below rows k e

  in_rows : (k : ℕ) → k < count → below + k < length rows
  in_rows k lt = omega (arith, length-drop below rows)

  form_at : (k : ℕ) (e : Row) → k < count → (get_or part k e).minimal ≡ d
  form_at k e lt =
      let not_below = from (below + k) e (omega arith) (in_rows k lt) in
      let not_above = upto k e (omega arith) lt in
      let here = part_at k e lt in
      let there = get_or-drop below rows k e in
      same_locale_from_tied _ d
      (ap (λ (r : Row). subtags_cmp r.minimal d) here
      ∙ tied_between _ not_below (ap (λ (r : Row). is_le (subtags_cmp r.minimal d)) (sym there) ∙ not_above))

  has_each : (r : Row) → Contains rows r → r.minimal ≡ d → Contains part r
  has_each r (k, lt, is) form =
      let tied : subtags_cmp (get_or rows k r).minimal d ≡ Equal = ap (λ (s : Row). subtags_cmp s.minimal d) is
      ∙ ap (λ z. subtags_cmp z d) form ∙ tied_itself locale_total d in
      let low : below ≤ k = ⊎_elim (λ lt_below. absurd (false≢true (sym (ap is_lt tied) ∙ before k r (omega arith) lt_below))) (λ le. le) (cases_lt k below) in
      let place : below + (k - below) ≡ k = omega arith in
      let there : get_or (drop below rows) (k - below) r ≡ get_or rows k r = get_or-drop below rows (k - below) r ∙ ap (λ n. get_or rows n r) place in
      let high : k - below < count = ⊎_elim (λ lt. lt) (λ le. absurd (false≢true
      (sym (past (k - below) r le (omega (arith, length-drop below rows))) ∙ ap (λ (s : Row). is_le (subtags_cmp s.minimal d)) there
      ∙ ap is_le tied))) (cases_lt (k - below) count) in
      (k - below, omega (arith, part_length), part_at (k - below) r high ∙ ap (λ n. get_or rows n r) place ∙ is)

  pub IsPartOf-taken : IsPartOf rows d part
  IsPartOf-taken = record {
    among = λ r (k, lt, is). (below + k, in_rows k (omega (arith, part_length)), sym (part_at k r (omega (arith, part_length))) ∙ is);
    form = λ r (k, lt, is). ap (λ (s : Row). s.minimal) (sym is) ∙ form_at k r (omega (arith, part_length));
    each = has_each;
    rises = λ i j e le lt.
        let j_lt : j < count = omega (arith, part_length) in
        let i_lt : i < count = omega arith in
        let first = part_at i e i_lt in
        let second = part_at j e j_lt in
        let up = places_rise rows sorted (below + i) (below + j) e d (omega arith) (in_rows j j_lt)
        (ap (λ (s : Row). s.minimal) (sym first) ∙ form_at i e i_lt) (ap (λ (s : Row). s.minimal) (sym second) ∙ form_at j e j_lt) in
        omega (arith, up, ap (λ (s : Row). s.place) first, ap (λ (s : Row). s.place) second);
  }

-- cut out of the list, they are still
pub IsPartOf-cut : (rows rest found : List Row) (d : DataLocale) (below count : ℕ) → IsSorted row_cmp rows → rest ≡ drop below rows
    → found ≡ take count rest → below ≤ length rows → count ≤ length rest
    → IsPartitionPoint (λ r. is_lt (subtags_cmp r.minimal d) ≡ true) (λ r. is_lt (subtags_cmp r.minimal d) ≡ false) rows below
    → IsPartitionPoint (λ r. is_le (subtags_cmp r.minimal d) ≡ true) (λ r. is_le (subtags_cmp r.minimal d) ≡ false) rest count
    → IsPartOf rows d found
IsPartOf-cut rows rest found d below count sorted back cut within long first second =
    subst (IsPartOf rows d) (sym (cut ∙ ap (take count) back))
    (IsPartOf-taken rows sorted d below count within (subst (λ (z : List Row). count ≤ length z) back long) first.0 first.1
    (subst (λ (z : List Row). AllWithin (λ r. is_le (subtags_cmp r.minimal d) ≡ true) z 0 count) back second.0)
    (subst (λ (z : List Row). AllWithin (λ r. is_le (subtags_cmp r.minimal d) ≡ false) z count (length z)) back second.1))
