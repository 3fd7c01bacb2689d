-- A span of rows is halved, and the look-up at its end.
use Rattle.std.proofs.Common.{◌≡◌, ◌≢◌, ℕ, ◌+◌, ◌*◌, ◌/◌, ◌-◌, ◌<◌, ◌≤◌, List, length, get_or, None, ⊎_elim, ap, sym, subst, ◌∙◌, arith}
use Rattle.std.specs.declared.cmp.Ordering.{Ordering}
use Rattle.std.specs.declared.cmp.Ordering.TheVariants.{Less, Equal}
use Rattle.std.specs.Ordering.{nat_cmp}
use Rattle.std.specs.Cmp.{IsTotalOrder}
use Rattle.std.specs.Map.{lookup}
use Rattle.std.specs.BTreeMap.{is_at}
use Rattle.std.proofs.lemmas.Bool.{cases_lt}
use Rattle.std.proofs.lemmas.Bool.Decides.{nat_tests}
use Rattle.icu_provider.specs.SortedMaps.{IsSortedMap}
use Rattle.icu_provider.specs.Places.{IsNearest}
use Rattle.icu_provider.specs.inner.Places.{IsSpan}
use Rattle.icu_provider.specs.laws.SortedMaps.{at_row, below_before, above_behind, lookup_in_gap}

-- numbers tell whether a key is below
below_from_number : (wanted number : ℕ) (answer : Ordering) → nat_cmp wanted number ≡ answer → wanted < number → answer ≡ Less
below_from_number wanted number answer is below = sym is ∙ grind (arith, nat_tests)

reached_from_number : (wanted number : ℕ) (answer : Ordering) → nat_cmp wanted number ≡ answer → number ≤ wanted → answer ≢ Less
reached_from_number wanted number answer is reached less = absurd (grind (arith, nat_tests, is, less))

-- equal numbers are those of equal keys, and others of others
pub tied_from_number : (wanted number : ℕ) (answer : Ordering) → nat_cmp wanted number ≡ answer → number ≡ wanted → answer ≡ Equal
tied_from_number wanted number answer is same = sym is ∙ grind (arith, nat_tests)

pub apart_from_number : (wanted number : ℕ) (answer : Ordering) → nat_cmp wanted number ≡ answer → number ≢ wanted → answer ≢ Equal
apart_from_number wanted number answer is apart tied = absurd (grind (arith, nat_tests, is, tied))

module _ {K V : Type 0} {compare : K → K → Ordering} (total : IsTotalOrder compare) (rows : List (K × V)) (key : K) where
  -- the half of the span that the key is not in is left out
  pub halved : (place size step wanted number : ℕ) (row : K × V) → IsSortedMap compare rows → IsSpan compare rows key place size → 1 < size
      → row ≡ get_or rows (place + size / 2) row → nat_cmp wanted number ≡ compare key row.0
      → (number ≤ wanted → step ≡ 1) → (wanted < number → step ≡ 0) → IsSpan compare rows key (place + size / 2 * step) (size - size / 2)
  halved place size step wanted number row sorted span some here is up down = ⊎_elim
      (λ (below : wanted < number).
      let less = at_row total (λ k. compare key k ≡ Less) rows (place + size / 2) row (omega (arith, span.within)) here
      (below_from_number wanted number _ is below) in
      let stays : place + size / 2 * step ≡ place = ap (λ s. place + size / 2 * s) (down below) ∙ omega arith in
      subst (λ p. IsSpan compare rows key p (size - size / 2)) (sym stays) (record {
        within = omega (arith, span.within);
        above_before = span.above_before;
        below_behind = λ k d low high. above_behind total rows key (place + size / 2) sorted less k d (omega arith) high;
      }))
      (λ (reached : number ≤ wanted).
      let above = at_row total (λ k. compare key k ≢ Less) rows (place + size / 2) row (omega (arith, span.within)) here
      (reached_from_number wanted number _ is reached) in
      let moves : place + size / 2 * step ≡ place + size / 2 = ap (λ s. place + size / 2 * s) (up reached) ∙ omega arith in
      subst (λ p. IsSpan compare rows key p (size - size / 2)) (sym moves) (record {
        within = omega (arith, span.within);
        above_before = below_before total rows key (place + size / 2) sorted (omega (arith, span.within)) above;
        below_behind = λ k d low high. span.below_behind k d (omega arith) high;
      }))
      (cases_lt wanted number)

  -- where the nearest place is past all rows, nothing is found
  pub lookup_past : (at : ℕ) → IsNearest compare rows key at → length rows ≤ at → lookup (is_at (compare key)) rows ≡ None
  lookup_past at nearest past = lookup_in_gap total rows key (length rows) (record {
    in_range = omega arith;
    above_before = λ k d low high. nearest.above_before k d low (omega arith);
    below_after = λ k d low high. absurd (omega arith);
  })
