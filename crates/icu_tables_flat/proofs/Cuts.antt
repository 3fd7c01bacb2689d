-- The rows of a run lie from the end of the run before it to its own end.
use Rattle.std.proofs.Common.{◌≡◌, ℕ, zero, suc, ◌<◌, ◌≤◌, List, [], ◌∷◌, length, get_or, slice_get, slice_range, true, Option, Some, None, option_copied, Bor, refl, sym, ap, ◌∙◌, ⊎_elim, arith}
use Rattle.std.specs.Slice.{IsGetRangeResult}
use Rattle.std.proofs.lemmas.List.{get_or-map, length-map}
use Rattle.std.proofs.lemmas.Option.{slice_get_past}
use Rattle.std.proofs.lemmas.Bool.{and_parts, leb-true, eqb-true}
use Rattle.icu_tables_flat.specs.Form.{number32, cut, ends, ends_at}

module _ {A : Type 0} where
  pub length-cut : (start : ℕ) (ends : List ℕ) (rows : List A) → length (cut start ends rows) ≡ length ends
  length-cut start [] rows = refl
  length-cut start (end ∷ later) rows = omega (arith, length-cut end later rows)

  -- a run by its number
  pub cut_at : (start : ℕ) (ends : List ℕ) (rows : List A) (run : ℕ) → run < length ends
      → slice_get (cut start ends rows) run
      ≡ Some (slice_range rows (get_or (start ∷ ends) run 0) (get_or ends run 0))
  cut_at start [] rows run within = absurd (omega arith)
  cut_at start (end ∷ later) rows zero within = refl
  cut_at start (end ∷ later) rows (suc run) within = cut_at end later rows run (omega arith)

-- ends that do not fall are not above the last
pub below_last : (count start : ℕ) (ends : List ℕ) → ends_at count start ends ≡ true → start ≤ count
below_last count start [] is = omega (arith, eqb-true start count is)
below_last count start (end ∷ later) is =
    let parts = and_parts _ _ is in
    let first : start ≤ end = leb-true start end parts.0 in
    let last : end ≤ count = below_last count end later parts.1 in
    omega arith

-- a run ends at or past its start, and within the rows
pub run_bounds : (count start : ℕ) (ends : List ℕ) (run : ℕ) → ends_at count start ends ≡ true → run < length ends
    → (get_or (start ∷ ends) run 0 ≤ get_or ends run 0) × (get_or ends run 0 ≤ count)
run_bounds count start [] run is within = absurd (omega arith)
run_bounds count start (end ∷ later) zero is within =
    let parts = and_parts _ _ is in
    (leb-true start end parts.0, below_last count end later parts.1)
run_bounds count start (end ∷ later) (suc run) is within =
    run_bounds count end later run (and_parts _ _ is).1 (omega arith)

-- ---- what a range of rows is

got : {A : Type 0} (xs : List A) (from to : ℕ) (r : Option (Bor (List A))) → from ≤ to → to ≤ length xs
    → IsGetRangeResult xs from to r → option_copied r ≡ Some (slice_range xs from to)
got xs from to None order within is = absurd (⊎_elim (λ back. omega arith) (λ past. omega arith) is.0)
got xs from to (Some x) order within is = ap Some is.0.2

-- a run that is not there
pub run_past : (runs : List (List ℕ)) (rows : List (List ℕ)) (run : ℕ) → length runs ≤ run
    → slice_get (cut 0 (ends runs) rows) run ≡ None
run_past runs rows run past =
    slice_get_past (cut 0 (ends runs) rows) run
    (omega (arith, length-cut 0 (ends runs) rows, length-map runs (λ entry. number32 entry 0)))

-- a run that is there
pub run_there : (runs : List (List ℕ)) (rows : List (List ℕ)) (run from to : ℕ) (r : Option (Bor (List (List ℕ))))
    → ends_at (length rows) 0 (ends runs) ≡ true → run < length runs
    → from ≡ get_or (0 ∷ ends runs) run 0 → to ≡ number32 (get_or runs run []) 0
    → IsGetRangeResult rows from to r → option_copied r ≡ slice_get (cut 0 (ends runs) rows) run
run_there runs rows run from to r ended within starts stops is =
    let inside : run < length (ends runs) = omega (arith, length-map runs (λ entry. number32 entry 0)) in
    let last : get_or (ends runs) run 0 ≡ to = get_or-map (λ entry. number32 entry 0) runs run [] 0 within ∙ sym stops in
    let bounds = run_bounds (length rows) 0 (ends runs) run ended inside in
    got rows from to r (omega (arith, bounds.0, starts, last)) (omega (arith, bounds.1, last)) is
    ∙ (λ i. Some (slice_range rows (starts i) (sym last i)))
    ∙ sym (cut_at 0 (ends runs) rows run inside)
