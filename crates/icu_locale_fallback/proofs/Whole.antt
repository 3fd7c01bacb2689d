-- A list that has at each place what the run has there has each state of the run once.
use Rattle.std.proofs.Common.{◌≡◌, ◌≢◌, ◌-◌, ℕ, suc, List, length, get_or, Option, Some, option_and_then, ap, sym, ◌∙◌, arith}
use Rattle.std.specs.List.{slice_get, Contains, AllPairs}
use Rattle.std.proofs.lemmas.Option.{slice_get-get_or, slice_get_within, get_or_from_slice_get, slice_get_past}
use Rattle.icu_locale_runs.specs.Run.{at, StandsIn, EndsAt, HasEachOnce}
use Rattle.icu_locale_runs.specs.laws.Runs.{ends_with_no_repeat}

module _ {X : Type 0} (next : X → Option X) (x : X) (list : List X) (are : (i : ℕ) → slice_get list i ≡ at next x i) where
  stands : (y : X) → Contains list y → StandsIn next x y
  stands y (k, within, is) = (k, sym (are k) ∙ (slice_get-get_or list k y within ∙ ap Some is))

  is_listed : (y : X) → StandsIn next x y → Contains list y
  is_listed y (k, here) =
      let there : slice_get list k ≡ Some y = are k ∙ here in (k, slice_get_within list k y there, get_or_from_slice_get list k y y there)

  -- the run ends where the list does
  end_of : (n : ℕ) → length list ≡ suc n → (d : X) → EndsAt next x (get_or list n d)
  end_of n size d =
      let here : at next x n ≡ Some (get_or list n d) = sym (are n) ∙ slice_get-get_or list n d (omega (arith, size)) in
      record {
        stands = (n, here);
        last = sym (ap (option_and_then next) here) ∙ (sym (are (suc n)) ∙ slice_get_past list (suc n) (omega (arith, size)));
      }

  once : AllPairs (λ y z. y ≢ z) list
  once i j d before below same =
      let ends = end_of (length list - 1) (omega (arith, below)) d in
      let one : at next x i ≡ Some (get_or list i d) = sym (are i) ∙ slice_get-get_or list i d (omega (arith, before, below)) in
      let two : at next x j ≡ Some (get_or list j d) = sym (are j) ∙ slice_get-get_or list j d below in
      ends_with_no_repeat next x _ (get_or list j d) ends (i, j, before, one ∙ ap Some same, two)

  pub each_once : HasEachOnce next x list
  each_once = record { each = is_listed; no_other = stands; once = once }
