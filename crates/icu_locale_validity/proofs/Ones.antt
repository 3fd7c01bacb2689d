-- A search for a value of one piece.
use Rattle.std.proofs.Common.{◌≡◌, ◌==◌, false, ℕ, List, [], ◌∷◌, length, not, refl, ap, arith}
use Rattle.std.specs.Cmp.{IsTotalOrder}
use Rattle.std.specs.Ordering.{ordering_then}
use Rattle.std.proofs.lemmas.Bool.Decides.{nat_tests}
use Rattle.std.proofs.lemmas.Cmp.{lists_total, nat_list_cmp_total}
use Rattle.icu_locale_core.specs.TextSet.{text_cmp}
use Rattle.icu_locale_validity.specs.inner.Ones.{longer}
use Rattle.icu_locale_validity.specs.Types.{value_cmp}

pub value_total : IsTotalOrder value_cmp
value_total = lists_total nat_list_cmp_total

-- the first pieces decide, and then whether the first list has more
pub one_longer : (p q : List ℕ) (ps : List (List ℕ)) → ordering_then (text_cmp p q) (longer (not (length ps == 0))) ≡ value_cmp (p ∷ ps) (q ∷ [])
one_longer p q [] = refl
one_longer p q (r ∷ ps) =
    let some : (length (r ∷ ps) == 0) ≡ false = grind (arith, nat_tests) in
    ap (λ b. ordering_then (text_cmp p q) (longer (not b))) some
