-- Whether a piece is raw, by the places of the raw ones.
use Rattle.std.proofs.Common.{◌≡◌, ◌≢◌, ◌↔◌, refl, ℕ, Bool, true, false, not, List, [], ◌∷◌, length, ◌==◌, arith}
use Rattle.std.proofs.lemmas.Bool.Decides.{nat_tests}
use Rattle.icu_locale_names.specs.Pieces.{Piece, spans, has_raw}

by_list : (places : List (ℕ × ℕ)) (raw : Bool) → (raw ≡ true) ↔ (places ≢ []) → not (length places == 0) ≡ raw
by_list [] true both = absurd (both.0 refl refl)
by_list [] false both = refl
by_list (p ∷ places) raw both = grind (arith, nat_tests, both.1 (λ none. absurd (cc)))

pub raw_by_spans : (pieces : List Piece) → (has_raw pieces ≡ true) ↔ (spans pieces ≢ []) → not (length (spans pieces) == 0) ≡ has_raw pieces
raw_by_spans pieces both = by_list (spans pieces) (has_raw pieces) both
