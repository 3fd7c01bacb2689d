-- The first status that is not that of a valid code.
use Rattle.std.proofs.Common.{◌≡◌, ℕ, true, false, if◌then◌else◌, List, ◌∷◌, ap}
use Rattle.icu_locale_validity.specs.Statuses.{is_valid_status}
use Rattle.icu_locale_validity.specs.Types.{Types, first_fault, piece_status, statuses}
use Rattle.icu_locale_validity.specs.declared.table.Validity.{Validity}

module _ (v : Validity) (row : Types) (p : List ℕ) (ps : List (List ℕ)) where
  pub at_fault : is_valid_status (piece_status v row p ps) ≡ false → first_fault (statuses v row (p ∷ ps)) ≡ piece_status v row p ps
  at_fault e = ap (λ b. if b then first_fault (statuses v row ps) else piece_status v row p ps) e

  pub past_valid : is_valid_status (piece_status v row p ps) ≡ true → first_fault (statuses v row (p ∷ ps)) ≡ first_fault (statuses v row ps)
  past_valid e = ap (λ b. if b then first_fault (statuses v row ps) else piece_status v row p ps) e
