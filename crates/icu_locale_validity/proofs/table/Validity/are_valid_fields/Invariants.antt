use Rattle.std.proofs.Common.{◌≡◌, true, take}
use Rattle.icu_locale_validity.specs.inner.Wholes.{are_fields}
use Rattle.icu_locale_validity.proofs.table.Validity.are_valid_fields.Given as goal

abbrev pub invariant-loop-row : goal.invariant-loop-row
invariant-loop-row l = are_fields l.self (take l.row-index l.rows) ≡ true
