use Rattle.std.proofs.Common.{◌≡◌, true, take}
use Rattle.icu_locale_validity.specs.inner.Wholes.{are_keywords}
use Rattle.icu_locale_validity.proofs.table.Validity.are_valid_keywords.Given as goal

abbrev pub invariant-loop-row : goal.invariant-loop-row
invariant-loop-row l = are_keywords l.self l.region (take l.row-index l.rows) ≡ true
