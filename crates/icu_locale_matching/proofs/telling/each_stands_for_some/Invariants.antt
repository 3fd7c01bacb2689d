use Rattle.std.proofs.Common.{◌≡◌, ◌<◌, ℕ, List, Some, length}
use Rattle.std.specs.Prelude.{Vec}
use Rattle.std.specs.Global.{Global}
use Rattle.std.specs.List.{slice_get}
use Rattle.icu_locale_matching.proofs.telling.each_stands_for_some.Given as goal

abbrev pub invariant-loop-row : goal.invariant-loop-row
invariant-loop-row l = (k : ℕ) (r : List ℕ × Vec (List ℕ) Global) → k < l.row-index → slice_get l.rows k ≡ Some r → 0 < length r.1.items
