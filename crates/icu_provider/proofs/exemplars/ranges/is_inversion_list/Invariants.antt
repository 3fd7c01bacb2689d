use Rattle.std.proofs.Common.{◌≡◌, drop}
use Rattle.icu_provider.specs.InversionList.{rise_from}
use Rattle.icu_provider.proofs.exemplars.ranges.is_inversion_list.Given as goal

-- what is left decides
abbrev pub invariant-loop-bound : goal.invariant-loop-bound
invariant-loop-bound l = rise_from 0 l.bounds ≡ rise_from l.least (drop l.bound-index l.bounds)
