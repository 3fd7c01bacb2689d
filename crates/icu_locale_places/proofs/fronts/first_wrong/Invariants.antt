use Rattle.std.proofs.Common.{◌≡◌, ◌-◌, ◌<◌, ◌≤◌, suc, true, false, length, take}
use Rattle.icu_locale_core.specs.Identifier.{pieces}
use Rattle.icu_locale_places.specs.Places.{begins_some}
use Rattle.icu_locale_places.proofs.fronts.first_wrong.Given as goal

abbrev pub invariant-halves : goal.invariant-halves
invariant-halves l = record {
  ordered : l.low ≤ l.high;
  inside : l.high < length (pieces l.text);
  before : begins_some (take l.low (pieces l.text)) ≡ true;
  there : begins_some (take (suc l.high) (pieces l.text)) ≡ false;
}

abbrev pub decreases-halves : goal.decreases-halves
decreases-halves l = l.high - l.low
