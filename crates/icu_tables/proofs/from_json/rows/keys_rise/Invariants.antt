use Rattle.std.proofs.Common.{drop}
use Rattle.icu_locale_core.specs.Maps.{IsSortedMap}
use Rattle.icu_tables.proofs.Rising.{RiseAfter}
use Rattle.icu_tables.proofs.from_json.rows.keys_rise.Given as goal

-- the keys rise where those that are left do
abbrev pub invariant-loop-key : goal.invariant-loop-key
invariant-loop-key g l = RiseAfter g.K.Ord.cmp l.before (drop l.key-index l.fn.rows) → IsSortedMap g.K.Ord.cmp l.fn.rows
