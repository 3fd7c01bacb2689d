use Rattle.std.proofs.Common.{◌≡◌, None, option_copied, drop}
use Rattle.icu_tables_flat.specs.inner.Walks.{groups_fit}
use Rattle.icu_tables_flat.proofs.check.groups_fit.Given as goal

abbrev pub invariant-loop-group : goal.invariant-loop-group
invariant-loop-group l =
    groups_fit l.fn.runs l.fn.texts (option_copied l.before) (drop l.group-index l.fn.groups)
    ≡ groups_fit l.fn.runs l.fn.texts None l.fn.groups
