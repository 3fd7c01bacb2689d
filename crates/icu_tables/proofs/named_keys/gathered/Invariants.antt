use Rattle.std.proofs.Common.{◌↔◌, ◌++◌, option_copied, take}
use Rattle.std.specs.Prelude.{IsTrue}
use Rattle.std.specs.List.{Contains}
use Rattle.icu_provider.specs.declared.names.NameKey.{NameKey}
use Rattle.icu_tables.specs.LentNames.{lent_rows}
use Rattle.icu_tables.specs.NamedKeys.{is_named_by}
use Rattle.icu_tables.proofs.named_keys.gathered.Given as goal

-- the keys are those that the markers so far name
abbrev pub invariant-loop-marker : goal.invariant-loop-marker
invariant-loop-marker l = (key : NameKey) → Contains l.keys.items key
    ↔ IsTrue (is_named_by (l.fn.own ++ lent_rows (option_copied l.fn.lent)) (take l.marker-index l.fn.markers) l.fn.locale key)
