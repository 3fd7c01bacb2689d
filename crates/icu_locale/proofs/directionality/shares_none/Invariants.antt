use Rattle.std.proofs.Common.{◌≡◌, not}
use Rattle.std.specs.List.{list_all}
use Rattle.icu_provider.specs.SortedMaps.{is_listed}
use Rattle.icu_locale.proofs.directionality.shares_none.Given as goal

-- what is left decides
abbrev pub invariant-loop-script : goal.invariant-loop-script
invariant-loop-script l =
    list_all (λ row. not (is_listed l.fn.others row.0)) l.fn.scripts
    ≡ list_all (λ row. not (is_listed l.fn.others row.0)) l.script-iterator
