use Rattle.std.proofs.Common.{◌-◌, map}
use Rattle.icu_locale_core.specs.TextSet.{text_cmp}
use Rattle.icu_tables_flat.specs.Form.{group_of}
use Rattle.icu_tables_flat.proofs.Searches.{IsBetween}
use Rattle.icu_tables_flat.proofs.search.run_at_name.Given as goal

abbrev pub invariant-loop-low : goal.invariant-loop-low
invariant-loop-low l = IsBetween text_cmp (map (group_of l.fn.texts) l.fn.groups) l.fn.name l.low l.high

abbrev pub decreases-loop-low : goal.decreases-loop-low
decreases-loop-low l = l.high - l.low
