use Rattle.std.proofs.Common.{◌≡◌, ◌++◌}
use Rattle.std.specs.List.{list_all}
use Rattle.icu_locale_core.specs.Subtag.{is_subtag}
use Rattle.icu_locale_core.specs.Value.{IsValue, read_subtags}
use Rattle.icu_locale_core.proofs.value.read_subtags.Given as goal

-- what was pushed, and then what is read of the pieces that are left, is read of the whole
abbrev pub invariant-loop-piece : goal.invariant-loop-piece
invariant-loop-piece l = record {
  read : read_subtags l.fn.pieces ≡ l.list.items ++ read_subtags l.piece-iterator;
  all : list_all is_subtag l.fn.pieces ≡ list_all is_subtag l.piece-iterator;
  known : IsValue l.list.items;
}
