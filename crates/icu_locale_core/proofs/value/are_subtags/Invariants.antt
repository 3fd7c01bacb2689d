use Rattle.std.proofs.Common.{◌≡◌}
use Rattle.std.specs.List.{list_all}
use Rattle.icu_locale_core.specs.Subtag.{is_subtag}
use Rattle.icu_locale_core.proofs.value.are_subtags.Given as goal

abbrev pub invariant-loop-piece : goal.invariant-loop-piece
invariant-loop-piece l = list_all is_subtag l.fn.pieces ≡ list_all is_subtag l.piece-iterator
