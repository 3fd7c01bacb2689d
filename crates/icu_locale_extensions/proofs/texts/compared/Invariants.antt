use Rattle.std.proofs.Common.{◌≡◌}
use Rattle.std.specs.Cmp.Lexicographic.{slice_cmp}
use Rattle.icu_locale_core.specs.TextSet.{text_cmp}
use Rattle.icu_locale_extensions.proofs.texts.compared.Given as goal

abbrev pub invariant-loop-piece : goal.invariant-loop-piece
invariant-loop-piece l =
    slice_cmp text_cmp l.fn.left l.fn.right ≡ slice_cmp text_cmp l.piece-iterator l.right
