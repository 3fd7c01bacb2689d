use Rattle.std.proofs.Common.{map}
use Rattle.std.specs.List.{AllZip}
use Rattle.icu_locale_lines.specs.Lists.{SpellsWanted}
use Rattle.icu_locale_lines.proofs.work.offered.read_wanted.Given as goal

-- each text so far was read
abbrev pub invariant-loop-piece : goal.invariant-loop-piece
invariant-loop-piece l = AllZip (SpellsWanted l.initial.syntax) (map (λ piece. piece.now) l.yielded) l.list.items
