use Rattle.std.proofs.Common.{map}
use Rattle.icu_locale_lines.specs.Lists.{SpellsAll}
use Rattle.icu_locale_lines.proofs.work.list.read_texts.Given as goal

-- each text so far was read
abbrev pub invariant-loop-piece : goal.invariant-loop-piece
invariant-loop-piece l = SpellsAll l.initial.syntax (map (λ piece. piece.now) l.yielded) l.list.items
