use Rattle.std.proofs.Common.{◌≡◌, take}
use Rattle.icu_locale_lines.specs.Lists.{ids_of}
use Rattle.icu_locale_lines.proofs.work.offered.ids_of.Given as goal

-- those before the place are copied
abbrev pub invariant-loop-whole : goal.invariant-loop-whole
invariant-loop-whole l = l.list.items ≡ ids_of (take l.whole-index l.wholes)
