use Rattle.std.proofs.Common.{◌≡◌, take}
use Rattle.icu_locale_lines.proofs.session.list.copied.Given as goal

-- those before the place are copied
abbrev pub invariant-loop-identifier : goal.invariant-loop-identifier
invariant-loop-identifier l = l.list.items ≡ take l.identifier-index l.identifiers
