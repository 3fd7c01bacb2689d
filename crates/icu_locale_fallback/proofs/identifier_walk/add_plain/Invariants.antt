use Rattle.std.proofs.Common.{◌≡◌, ◌++◌, map, take}
use Rattle.icu_locale_fallback.specs.Identifiers.{plain}
use Rattle.icu_locale_fallback.proofs.identifier_walk.add_plain.Given as goal

abbrev pub invariant-loop-locale : goal.invariant-loop-locale
invariant-loop-locale l = l.list.items ≡ l.fn.list.items ++ map plain (take l.locale-index l.locales)
