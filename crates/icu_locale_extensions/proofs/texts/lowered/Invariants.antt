use Rattle.std.proofs.Common.{◌≡◌, map, take}
use Rattle.icu_locale_extensions.specs.inner.Texts.{spelled}
use Rattle.icu_locale_extensions.proofs.texts.lowered.Given as goal

abbrev pub invariant-loop-byte : goal.invariant-loop-byte
invariant-loop-byte l = l.list.items ≡ map spelled (take l.byte-index l.text)
