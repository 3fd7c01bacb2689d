use Rattle.std.proofs.Common.{◌≡◌, take}
use Rattle.std.specs.Int.Digits.{number_from_digits}
use Rattle.icu_locale_core.proofs.tiny.TinyText.number.Given as goal

-- the number that the bytes so far write
abbrev pub invariant-loop-byte : goal.invariant-loop-byte
invariant-loop-byte g l = l.number ≡ number_from_digits 256 (take l.byte-index l.byte-items)
