use Rattle.std.proofs.Common.{◌≡◌, ◌+◌, length, drop}
use Rattle.icu_locale_core.specs.inner.Padded.{unpadded}
use Rattle.icu_locale_core.proofs.tiny.TinyText.len.Given as goal

abbrev pub invariant-loop-byte : goal.invariant-loop-byte
invariant-loop-byte g l = record {
  counted : l.length ≡ l.byte-index;
  rest : length (unpadded l.byte-items) ≡ l.length + length
      (unpadded (drop l.byte-index l.byte-items));
}
