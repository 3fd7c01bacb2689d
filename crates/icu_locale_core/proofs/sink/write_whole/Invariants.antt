use Rattle.std.proofs.Common.{◌≡◌, ◌++◌, List, ℕ, length}
use Rattle.std.specs.Io.KnownBytes.{Appends}
use Rattle.icu_locale_core.proofs.sink.write_whole.Given as goal

-- a beginning of the text is written, and the rest is left
abbrev pub invariant-loop-rest : goal.invariant-loop-rest
invariant-loop-rest g l = record {
  written : List ℕ;
  parted : l.fn.bytes ≡ written ++ l.rest;
  appended : Appends (g.W.Write.contents l.initial.sink) (g.W.Write.contents l.sink) written;
}

abbrev pub decreases-loop-rest : goal.decreases-loop-rest
decreases-loop-rest g l = length l.rest
