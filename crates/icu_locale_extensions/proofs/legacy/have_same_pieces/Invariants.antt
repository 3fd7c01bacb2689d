use Rattle.std.proofs.Common.{◌≡◌, ℕ, ◌<◌, get_or}
use Rattle.icu_locale_extensions.specs.inner.Texts.{spelled}
use Rattle.icu_locale_extensions.proofs.legacy.have_same_pieces.Given as goal

-- the bytes so far are alike
abbrev pub invariant-loop-i : goal.invariant-loop-i
invariant-loop-i l = (k : ℕ) → k < l.i → spelled (get_or l.text k 0) ≡ spelled (get_or l.other k 0)
