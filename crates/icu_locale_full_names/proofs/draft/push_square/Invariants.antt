use Rattle.std.proofs.Common.{◌≡◌, ◌++◌, map, string_bytes, encode_utf8_all}
use Rattle.icu_locale_full_names.specs.Squares.{square}
use Rattle.icu_locale_full_names.proofs.draft.push_square.Given as goal

-- the characters that were seen follow the text, with square brackets
abbrev pub invariant-loop-c : goal.invariant-loop-c
invariant-loop-c l = string_bytes l.text ≡ string_bytes l.initial.text ++ encode_utf8_all (map square l.yielded)
