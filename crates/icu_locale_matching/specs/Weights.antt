-- Weights of RFC 9110, section 12.4.2, in thousandths.
use Rattle.std.specs.Prelude.{ℕ, ◌+◌, ◌-◌, ◌*◌, Bool, ◌&&◌, ◌||◌, ◌==◌, nat_le, List, length, codes, Option, Some, None, if◌then◌else◌, slice_index}
use Rattle.std.specs.Char.{is_ascii_digit}
use Rattle.std.specs.List.{list_all, before_first, after_first}
use Rattle.std.specs.Str.{bytes_eq}

-- `.`, which is 46
abbrev pub is_point : ℕ → Bool
is_point c = c == 46

-- up to three digits
abbrev pub are_digits : List ℕ → Bool
are_digits ds = nat_le (length ds) 3 && list_all is_ascii_digit ds

-- a digit as a number; 0 past the end
abbrev pub digit : List ℕ → ℕ → ℕ
digit ds i = slice_index ds i - 48

-- the digits after a point, in thousandths
abbrev pub thousandths : List ℕ → ℕ
thousandths ds = 100 * digit ds 0 + 10 * digit ds 1 + digit ds 2

-- what is before a point, and the digits after it: 0 to 1. Nothing before the point is 0, which the RFC leaves out
abbrev pub weight_of : (whole digits : List ℕ) → Option ℕ
weight_of whole digits =
    if are_digits digits then
    (if bytes_eq whole (codes "1") then (if thousandths digits == 0 then Some 1000 else None)
    else (if bytes_eq whole (codes "0") || ((length whole == 0) && (nat_le 1 (length digits)))
    then Some (thousandths digits) else None))
    else None

-- qvalue: 0 to 1, with up to three digits
abbrev pub qvalue : List ℕ → Option ℕ
qvalue t = weight_of (before_first is_point t) (after_first is_point t)
