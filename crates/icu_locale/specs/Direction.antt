-- Which way the likely script of an identifier runs.
use Rattle.std.specs.Prelude.{ℕ, Bool, false, true, List, Option, Some, None, if◌then◌else◌, ◌≡◌}
use Rattle.icu_provider.specs.SortedMaps.{is_listed}
use Rattle.icu_provider.specs.declared.direction.ScriptDirection.{ScriptDirection}
use Rattle.icu_locale.specs.declared.directionality.Direction.{Direction}
use Rattle.icu_locale.specs.declared.directionality.Direction.TheVariants.{LeftToRight, RightToLeft}

-- a script that is there is in a list
abbrev pub is_script_in : List (List ℕ × Unit {0}) → Option (List ℕ) → Bool
is_script_in scripts None = false
is_script_in scripts (Some s) = is_listed scripts s

-- left to right where the script is in that list, else right to left where it is in the other
abbrev pub direction_of : ScriptDirection → Option (List ℕ) → Option Direction
direction_of d s =
    if is_script_in d.ltr s then Some LeftToRight
    else (if is_script_in d.rtl s then Some RightToLeft else None)

-- no script is in both lists
abbrev pub AreDisjoint : ScriptDirection → Type 0
AreDisjoint d = (s : List ℕ) → is_listed d.ltr s ≡ true → is_listed d.rtl s ≡ false
