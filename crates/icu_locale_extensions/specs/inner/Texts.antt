-- A text of pieces in lower case.
use Rattle.std.specs.Prelude.{◌≡◌, ℕ, ◌==◌, if◌then◌else◌, List}
use Rattle.std.specs.List.{All}
use Rattle.std.specs.Char.{to_ascii_lowercase}
use Rattle.icu_locale_core.specs.Identifier.{pieces}
use Rattle.icu_locale_core.specs.Value.{written_value}
use Rattle.icu_locale_extensions.specs.Extensions.{IsPiece}

-- a character in lower case, and `-` for a separator
abbrev pub spelled : ℕ → ℕ
spelled c = if c == 95 then 45 else to_ascii_lowercase c

-- pieces in lower case with `-` between them
pub record IsPiecesText (low : ℕ) (t : List ℕ) : Type 0 where
  pub each : All (IsPiece low) (pieces t)
  pub joined : written_value (pieces t) ≡ t
