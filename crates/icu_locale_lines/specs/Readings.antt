-- Lines that are read as something, and those that are refused.
use Rattle.std.specs.Prelude.{◌≡◌, ◌⊎◌, ℕ, Bool, false, List}
use Rattle.icu_locale_core.specs.Identifier.{parse_error_name}
use Rattle.icu_locale_core.specs.declared.parse_error.ParseError.{ParseError}
use Rattle.icu_locale_lines.specs.Texts.{refused_line}

-- a line that spells something gives its line; every other gives the refusal's
abbrev pub IsReadAnswer : {A : Type 0} → (Reads : List ℕ → A → Type 0)
    → (Faults : List ℕ → ParseError → Type 0) → (IsLine : A → List ℕ → Bool → Type 0)
    → List ℕ → List ℕ → Bool → Type 0
IsReadAnswer {A} Reads Faults IsLine line text accepted =
    ((x : A) × Reads line x × IsLine x text accepted)
    ⊎ ((e : ParseError) × Faults line e × (text ≡ refused_line (parse_error_name e))
    × (accepted ≡ false))
