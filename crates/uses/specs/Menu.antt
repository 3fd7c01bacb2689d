-- The line of a menu.
use Rattle.std.specs.Prelude.{◌≡◌, ◌⊎◌, ◌≤◌, ◌^◌, List, [], ◌∷◌, length, Result, Ok, Err}
use Rattle.icu_provider.specs.declared.error.DataError.{DataError}
use Rattle.icu_locale_core.specs.declared.langid.LanguageIdentifier.{LanguageIdentifier}
use Rattle.icu_locale_names.specs.LanguageChains.{chain_of}
use Rattle.icu_locale_names.specs.declared.name_chain.NameChain.TheVariants.{Light}
use Rattle.icu_locale_names.specs.LanguageNames.{LocaleAnswers, GivesName}
use Rattle.icu_locale_names.specs.Pieces.{Piece, text_of, spans}
use Rattle.icu_locale_names.specs.declared.options.LanguageDisplay.TheVariants.{Dialect}
use Rattle.icu_locale_names.specs.declared.errors.NameWriteError.TheVariants.{TooLong}
use Rattle.uses.specs.declared.menu.MenuLine.{MenuLine}
use Rattle.uses.specs.declared.menu.MenuError.{MenuError}
use Rattle.uses.specs.declared.menu.MenuError.TheVariants.{Refused, Unwritten}

-- the line has the text of the pieces and the spans of those that are raw
pub record ShowsPieces (pieces : List Piece) (line : MenuLine) : Type 0 where
  pub text : line.text.items ≡ text_of pieces
  pub raw : line.raw.items ≡ spans pieces

-- the line shows the pieces; or it was not written, and as too long only where its text is
abbrev pub Shows : List Piece → Result MenuLine MenuError → Type 0
Shows pieces (Ok line) = ShowsPieces pieces line
Shows pieces (Err (Refused e)) = ⊥
Shows pieces (Err (Unwritten e)) = e ≡ TooLong → 2 ^ 64 ≤ length (text_of pieces)

-- the line of a name, or the refusal of the name
abbrev pub IsMenuLineOf : Result (List Piece) DataError → Result MenuLine MenuError → Type 0
IsMenuLineOf (Ok pieces) result = Shows pieces result
IsMenuLineOf (Err refusal) result = result ≡ Err (Refused refusal)

-- the line of an identifier, over what a provider answers
abbrev pub IsLineFor : LocaleAnswers → LanguageIdentifier → Result MenuLine MenuError → Type 0
IsLineFor answers x result =
    (name : Result (List Piece) DataError) × IsMenuLineOf name result
    × GivesName answers (chain_of Light) Dialect x name

-- the refusal of the first identifier that has no line
abbrev pub IsFirstRefusal : LocaleAnswers → List LanguageIdentifier → MenuError → Type 0
IsFirstRefusal answers [] refusal = ⊥
IsFirstRefusal answers (x ∷ xs) refusal =
    IsLineFor answers x (Err refusal)
    ⊎ (((line : MenuLine) × IsLineFor answers x (Ok line)) × IsFirstRefusal answers xs refusal)
