-- Lines that are locales: an identifier, or an identifier, a tab and a value for `rg`.
use Rattle.std.specs.Prelude.{◌≡◌, ◌⊎◌, ℕ, ◌+◌, Bool, ◌==◌, true, false, List, [], ◌∷◌, drop, Option, Some, None}
use Rattle.std.specs.List.{position, before_first}
use Rattle.std.specs.Option.{option_map}
use Rattle.icu_locale_core.specs.Identifier.{IsIdentifier, Spells}
use Rattle.icu_locale_core.specs.Keywords.{KeywordRows}
use Rattle.icu_locale_core.specs.Value.{is_value, read_value}
use Rattle.icu_locale_core.specs.declared.langid.LanguageIdentifier.{LanguageIdentifier}
use Rattle.icu_locale_core.specs.declared.locale.Locale.{Locale}
use Rattle.icu_locale_core.specs.declared.parse_error.ParseError.{ParseError}
use Rattle.icu_locale_core.specs.declared.parse_error.ParseError.TheVariants.{InvalidSubtag}
use Rattle.icu_locale.specs.Canonical.{rg}
use Rattle.icu_locale_lines.specs.Lists.{IsFault}

-- a tab
abbrev pub is_tab : ℕ → Bool
is_tab c = c == 9

-- what is before the first tab of a line, or all of it
abbrev pub identifier_text : List ℕ → List ℕ
identifier_text line = before_first is_tab line

-- what follows the first tab of a line, if there is one
abbrev pub value_text : List ℕ → Option (List ℕ)
value_text line = option_map (λ place. drop (place + 1) line) (position is_tab line)

-- where there is a text, it reads as a value
abbrev pub is_readable : Option (List ℕ) → Bool
is_readable None = true
is_readable (Some text) = is_value text

-- where there is a text, its value is at `rg`; else there are no keywords
abbrev pub keywords_of : Option (List ℕ) → KeywordRows
keywords_of None = []
keywords_of (Some text) = (rg, read_value text) ∷ []

-- the line spells the locale: it has the identifier, at `rg` the value if there is one, and nothing else
pub record SpellsLocale (line : List ℕ) (locale : Locale) : Type 0 where
  pub known : IsIdentifier locale.id
  pub id : Spells (identifier_text line) locale.id
  pub readable : is_readable (value_text line) ≡ true
  pub keywords : locale.extensions.unicode.keywords ≡ keywords_of (value_text line)
  pub transform : locale.extensions.transform.lang ≡ None

-- the text spells some identifier
abbrev pub SpellsSome : List ℕ → Type 0
SpellsSome text = (x : LanguageIdentifier) × IsIdentifier x × Spells text x

-- there is a text that reads as no value
abbrev pub IsValueFault : Option (List ℕ) → ParseError → Type 0
IsValueFault text e = (is_readable text ≡ false) × (e ≡ InvalidSubtag)

-- why a line spells no locale: its identifier is asked first, and then its value
pub record IsLocaleFault (line : List ℕ) (e : ParseError) : Type 0 where
  pub fault : IsFault (identifier_text line) e
      ⊎ (SpellsSome (identifier_text line) × IsValueFault (value_text line) e)
