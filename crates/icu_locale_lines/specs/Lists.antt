-- Lines that list identifiers, and what is written for a line of requests.
use Rattle.std.specs.Prelude.{◌≡◌, ℕ, Bool, ◌==◌, true, false, List, [], ◌∷◌, ◌++◌, map, length, codes, Option, Some, None}
use Rattle.std.specs.List.{AllZip, slice_split, slice_get}
use Rattle.std.specs.Option.{option_map, option_or}
use Rattle.icu_locale_core.specs.Identifier.{IsIdentifier, Spells, starts_with_language, written}
use Rattle.icu_locale_core.specs.declared.langid.LanguageIdentifier.{LanguageIdentifier}
use Rattle.icu_locale_core.specs.declared.parse_error.ParseError.{ParseError}
use Rattle.icu_locale_core.specs.declared.parse_error.ParseError.TheVariants.{InvalidLanguage, InvalidSubtag, Memory}
use Rattle.icu_locale.specs.LikelyTable.{likely}
use Rattle.icu_locale_extensions.specs.Built.{bare}
use Rattle.icu_locale_extensions.specs.Locales.{IsLocaleIdentifier}
use Rattle.icu_locale_extensions.specs.Locales as extended
use Rattle.icu_locale_extensions.specs.Syntaxes.{SpellsBy, IsFaultBy}
use Rattle.icu_locale_extensions.specs.declared.identifier.LocaleIdentifier.{LocaleIdentifier}
use Rattle.icu_locale_extensions.specs.declared.syntax.Syntax.{Syntax}
use Rattle.icu_locale.specs.Negotiation.{Negotiation, IsNegotiated}
use Rattle.icu_locale_lines.specs.Readings.{IsReadAnswer}
use Rattle.icu_locale_lines.specs.Texts.{matched_line}

-- a space
abbrev pub is_space : ℕ → Bool
is_space c = c == 32

-- a line cut at each space; an empty line lists nothing
abbrev pub listed : List ℕ → List (List ℕ)
listed [] = []
listed (c ∷ line) = slice_split is_space (c ∷ line)

-- why a text spells no identifier
abbrev pub IsFault : List ℕ → ParseError → Type 0
IsFault text InvalidLanguage = starts_with_language text ≡ false
IsFault text InvalidSubtag = (starts_with_language text ≡ true)
    × ((x : LanguageIdentifier) → IsIdentifier x → ¬ (Spells text x))
IsFault text Memory = ⊥

-- ---- in a syntax, or as identifiers alone

-- a text spells an identifier, alone or as that of a locale identifier in a syntax
abbrev pub SpellsIn : Option Syntax → List ℕ → LanguageIdentifier → Type 0
SpellsIn None text x = IsIdentifier x × Spells text x
SpellsIn (Some syntax) text x = (whole : LocaleIdentifier) × IsLocaleIdentifier whole
    × SpellsBy syntax text whole × (whole.locale.id ≡ x)

-- why it spells none
abbrev pub IsFaultIn : Option Syntax → List ℕ → ParseError → Type 0
IsFaultIn None text e = IsFault text e
IsFaultIn (Some syntax) text e = IsFaultBy syntax text e

-- each text spells its identifier, in order
abbrev pub SpellsAll : Option Syntax → List (List ℕ) → List LanguageIdentifier → Type 0
SpellsAll syntax texts identifiers = AllZip (SpellsIn syntax) texts identifiers

-- the first text that spells no identifier is refused so
pub record IsFirstFault (syntax : Option Syntax) (texts : List (List ℕ)) (e : ParseError)
    : Type 0 where
  pub earlier : List (List ℕ)
  pub text : List ℕ
  pub later : List (List ℕ)
  pub parted : texts ≡ earlier ++ text ∷ later
  pub identifiers : List LanguageIdentifier
  pub spelled : SpellsAll syntax earlier identifiers
  pub refused : IsFaultIn syntax text e

-- that text is at a place, counted from 0
abbrev pub IsFaultAt : Option Syntax → List (List ℕ) → ℕ → ParseError → Type 0
IsFaultAt syntax texts place e =
    (fault : IsFirstFault syntax texts e) × (length fault.earlier ≡ place)

-- the place of that text, or none where each spells an identifier
abbrev pub TellsFault : Option Syntax → List (List ℕ) → Option ℕ → Type 0
TellsFault syntax texts None = (xs : List LanguageIdentifier) × SpellsAll syntax texts xs
TellsFault syntax texts (Some place) = (e : ParseError) × IsFaultAt syntax texts place e

-- a line that lists identifiers gives their line; every other gives the refusal of its first fault
abbrev pub IsListedAnswer : Option Syntax → (List LanguageIdentifier → List ℕ → Bool → Type 0)
    → List ℕ → List ℕ → Bool → Type 0
IsListedAnswer syntax IsLine line text accepted = IsReadAnswer
    (λ t xs. SpellsAll syntax (listed t) xs) (λ t e. IsFirstFault syntax (listed t) e) IsLine line
    text accepted

-- ---- what is available

-- a text spells a locale identifier in a syntax
abbrev pub SpellsWhole : Syntax → List ℕ → LocaleIdentifier → Type 0
SpellsWhole syntax text x = IsLocaleIdentifier x × SpellsBy syntax text x

-- each text spells its locale identifier, in order
abbrev pub SpellsWholes : Syntax → List (List ℕ) → List LocaleIdentifier → Type 0
SpellsWholes syntax texts wholes = AllZip (SpellsWhole syntax) texts wholes

-- a text spells what a reader wants: a locale identifier in a syntax, or an identifier alone
abbrev pub SpellsWanted : Option Syntax → List ℕ → LocaleIdentifier → Type 0
SpellsWanted None text x = SpellsIn None text x.locale.id × (x ≡ bare x.locale.id)
SpellsWanted (Some syntax) text x = SpellsWhole syntax text x

-- a line that lists what a reader wants gives its line; every other gives the refusal of its first fault
abbrev pub IsWantedAnswer : Option Syntax → (List LocaleIdentifier → List ℕ → Bool → Type 0)
    → List ℕ → List ℕ → Bool → Type 0
IsWantedAnswer syntax IsLine line text accepted = IsReadAnswer
    (λ t xs. AllZip (SpellsWanted syntax) (listed t) xs)
    (λ t e. IsFirstFault syntax (listed t) e) IsLine line text accepted

-- the identifiers of locale identifiers
abbrev pub ids_of : List LocaleIdentifier → List LanguageIdentifier
ids_of wholes = map (λ x. x.locale.id) wholes

-- what texts make available: an identifier each, on which is decided; in a syntax that of a locale
-- identifier each, which is written whole, and none is kept without one
abbrev pub IsAvailable : Option Syntax → List (List ℕ) → List LanguageIdentifier
    → List LocaleIdentifier → Type 0
IsAvailable None texts identifiers wholes = SpellsAll None texts identifiers × (wholes ≡ [])
IsAvailable (Some syntax) texts identifiers wholes =
    SpellsWholes syntax texts wholes × (identifiers ≡ ids_of wholes)

-- how what is available at a place is written: the locale identifier with its extensions where one
-- is kept, else the identifier
abbrev pub shown_at : List LanguageIdentifier → List LocaleIdentifier → ℕ → Option (List ℕ)
shown_at available wholes place = option_or (option_map extended.written (slice_get wholes place))
    (option_map written (slice_get available place))

-- a line tells a place, and what is available at another
abbrev pub TellsPlace : List LanguageIdentifier → List LocaleIdentifier → ℕ → ℕ → List ℕ → Type 0
TellsPlace available wholes place found text = (shown : List ℕ)
    × (shown_at available wholes found ≡ Some shown) × (text ≡ matched_line place shown)

-- the place of the request that is met, and what is available and meets it; or `none`
abbrev pub TellsMatch : List LanguageIdentifier → List LocaleIdentifier → Option (ℕ × ℕ) → List ℕ
    → Type 0
TellsMatch available wholes None text = text ≡ codes "none\n"
TellsMatch available wholes (Some p) text = TellsPlace available wholes p.0 p.1 text

-- the line of requests: what is negotiated
abbrev pub IsNegotiatedLine : Negotiation → List LocaleIdentifier → List LanguageIdentifier
    → List ℕ → Bool → Type 0
IsNegotiatedLine n wholes requests text accepted = (found : Option (ℕ × ℕ))
    × IsNegotiated (likely n.expander) requests n.available found
    × TellsMatch n.available wholes found text × (accepted ≡ true)
