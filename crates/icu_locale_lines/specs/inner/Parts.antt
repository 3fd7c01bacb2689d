-- The parts of a line: what only private functions cite.
use Rattle.std.specs.Prelude.{◌≡◌, ◌≢◌, ℕ, false, List, [], ◌∷◌, ◌++◌, Option, Some, None, ◌⊎◌, true, Bool}
use Rattle.std.specs.List.{list_any}
use Rattle.icu_locale_lines.specs.Lines.{is_line_feed, Stream}
use Rattle.icu_locale_lines.specs.Streams.{AnswersUpTo, StopsAt}
use Rattle.icu_locale_lines.specs.declared.error.CliError.{CliError}
use Rattle.icu_locale_lines.specs.declared.runs.Status.{Status}
use Rattle.icu_locale_lines.specs.declared.work.Work.{Work}
use Rattle.icu_locale_core.specs.declared.langid.LanguageIdentifier.{LanguageIdentifier}
use Rattle.icu_locale_core.specs.declared.locale.Locale.{Locale}
use Rattle.icu_locale_core.specs.declared.parse_error.ParseError.{ParseError}
use Rattle.icu_locale_core.specs.declared.parse_error.ParseError.TheVariants.{Memory}
use Rattle.icu_locale_lines.specs.Locales.{is_readable, keywords_of, IsValueFault}
use Rattle.icu_locale.specs.Refusals.{canonicalize_error_name}
use Rattle.icu_locale.specs.declared.canonicalizer.CanonicalizeError.{CanonicalizeError}
use Rattle.icu_locale.specs.declared.canonicalizer.CanonicalizeError.TheVariants as refusal
use Rattle.icu_locale_lines.specs.Texts.{refused_line}

-- what the lines of a text leave that stop early
pub record StopsText (Last : Type 0) (longest : Option ℕ) (work : Work) (text : List ℕ)
    (old new : Stream) (e : CliError) : Type 0 where
  pub left : List ℕ
  pub pending : List ℕ
  pub status : Status
  pub answered : AnswersUpTo ((pending ≢ []) × Last) longest work text left pending
      old new status
  pub why : StopsAt longest e left pending

-- a part is appended to the beginning of a line, up to its first line feed; rest is what follows that
abbrev pub TakesLine : List ℕ → List ℕ → List ℕ → Option (List ℕ) → Type 0
TakesLine old part new None = (new ≡ old ++ part) × (list_any is_line_feed part ≡ false)
TakesLine old part new (Some rest) = (front : List ℕ) × (part ≡ front ++ 10 ∷ rest)
    × (list_any is_line_feed front ≡ false) × (new ≡ old ++ front)

-- the identifier, where there is a text its value at `rg`, and nothing else
pub record IsLocaleOf (x : LanguageIdentifier) (text : Option (List ℕ))
    (locale : Locale) : Type 0 where
  pub readable : is_readable text ≡ true
  pub id : locale.id ≡ x
  pub keywords : locale.extensions.unicode.keywords ≡ keywords_of text
  pub transform : locale.extensions.transform.lang ≡ None

-- why none is made: memory was refused, or there is a text that reads as no value
abbrev pub IsRefusedValue : Option (List ℕ) → ParseError → Type 0
IsRefusedValue text e = (e ≡ Memory) ⊎ IsValueFault text e

-- the line of a refusal; want of memory has none
abbrev pub TellsRefusal : CanonicalizeError → List ℕ → Bool → Type 0
TellsRefusal refusal.Memory text accepted = ⊥
TellsRefusal e text accepted = (text ≡ refused_line (canonicalize_error_name e)) × (accepted ≡ false)
