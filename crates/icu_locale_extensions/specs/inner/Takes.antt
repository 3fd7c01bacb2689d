-- What the reader of a part does.
use Rattle.std.specs.Prelude.{IfOk, ◌≡◌, ◌⊎◌, ℕ, Bool, true, ◌||◌, ◌++◌, List, [], Option, Result, Ok, Err, if◌then◌else◌}
use Rattle.std.specs.List.{list_any}
use Rattle.icu_locale_core.specs.declared.langid.LanguageIdentifier.{LanguageIdentifier}
use Rattle.icu_locale_core.specs.declared.parse_error.ParseError.{ParseError}
use Rattle.icu_locale_core.specs.declared.parse_error.ParseError.TheVariants.{InvalidSubtag, Memory}
use Rattle.icu_locale_core.specs.Cuts.{from}
use Rattle.icu_locale_extensions.specs.Extensions.{is_singleton, is_tkey}
use Rattle.icu_locale_extensions.specs.Built.{bare}
use Rattle.icu_locale_extensions.specs.Locales.{IsLocaleIdentifier}
use Rattle.icu_locale_extensions.specs.laws.Reader.{Part, begins, read_on, with_part}
use Rattle.icu_locale_extensions.specs.laws.Reader.Part.{whole}
use Rattle.icu_locale_extensions.specs.Syntaxes.{is_kept}
use Rattle.icu_locale_extensions.specs.declared.identifier.LocaleIdentifier.{LocaleIdentifier}

-- what all pieces give is given by what is left, or refused for this reason, memory aside
abbrev pub Reads : {A : Type 0} → Result A ParseError
    → (all left : Result LocaleIdentifier ParseError) → Type 0
Reads (Ok a) all left = all ≡ left
Reads (Err e) all left = (e ≡ Memory) ⊎ (all ≡ Err e)

-- what a piece opens is read, if the pieces after it may begin it
abbrev pub read_opened : Option Part → LocaleIdentifier → List (List ℕ)
    → Result LocaleIdentifier ParseError
read_opened part x ps =
    with_part part (λ next. if begins next ps then read_on next [] x ps else Err InvalidSubtag)

-- some pieces were taken, and these are left
pub record IsEnd (left all : List (List ℕ)) : Type 0 where
  pub own : List (List ℕ)
  pub parts : all ≡ own ++ left

-- a piece of an extension for which memory is taken: the key of a field too
abbrev pub is_kept_behind : List ℕ → Bool
is_kept_behind p = is_kept p || is_tkey p

-- there is one
abbrev pub IsKept : List (List ℕ) → Type 0
IsKept ps = list_any is_kept_behind ps ≡ true

-- what follows an identifier is read
pub record ReadsBehind (ps : List (List ℕ)) (id : LanguageIdentifier)
    (result : Result LocaleIdentifier ParseError) : Type 0 where
  pub read : (result ≡ Err Memory) ⊎ (result ≡ read_on whole [] (bare id) ps)
  pub known : IfOk result IsLocaleIdentifier
  pub memory : result ≡ Err Memory → IsKept (from is_singleton ps)
