-- Chains of identifiers with their variants, and the text of one.
use Rattle.std.specs.Prelude.{◌≡◌, ◌==◌, ◌++◌, ℕ, suc, List, codes, Option, Some, None, if◌then◌else◌}
use Rattle.std.specs.Option.{option_map}
use Rattle.std.specs.List.{slice_get, join_by}
use Rattle.icu_locale_core.specs.Identifier.{written}
use Rattle.icu_locale_core.specs.TextSet.{len, empty}
use Rattle.icu_locale_core.specs.declared.langid.LanguageIdentifier.{LanguageIdentifier}
use Rattle.icu_provider.specs.declared.data_locale.DataLocale.{DataLocale}
use Rattle.icu_locale.specs.LikelySubtags.{LikelySubtags, subtags_of, with_locale}
use Rattle.icu_locale_runs.specs.Run.{at, EndsAt, IsRepeat}
use Rattle.icu_locale_fallback.specs.Fallback.{Inheritance, root, next, normal}
use Rattle.icu_locale_fallback.specs.declared.errors.FallbackError.{FallbackError}
use Rattle.icu_locale_fallback.specs.declared.errors.FallbackError.TheVariants.{Memory, Circle}
use Rattle.icu_locale_fallback.specs.declared.fallbacker.LocaleFallbackPriority.{LocaleFallbackPriority}
use Rattle.icu_locale_fallback.specs.declared.fallbacker.LocaleFallbackerWithConfig.{LocaleFallbackerWithConfig}
use Rattle.icu_locale_fallback.specs.declared.identifiers.IdentifierFallbackIterator.{IdentifierFallbackIterator}
use Rattle.icu_locale_fallback.specs.Chains.{inheritance}

-- the fallbacker whose chain a place is in
abbrev pub fallbacker_of : IdentifierFallbackIterator → LocaleFallbackerWithConfig
fallbacker_of place = record { fallbacker = place.fallbacker; config = place.config }

-- what the chain of a place goes by
abbrev pub identifier_inheritance_of : IdentifierFallbackIterator → Inheritance
identifier_inheritance_of place = inheritance place.fallbacker place.config.priority

-- the identifier at a place
abbrev pub identifier_of : IdentifierFallbackIterator → LanguageIdentifier
identifier_of place = place.current

-- a locale as an identifier, which has no variants
abbrev pub plain : DataLocale → LanguageIdentifier
plain y =
    record { language = y.language; script = y.script; region = y.region; variants = empty }

-- the first identifier of a chain: the normal form of its language, script and region, and its own variants
abbrev pub normal_identifier : LocaleFallbackPriority → LikelySubtags → LanguageIdentifier
    → LanguageIdentifier
normal_identifier p likely x = with_locale x (normal p likely (subtags_of x))

-- what follows an identifier: the variants go first, all at once; then as its language, script and region do (section 4.2
-- has no rule for variants; a look-up without them asks for the language, the script and the region)
abbrev pub next_identifier : Inheritance → LanguageIdentifier → Option LanguageIdentifier
next_identifier by x =
    if len x.variants == 0 then option_map plain (next by (subtags_of x))
    else Some (plain (subtags_of x))

-- the chain of an identifier is that of its language, script and region
abbrev pub IsChainOfSubtags : Inheritance → LanguageIdentifier → Type 0
IsChainOfSubtags by x = (i : ℕ) → at (next_identifier by) x i
    ≡ option_map plain (at (next by) (subtags_of x) i)

-- after the identifier itself the chain is that of its language, script and region
abbrev pub IsChainBehind : Inheritance → LanguageIdentifier → Type 0
IsChainBehind by x = (i : ℕ) → at (next_identifier by) x (suc i)
    ≡ option_map plain (at (next by) (subtags_of x) i)

-- the chain of an identifier ends at the root, or it names the first that comes again, which has no variants
abbrev pub IsIdentifierCircle : Inheritance → LanguageIdentifier → Option DataLocale → Type 0
IsIdentifierCircle by x None = EndsAt (next_identifier by) x (plain root)
IsIdentifierCircle by x (Some z) = IsRepeat (next_identifier by) x (plain z)

-- why the chain of an identifier was not given: memory was refused, or it has a first identifier that comes again
abbrev pub IsIdentifierRefusal : Inheritance → LanguageIdentifier → FallbackError → Type 0
IsIdentifierRefusal by x Memory = EndsAt (next_identifier by) x (plain root)
IsIdentifierRefusal by x (Circle z) = IsRepeat (next_identifier by) x (plain z)

-- the list has the identifiers of the chain, each at its place, and the chain ends where the list does
abbrev pub IsIdentifierChain : Inheritance → LanguageIdentifier → List LanguageIdentifier → Type 0
IsIdentifierChain by x list = (i : ℕ) → slice_get list i ≡ at (next_identifier by) x i

-- a text of identifiers: each in its written form, with one space between two
abbrev pub chain_text : List LanguageIdentifier → List ℕ
chain_text list = join_by written (codes " ") list

-- the text of the chain was appended to another
abbrev pub IsWritten : Inheritance → LanguageIdentifier → List ℕ → List ℕ → Type 0
IsWritten by x old new =
    (list : List LanguageIdentifier) × IsIdentifierChain by x list × (new ≡ old ++ chain_text list)
