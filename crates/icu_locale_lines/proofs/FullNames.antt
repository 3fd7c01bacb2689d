-- Why the name of a locale identifier is refused.
use Rattle.std.proofs.Common.{◌≡◌, ◌⊎◌, ap, sym, inl, inr, Ok, Err, List, Result, Option, Some, None}
use Rattle.icu_locale_core.specs.declared.langid.LanguageIdentifier.{LanguageIdentifier}
use Rattle.icu_locale_extensions.specs.declared.identifier.LocaleIdentifier.{LocaleIdentifier}
use Rattle.icu_locale_names.specs.Chains.{made_of}
use Rattle.icu_locale_names.specs.LanguageChains.{LanguageChain}
use Rattle.icu_locale_names.specs.LanguageNames.{LocaleAnswers}
use Rattle.icu_locale_names.specs.Pieces.{Piece}
use Rattle.icu_locale_names.specs.declared.options.LanguageDisplay.{LanguageDisplay}
use Rattle.icu_provider.specs.declared.error.DataError.{DataError}
use Rattle.icu_provider.specs.declared.error.DataErrorKind.TheVariants.{Memory}
use Rattle.icu_provider.specs.declared.extension_names.ExtensionNames.{ExtensionNames}
use Rattle.icu_locale_full_names.specs.FullNames.{NameText, written, full_name_of, LacksLanguageMemory, GivesFullName}

-- want of memory
abbrev pub LacksMemory : DataError → Type 0
LacksMemory e = ◌≡◌ {A = Result NameText DataError} (Err e) (Err (record { kind = Memory }))

abbrev error_of : DataError → Result NameText DataError → DataError
error_of other (Ok name) = other
error_of other (Err refusal) = refusal

refused_from : (pieces : Result (List Piece) DataError) (e : DataError) → Err e ≡ made_of written pieces → pieces ≡ Err e
refused_from (Ok list) e is = absurd (cc)
refused_from (Err other) e is = sym (ap (λ r. Err (error_of e r)) is)

-- what names refuse, or want of memory
pub refusal_of : (answers : LocaleAnswers) (chain : LanguageChain) (display : LanguageDisplay) (names : ExtensionNames) (x : LocaleIdentifier)
    (e : DataError) → GivesFullName answers chain display names x (Err e)
    → (full_name_of answers chain display names x ≡ Err e) ⊎ LacksMemory e
refusal_of answers chain display names x e (inl is) = inl (refused_from (full_name_of answers chain display names x) e is)
refusal_of answers chain display names x e (inr (inl lacks)) = inr lacks.refused
refusal_of answers chain display names x e (inr (inr (inl lacks))) = inr (of_language x.locale.extensions.transform.lang lacks.1)
  where
    of_language : (lang : Option LanguageIdentifier) → LacksLanguageMemory {A = NameText} answers chain display lang (Err e) → LacksMemory e
    of_language None none = absurd none
    of_language (Some l) lacks = lacks.refused
refusal_of answers chain display names x e (inr (inr (inr lacks))) = inr lacks.refused
