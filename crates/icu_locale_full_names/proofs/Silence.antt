-- Names of locale identifiers that say nothing beside their identifiers.
use Rattle.std.proofs.Common.{◌≡◌, ◌∙◌, refl, ap, ℕ, false, List, [], ◌∷◌, Option, Some, None, is_some, Result, Ok, Err}
use Rattle.icu_locale_core.specs.declared.langid.LanguageIdentifier.{LanguageIdentifier}
use Rattle.icu_locale_extensions.specs.declared.identifier.LocaleIdentifier.{LocaleIdentifier}
use Rattle.icu_locale_names.specs.Chains.{made_of, and_then}
use Rattle.icu_locale_names.specs.LanguageChains.{LanguageChain}
use Rattle.icu_locale_names.specs.LanguageNames.{LocaleAnswers, NameParts, name_of, name_parts_of, pieces_by_parts}
use Rattle.icu_locale_names.specs.Pieces.{Piece}
use Rattle.icu_locale_names.specs.declared.options.LanguageDisplay.{LanguageDisplay}
use Rattle.icu_provider.specs.declared.error.DataError.{DataError}
use Rattle.icu_provider.specs.declared.extension_names.ExtensionNames.{ExtensionNames}
use Rattle.icu_locale_full_names.specs.FullNames.{full_name_of, full_pieces, further_texts, language_parts_of}
use Rattle.icu_locale_full_names.specs.inner.Drafts.{are_some, is_any}
use Rattle.icu_locale_full_names.proofs.Bare.{bare_name}

pub none_by_test : (lang : Option LanguageIdentifier) → is_some lang ≡ false → lang ≡ None
none_by_test None none = refl
none_by_test (Some lang) none = absurd (cc)

none_of : (texts : List (List Piece)) → are_some texts ≡ false → texts ≡ []
none_of [] none = refl
none_of (t ∷ ts) none = absurd (cc)

-- there is a text
pub some_is : (texts : List (List Piece)) → are_some texts ≡ is_any texts
some_is [] = refl
some_is (t ∷ ts) = refl

module _ (names : ExtensionNames) (x : LocaleIdentifier) (silent : (separator : List ℕ) → are_some (further_texts names separator None x) ≡ false) where
  made_silent : (parts : Result NameParts DataError) → and_then parts (λ base. Ok (full_pieces base None names x)) ≡ made_of pieces_by_parts parts
  made_silent (Ok base) = ap (λ pieces. Ok pieces) (bare_name base names x (none_of (further_texts names base.separator None x) (silent base.separator)))
  made_silent (Err refusal) = refl

pub silent_name : (answers : LocaleAnswers) (chain : LanguageChain) (display : LanguageDisplay) (names : ExtensionNames) (x : LocaleIdentifier)
    → x.locale.extensions.transform.lang ≡ None → ((separator : List ℕ) → are_some (further_texts names separator None x) ≡ false)
    → full_name_of answers chain display names x ≡ name_of answers chain display x.locale.id
silent_name answers chain display names x none silent =
    ap (λ lang. and_then (name_parts_of answers chain display x.locale.id) (λ base.
    made_of (λ language. full_pieces base language names x) (language_parts_of answers chain display lang))) none
    ∙ made_silent names x silent (name_parts_of answers chain display x.locale.id)
