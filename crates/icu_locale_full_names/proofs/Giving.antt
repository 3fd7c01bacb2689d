-- What a name is made of, and why it is refused.
use Rattle.std.proofs.Common.{◌≡◌, ◌∙◌, refl, ap, sym, inl, inr, Result, Ok, Err, Option, Some, None, List}
use Rattle.icu_locale_core.specs.declared.langid.LanguageIdentifier.{LanguageIdentifier}
use Rattle.icu_locale_extensions.specs.declared.identifier.LocaleIdentifier.{LocaleIdentifier}
use Rattle.icu_locale_names.specs.Chains.{made_of, and_then}
use Rattle.icu_locale_names.specs.LanguageChains.{LanguageChain}
use Rattle.icu_locale_names.specs.LanguageNames.{LocaleAnswers, LacksMemory, GivesParts, NameParts}
use Rattle.icu_locale_names.specs.Pieces.{Piece}
use Rattle.icu_locale_names.specs.declared.options.LanguageDisplay.{LanguageDisplay}
use Rattle.icu_provider.specs.declared.error.DataError.{DataError}
use Rattle.icu_provider.specs.declared.extension_names.ExtensionNames.{ExtensionNames}
use Rattle.icu_locale_full_names.specs.FullNames.{NameText, written, full_pieces, full_name_of, language_parts_of, LacksLanguageMemory, GivesFullName}

abbrev name_or : NameText → Result NameText DataError → NameText
name_or other (Ok name) = name
name_or other (Err refusal) = other

same_Ok : (one other : NameText) → ◌≡◌ {A = Result NameText DataError} (Ok one) (Ok other) → one ≡ other
same_Ok one other same = ap (name_or one) same

-- the refusal, if there is one
abbrev refusal_or : {A : Type 0} → DataError → Result A DataError → DataError
refusal_or other (Ok a) = other
refusal_or other (Err refusal) = refusal

module _ (answers : LocaleAnswers) (chain : LanguageChain) (display : LanguageDisplay) where
  -- memory that was lacking is told of another result too
  lacks_as : {A B : Type 0} (x : LanguageIdentifier) (refusal : DataError) (one : Result A DataError) (other : Result B DataError)
      → one ≡ Err refusal → other ≡ Err refusal → LacksMemory answers chain display x one → LacksMemory answers chain display x other
  lacks_as x refusal one other is also lacks = record {
    known = lacks.known;
    many = lacks.many;
    refused = also ∙ ap (λ e. Err e) (ap (refusal_or refusal) (sym is ∙ lacks.refused));
  }

  module _ (names : ExtensionNames) (x : LocaleIdentifier) where
    abbrev pub lang : Option LanguageIdentifier
    lang = x.locale.extensions.transform.lang

    -- what parts make
    abbrev made : Result NameParts DataError → Result (Option NameParts) DataError → Result NameText DataError
    made base language = made_of written (and_then base (λ b. made_of (λ l. full_pieces b l names x) language))

    -- the identifier is refused
    pub refused_first : (base : Result NameParts DataError) (refusal : DataError) → base ≡ Err refusal
        → GivesParts answers chain display x.locale.id base → GivesFullName answers chain display names x (Err refusal)
    refused_first base refusal is (inl gives) = inl (ap (λ b. made b (language_parts_of answers chain display lang)) (sym is ∙ gives))
    refused_first base refusal is (inr lacks) = inr (inl (lacks_as x.locale.id refusal base (Err refusal) is refl lacks))

-- pieces that were written
pub record Written (pieces : Result (List Piece) DataError) (name : NameText) : Type 0 where
  pub list : List Piece
  pub is : pieces ≡ Ok list
  pub text : name ≡ written list

written_from : (pieces : Result (List Piece) DataError) (name : NameText) → Ok name ≡ made_of written pieces → Written pieces name
written_from (Ok list) name is = record { list = list; is = refl; text = same_Ok name (written list) is }
written_from (Err refusal) name is = absurd (cc)

-- memory that was lacking gives no name
no_lack : {A : Type 0} (answers : LocaleAnswers) (chain : LanguageChain) (display : LanguageDisplay) (lang : Option LanguageIdentifier) (name : A)
    → LacksLanguageMemory answers chain display lang (Ok name) → ⊥
no_lack answers chain display None name none = none
no_lack answers chain display (Some l) name lacks = absurd (cc)

pub given_is_written : (answers : LocaleAnswers) (chain : LanguageChain) (display : LanguageDisplay) (names : ExtensionNames)
    (x : LocaleIdentifier) (name : NameText) → GivesFullName answers chain display names x (Ok name)
    → (pieces : List Piece) × (full_name_of answers chain display names x ≡ Ok pieces) × (name ≡ written pieces)
given_is_written answers chain display names x name (inl is) =
    let w = written_from (full_name_of answers chain display names x) name is in
    (w.list, w.is, w.text)
given_is_written answers chain display names x name (inr (inl lacks)) = absurd (cc)
given_is_written answers chain display names x name (inr (inr (inl lacks))) =
    absurd (no_lack answers chain display x.locale.extensions.transform.lang name lacks.1)
given_is_written answers chain display names x name (inr (inr (inr lacks))) = absurd (cc)
