-- Aliases of what is not valid (UTS #35 Part 1, section 3.11, and Annex C "LocaleId Canonicalization").
use Rattle.std.specs.Prelude.{◌≡◌, ℕ, true, false, List, [], ◌∷◌, Option, Some, if◌then◌else◌, IsSome}
use Rattle.std.specs.List.{All, list_all}
use Rattle.icu_locale_core.specs.Maps.{value_at}
use Rattle.icu_locale_core.specs.Subtag.{rg, sd}
use Rattle.icu_locale_core.specs.TextSet.{text_cmp}
use Rattle.icu_locale_core.specs.declared.langid.LanguageIdentifier.{LanguageIdentifier}
use Rattle.icu_locale_extensions.specs.declared.identifier.LocaleIdentifier.{LocaleIdentifier}
use Rattle.icu_locale.specs.Rules.{is_known}
use Rattle.icu_locale.specs.declared.canonicalizer.rules.Rule.{Rule}
use Rattle.icu_locale.specs.declared.canonicalizer.rules.Rules.{Rules}
use Rattle.icu_locale_validity.specs.Parts.{Part, code_part, id_parts, is_valid_part, row_part, tail_parts}
use Rattle.icu_locale_validity.specs.declared.part.PartKind.{PartKind}
use Rattle.icu_locale_validity.specs.declared.part.PartKind.TheVariants.{Language, Script, Region, Variant, Keyword, Field}
use Rattle.icu_locale_validity.specs.declared.table.Validity.{Validity}
use Rattle.icu_locale_values.specs.Aliases.{Pieces, next_field, next_keyword}
use Rattle.icu_locale_values.specs.Whole.{WholeRules}

-- the parts that the source of a rule names: those of an identifier, without the language `und`
abbrev pub named_parts : LanguageIdentifier → List Part
named_parts source =
    if is_known source.language then id_parts [] source else tail_parts [] source

-- some part that the source of a rule names is not valid
abbrev pub IsOfInvalid : Validity → Rule → Type 0
IsOfInvalid v rule = list_all (is_valid_part v) (named_parts rule.source) ≡ false

-- a code that has an alias is not valid
abbrev pub AreInvalid : {A : Type 0} → Validity → PartKind → List (List ℕ × A) → Type 0
AreInvalid v kind aliases = (code : List ℕ) → IsSome (value_at text_cmp aliases code)
    → is_valid_part v (code_part kind [] code) ≡ false

-- a subdivision that has an alias is no valid value at a key
abbrev pub AreInvalidAt : {A : Type 0} → Validity → List ℕ → List (List ℕ × A) → Type 0
AreInvalidAt v key aliases = (code : List ℕ) → IsSome (value_at text_cmp aliases code)
    → is_valid_part v (row_part Keyword [] (key, code ∷ [])) ≡ false

-- each rule is of something that is not valid, but for those of `sgn` in a region
pub record AreOfInvalid (v : Validity) (rules : Rules) : Type 0 where
  pub language : All (IsOfInvalid v) rules.language
  pub language_variants : All (IsOfInvalid v) rules.language_variants
  pub language_len2 : AreInvalid v Language rules.language_len2
  pub language_len3 : AreInvalid v Language rules.language_len3
  pub script : AreInvalid v Script rules.aliases.script
  pub region_alpha : AreInvalid v Region rules.aliases.region_alpha
  pub region_num : AreInvalid v Region rules.aliases.region_num
  pub complex_region : AreInvalid v Region rules.aliases.complex_region
  pub variant : AreInvalid v Variant rules.aliases.variant
  pub region_override : AreInvalidAt v rg rules.subdivision
  pub subdivision : AreInvalidAt v sd rules.subdivision

-- the same of rules, and a value that has an alias at a key is not valid there
pub record AllAreOfInvalid (v : Validity) (by : WholeRules) : Type 0 where
  pub rules : AreOfInvalid v by.rules
  pub keywords : (key : List ℕ) (value : Pieces) → IsSome (next_keyword by.keywords key value)
      → is_valid_part v (row_part Keyword [] (key, value)) ≡ false
  pub fields : (key : List ℕ) (value : Pieces) → IsSome (next_field by.fields key value)
      → is_valid_part v (row_part Field [] (key, value)) ≡ false

-- each language that stands for `sgn` in a region is valid
abbrev pub AreValidSigns : Validity → Rules → Type 0
AreValidSigns v rules = (region language : List ℕ)
    → value_at text_cmp rules.aliases.sgn_region region ≡ Some language
    → is_valid_part v (code_part Language [] language) ≡ true

-- a locale with another transform language
abbrev pub with_transform : LocaleIdentifier → Option LanguageIdentifier → LocaleIdentifier
with_transform x lang = record x {
  locale = record x.locale {
    extensions = record x.locale.extensions { transform = record { lang = lang } };
  };
}

-- a locale with another identifier
abbrev pub with_identifier : LocaleIdentifier → LanguageIdentifier → LocaleIdentifier
with_identifier x id = record x { locale = record x.locale { id = id } }
