-- The rules that can be read of a table of aliases (UTS #35 Part 1, Annex C "LocaleId Canonicalization").
use Rattle.std.specs.Str.{bytes_eq}
use Rattle.std.specs.Prelude.{◌≡◌, ◌==◌, ◌⊎◌, ℕ, Bool, true, ◌&&◌, List, [], ◌∷◌, None, String, false, not, ◌||◌, Option, Some, if◌then◌else◌}
use Rattle.std.specs.List.{list_all, slice_split}
use Rattle.std.specs.Global.{Global}
use Rattle.std.specs.String.{string_bytes}
use Rattle.icu_locale_core.specs.Subtag.{is_variant, lowercase, und}
use Rattle.icu_locale_core.specs.TextSet.{from_list, empty, is_subset, union, difference}
use Rattle.icu_locale_core.specs.Identifier.{IsIdentifier, Spells}
use Rattle.icu_locale_core.specs.Value.{is_value, read_value}
use Rattle.icu_locale_core.specs.declared.langid.LanguageIdentifier.{LanguageIdentifier}
use Rattle.icu_provider.specs.declared.aliases.StrStrPair.{StrStrPair}
use Rattle.icu_provider.specs.declared.aliases.LanguageStrStrPair.{LanguageStrStrPair}
use Rattle.icu_provider.specs.declared.aliases.Aliases.{Aliases}
use Rattle.icu_locale.specs.declared.canonicalizer.rules.Rule.{Rule}
use Rattle.icu_locale.specs.declared.canonicalizer.rules.Rules.{Rules}

-- the text spells the identifier
pub record ReadsAs (text : List ℕ) (x : LanguageIdentifier) : Type 0 where
  pub known : IsIdentifier x
  pub spelled : Spells text x

-- a row of the list `language`: both texts are read
pub record ReadsRule (row : StrStrPair) (rule : Rule) : Type 0 where
  pub source : ReadsAs (string_bytes row.0) rule.source
  pub replacement : ReadsAs (string_bytes row.1) rule.replacement

-- a variant in lower case
abbrev pub is_lower_variant : List ℕ → Bool
is_lower_variant p = is_variant p && bytes_eq (lowercase p) p

-- the pieces of a text of variants, cut at `-`, which is 45
abbrev pub pieces_of_variants : List ℕ → List (List ℕ)
pieces_of_variants t = slice_split (λ c. c == 45) t

-- each of them is one
abbrev pub are_lower_variants : List ℕ → Bool
are_lower_variants t = list_all is_lower_variant (pieces_of_variants t)

-- a row of the list `language_variants`: the variants are taken as a set, and the replacement is read
pub record ReadsVariantRule (row : LanguageStrStrPair) (rule : Rule) : Type 0 where
  pub variants : are_lower_variants (string_bytes row.1) ≡ true
  pub source : rule.source ≡ record {
    language = row.0;
    script = None;
    region = None;
    variants = from_list (pieces_of_variants (string_bytes row.1));
  }
  pub replacement : ReadsAs (string_bytes row.2) rule.replacement

-- a row of `language_len2` or `language_len3`: the replacement is read
pub record ReadsLanguage (row : List ℕ × String Global)
    (kept : List ℕ × LanguageIdentifier) : Type 0 where
  pub key : kept.0 ≡ row.0
  pub replacement : ReadsAs (string_bytes row.1) kept.1

-- a row of `subdivision`: the text is read as a value
pub record ReadsSubdivision (row : List ℕ × String Global)
    (kept : List ℕ × List (List ℕ)) : Type 0 where
  pub key : kept.0 ≡ row.0
  pub readable : is_value (string_bytes row.1) ≡ true
  pub value : kept.1 ≡ read_value (string_bytes row.1)

-- what is kept is what the rows read as, in order, without the rows that cannot be read
abbrev pub AreRead : {R K : Type 0} → (R → K → Type 0) → List R → List K → Type 0
AreRead reads [] kept = kept ≡ []
AreRead {K = K} reads (row ∷ rows) kept =
    ((k : K) × (rest : List K) × (kept ≡ k ∷ rest) × reads row k × AreRead reads rows rest)
    ⊎ (((k : K) → ¬ (reads row k)) × AreRead reads rows kept)

-- the rules are those that can be read of the table
pub record AreRules (table : Aliases) (rules : Rules) : Type 0 where
  pub language : AreRead ReadsRule table.language rules.language
  pub language_variants : AreRead ReadsVariantRule table.language_variants rules.language_variants
  pub language_len2 : AreRead ReadsLanguage table.language_len2 rules.language_len2
  pub language_len3 : AreRead ReadsLanguage table.language_len3 rules.language_len3
  pub subdivision : AreRead ReadsSubdivision table.subdivision rules.subdivision
  pub others : rules.aliases ≡ table

-- no row of the table has a text that is read
pub record HasNoTexts (table : Aliases) : Type 0 where
  pub language : table.language ≡ []
  pub language_variants : table.language_variants ≡ []
  pub language_len2 : table.language_len2 ≡ []
  pub language_len3 : table.language_len3 ≡ []
  pub subdivision : table.subdivision ≡ []

-- a language other than `und`
abbrev pub is_known : List ℕ → Bool
is_known language = not (bytes_eq language und)

-- the part of a rule is absent or that of the identifier
abbrev pub fits : {T : Type 0} → (T → T → Bool) → Option T → Option T → Bool
fits is_same None part = true
fits is_same (Some t) None = false
fits is_same (Some t) (Some u) = is_same t u

-- a rule matches where its language is `und` or that of x, its script and region are absent or those of x, and its variants are among those of x
abbrev pub matches : LanguageIdentifier → LanguageIdentifier → Bool
matches x rule =
    (not (is_known rule.language) || bytes_eq rule.language x.language)
    && fits bytes_eq rule.script x.script && fits bytes_eq rule.region x.region
    && is_subset rule.variants x.variants

-- the part of the replacement where the rule has that part, else that of the source, else that of the replacement
abbrev pub part : {T : Type 0} → Option T → Option T → Option T → Option T
part source (Some t) replacement = replacement
part (Some u) None replacement = Some u
part None None replacement = replacement

-- what a rule makes of a source: its language, its script and region, and its variants without those of the rule and with those of the replacement
abbrev pub replaced : LanguageIdentifier → LanguageIdentifier → LanguageIdentifier
    → LanguageIdentifier
replaced source rule replacement = record {
  language =
      if is_known rule.language || (not (is_known source.language) && is_known replacement.language)
      then replacement.language else source.language;
  script = part source.script rule.script replacement.script;
  region = part source.region rule.region replacement.region;
  variants = union (difference source.variants rule.variants) replacement.variants;
}

-- the identifier of a language alone
abbrev pub of_language : List ℕ → LanguageIdentifier
of_language language =
    record { language = language; script = None; region = None; variants = empty }
