-- Whole canonical forms of locale identifiers (UTS #35 Part 1, Annex C "LocaleId Canonicalization").
use Rattle.std.specs.Prelude.{◌≡◌, ℕ, Bool, ◌||◌, List, None, Option, is_some, false, IfSome}
use Rattle.std.specs.Option.{option_and_then}
use Rattle.std.specs.List.{list_any}
use Rattle.icu_locale_core.specs.Keywords.{KeywordRows}
use Rattle.icu_locale_core.specs.Maps.{value_at, IsSortedMap}
use Rattle.icu_locale_core.specs.TextSet.{text_cmp}
use Rattle.icu_locale_core.specs.declared.langid.LanguageIdentifier.{LanguageIdentifier}
use Rattle.icu_locale_core.specs.declared.locale.Locale.{Locale}
use Rattle.icu_locale.specs.Canonical.{is_applied}
use Rattle.icu_locale.specs.Cost as cost
use Rattle.icu_locale.specs.Kinds.{next, by_language_alias}
use Rattle.icu_locale.specs.LikelySubtags.{LikelySubtags}
use Rattle.icu_locale.specs.LikelyTable.{likely}
use Rattle.icu_locale.specs.RuleSet.{lent}
use Rattle.icu_locale.specs.declared.canonicalizer.rules.Rules.{Rules}
use Rattle.icu_locale_extensions.specs.declared.identifier.LocaleIdentifier.{LocaleIdentifier}
use Rattle.icu_locale_runs.specs.Run.{EndsAt, EndsIfAny, BecomesEnd, StandsIn}
use Rattle.icu_locale_values.specs.Aliases.{Pieces, AliasTable, next_field, next_keyword, next_whole}
use Rattle.icu_locale_values.specs.declared.canonicalizer.WholeCanonicalizer.{WholeCanonicalizer}

-- what a whole canonical form goes by: likely subtags, rules, and the tables of keywords and of fields
pub record WholeRules : Type 0 where
  pub likely : LikelySubtags
  pub rules : Rules
  pub keywords : AliasTable
  pub fields : AliasTable

-- what a whole canonicalizer goes by
abbrev pub whole_rules : WholeCanonicalizer → WholeRules
whole_rules c = record {
  likely = likely c.rules.expander;
  rules = lent c.rules.rules;
  keywords = c.values.keywords.now;
  fields = c.values.fields.now;
}

-- at each key no value stays none, and one becomes the end of its run
abbrev pub BecomeEnds : (List ℕ → Pieces → Option Pieces) → (old new : KeywordRows) → Type 0
BecomeEnds next old new =
    (key : List ℕ) → BecomesEnd (next key) (value_at text_cmp old key) (value_at text_cmp new key)

-- the locale in its whole canonical form: the identifier, the transform language, which is an identifier too (section
-- 3.2.1), and each keyword's value at the end of its run (Annex C)
pub record IsWholeLocale (by : WholeRules) (old new : Locale) : Type 0 where
  pub id : EndsAt (next by.likely by.rules) old.id new.id
  pub transform : BecomesEnd (next by.likely by.rules) old.extensions.transform.lang
      new.extensions.transform.lang
  pub keywords : BecomeEnds (next_whole by.rules by.keywords)
      old.extensions.unicode.keywords new.extensions.unicode.keywords

-- the keywords and the fields are maps: their keys rise
pub record AreMaps (x : LocaleIdentifier) : Type 0 where
  pub keywords : IsSortedMap text_cmp x.locale.extensions.unicode.keywords
  pub fields : IsSortedMap text_cmp x.fields

-- the locale identifier in its whole canonical form: each field's value at the end of its run too; all else stays
pub record IsWhole (by : WholeRules) (old new : LocaleIdentifier) : Type 0 where
  pub locale : IsWholeLocale by old.locale new.locale
  pub fields : BecomeEnds (next_field by.fields) old.fields new.fields
  pub attributes : new.attributes ≡ old.attributes
  pub others : new.others ≡ old.others
  pub private_use : new.private_use ≡ old.private_use
  pub maps : AreMaps new

-- some row's value is followed by another
abbrev pub is_any_followed : {K V : Type 0} → (K → V → Option V) → List (K × V) → Bool
is_any_followed next rows = list_any (λ row. is_some (next row.0 row.1)) rows

-- a locale without its transform language
abbrev pub without_language : Locale → Locale
without_language x =
    record x { extensions = record x.extensions { transform = record { lang = None } } }

-- some rule or row is applied to a locale
abbrev pub is_locale_applied : WholeRules → Locale → Bool
is_locale_applied by old =
    is_any_followed (next_keyword by.keywords) old.extensions.unicode.keywords
    || (is_some (option_and_then (next by.likely by.rules) old.extensions.transform.lang)
    || is_applied by.likely by.rules (without_language old))

-- some rule or row is applied to a locale identifier
abbrev pub is_whole_applied : WholeRules → LocaleIdentifier → Bool
is_whole_applied by old =
    is_any_followed (next_field by.fields) old.fields || is_locale_applied by old.locale

-- no value has an alias: no row of the tables is applied
pub record HasNoAlias (by : WholeRules) (old : LocaleIdentifier) : Type 0 where
  pub fields : is_any_followed (next_field by.fields) old.fields ≡ false
  pub keywords : is_any_followed (next_keyword by.keywords) old.locale.extensions.unicode.keywords
      ≡ false

-- of the transform language and what follows it no rule matches but one of languages
abbrev pub GoesByLanguages : WholeRules → Option LanguageIdentifier → Type 0
GoesByLanguages by lang = IfSome lang (λ l. (y : LanguageIdentifier)
    → StandsIn (by_language_alias by.rules) l y
    → next by.likely by.rules y ≡ by_language_alias by.rules y)

-- no value has an alias, and the rules need no memory
pub record NeedsNoMemory (by : WholeRules) (old : LocaleIdentifier) : Type 0 where
  pub aliases : HasNoAlias by old
  pub transform : IfSome old.locale.extensions.transform.lang
      (cost.AddsNoVariants (next by.likely by.rules))
  pub rules : cost.NeedsNoMemory by.likely by.rules (without_language old.locale)

-- the run of each value ends
abbrev pub AllEnd : (List ℕ → Pieces → Option Pieces) → KeywordRows → Type 0
AllEnd next rows = (key : List ℕ) → EndsIfAny (next key) (value_at text_cmp rows key)

-- each run of a locale identifier ends
pub record RunsEnd (by : WholeRules) (old : LocaleIdentifier) : Type 0 where
  pub id : (y : LanguageIdentifier) × EndsAt (next by.likely by.rules) old.locale.id y
  pub transform : EndsIfAny (next by.likely by.rules) old.locale.extensions.transform.lang
  pub keywords : AllEnd (next_whole by.rules by.keywords) old.locale.extensions.unicode.keywords
  pub fields : AllEnd (next_field by.fields) old.fields
