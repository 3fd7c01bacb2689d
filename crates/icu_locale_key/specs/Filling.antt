-- Rules that leave alone what a likely table fills in (UTS #35 Part 1, section 4.3 and Annex C).
use Rattle.std.specs.Prelude.{◌≡◌, ℕ, Bool, true, false, not, ◌&&◌, ◌||◌, codes, List, Option, Some, None, is_some}
use Rattle.std.specs.Option.{option_eq}
use Rattle.std.specs.Borrow.{Bor}
use Rattle.std.specs.List.{list_all, list_any}
use Rattle.std.specs.Str.{bytes_eq}
use Rattle.icu_locale_core.specs.Maps.{value_at}
use Rattle.icu_locale_core.specs.TextSet.{text_cmp}
use Rattle.icu_locale.specs.Kinds.{language_alias, region_alias}
use Rattle.icu_locale.specs.LikelySubtags.{LikelySubtags, Triple}
use Rattle.icu_locale.specs.LikelyTable.{LikelyRows, common_rows, extended_rows}
use Rattle.icu_locale.specs.declared.expander.LocaleExpander.{LocaleExpander}
use Rattle.icu_provider.specs.declared.likely.extended.LikelySubtagsExtended.{LikelySubtagsExtended}
use Rattle.icu_locale.specs.Rules.{is_known, matches}
use Rattle.icu_locale.specs.declared.canonicalizer.rules.Rule.{Rule}
use Rattle.icu_locale.specs.declared.canonicalizer.rules.Rules.{Rules}
use Rattle.icu_locale.specs.declared.expander.looks.LikelyKey.{LikelyKey}
use Rattle.icu_locale.specs.declared.expander.looks.LikelyKey.TheVariants.{LanguageRegion, LanguageScript, LanguageAlone, ScriptRegion, ScriptAlone, RegionAlone}

-- whether a part of a rule is this subtag
abbrev pub is_named : Option (List ℕ) → List ℕ → Bool
is_named part t = option_eq bytes_eq part (Some t)

-- no rule of a list has the script
abbrev pub has_no_script : List Rule → List ℕ → Bool
has_no_script rules s = list_all (λ a. not (is_named a.source.script s)) rules

-- no rule of a list has the region
abbrev pub has_no_region : List Rule → List ℕ → Bool
has_no_region rules r = list_all (λ a. not (is_named a.source.region r)) rules

-- what a rule matches, some rule of the list for the language `und` matches whatever its language
abbrev pub is_covered : List Rule → Rule → Bool
is_covered rules a =
    list_any (λ b. not (is_known b.source.language) && matches a.source b.source) rules

-- each rule of a list that has the language is covered
abbrev pub covers_language : List Rule → List ℕ → Bool
covers_language rules l =
    list_all (λ a. not (bytes_eq a.source.language l) || is_covered rules a) rules

-- no rule of any kind replaces the script
pub record LeavesScript (rules : Rules) (s : List ℕ) : Type 0 where
  pub alias : value_at text_cmp rules.aliases.script s ≡ None
  pub language : has_no_script rules.language s ≡ true
  pub language_variants : has_no_script rules.language_variants s ≡ true

-- no rule of any kind, those of sign languages aside, replaces the region
pub record LeavesRegion (rules : Rules) (r : List ℕ) : Type 0 where
  pub alias : region_alias rules r ≡ None
  pub complex : value_at text_cmp rules.aliases.complex_region r ≡ None
  pub language : has_no_region rules.language r ≡ true
  pub language_variants : has_no_region rules.language_variants r ≡ true

-- no rule replaces the language, but where a rule for `und` does already what it does
pub record LeavesLanguage (rules : Rules) (l : List ℕ) : Type 0 where
  pub alias : language_alias rules l ≡ None
  pub sign : bytes_eq l (codes "sgn") ≡ false
  pub language : covers_language rules.language l ≡ true
  pub language_variants : covers_language rules.language_variants l ≡ true

-- the language that a row gives is left alone; a row for a language is for no sign language
abbrev pub LeavesLanguageOf : Rules → LikelyKey → Triple → Type 0
LeavesLanguageOf rules (LanguageRegion l r) t = bytes_eq l (codes "sgn") ≡ false
LeavesLanguageOf rules (LanguageScript l s) t = bytes_eq l (codes "sgn") ≡ false
LeavesLanguageOf rules (LanguageAlone l) t = bytes_eq l (codes "sgn") ≡ false
LeavesLanguageOf rules (ScriptRegion s r) t = LeavesLanguage rules t.0
LeavesLanguageOf rules (ScriptAlone s) t = LeavesLanguage rules t.0
LeavesLanguageOf rules (RegionAlone r) t = LeavesLanguage rules t.0

-- what a row may fill in is left alone by all rules
pub record LeavesRow (rules : Rules) (key : LikelyKey) (t : Triple) : Type 0 where
  pub script : LeavesScript rules t.1
  pub region : LeavesRegion rules t.2
  pub language : LeavesLanguageOf rules key t

-- what the table may fill in is left alone by all rules
abbrev pub LeavesFilled : LikelySubtags → Rules → Type 0
LeavesFilled likely rules = (key : LikelyKey) (t : Triple) → likely key ≡ Some t
    → LeavesRow rules key t

-- the tests of these
abbrev pub leaves_script : Rules → List ℕ → Bool
leaves_script rules s = not (is_some (value_at text_cmp rules.aliases.script s))
    && (has_no_script rules.language s && has_no_script rules.language_variants s)

abbrev pub leaves_region : Rules → List ℕ → Bool
leaves_region rules r = not (is_some (region_alias rules r))
    && (not (is_some (value_at text_cmp rules.aliases.complex_region r))
    && (has_no_region rules.language r && has_no_region rules.language_variants r))

abbrev pub leaves_language : Rules → List ℕ → Bool
leaves_language rules l = not (is_some (language_alias rules l))
    && (not (bytes_eq l (codes "sgn"))
    && (covers_language rules.language l && covers_language rules.language_variants l))

-- a language that is not that of signs, with a script and a region that are left alone
abbrev pub leaves_row_of : Rules → List ℕ → List ℕ → List ℕ → Bool
leaves_row_of rules l s r =
    not (bytes_eq l (codes "sgn")) && (leaves_script rules s && leaves_region rules r)

-- a language, a script and a region that are left alone
abbrev pub leaves_und_row : Rules → List ℕ → List ℕ → List ℕ → Bool
leaves_und_row rules l s r =
    leaves_language rules l && (leaves_script rules s && leaves_region rules r)

-- the rows of each map are left alone
abbrev pub leaves_languages : Rules → List (List ℕ × (List ℕ × List ℕ)) → Bool
leaves_languages rules rows = list_all (λ row. leaves_row_of rules row.0 row.1.0 row.1.1) rows

abbrev pub leaves_language_scripts : Rules → List ((List ℕ × List ℕ) × List ℕ) → Bool
leaves_language_scripts rules rows =
    list_all (λ row. leaves_row_of rules row.0.0 row.0.1 row.1) rows

abbrev pub leaves_language_regions : Rules → List ((List ℕ × List ℕ) × List ℕ) → Bool
leaves_language_regions rules rows =
    list_all (λ row. leaves_row_of rules row.0.0 row.1 row.0.1) rows

abbrev pub leaves_script_regions : Rules → List ((List ℕ × List ℕ) × List ℕ) → Bool
leaves_script_regions rules rows =
    list_all (λ row. leaves_und_row rules row.1 row.0.0 row.0.1) rows

abbrev pub leaves_scripts : Rules → List (List ℕ × (List ℕ × List ℕ)) → Bool
leaves_scripts rules rows = list_all (λ row. leaves_und_row rules row.1.0 row.0 row.1.1) rows

abbrev pub leaves_regions : Rules → List (List ℕ × (List ℕ × List ℕ)) → Bool
leaves_regions rules rows = list_all (λ row. leaves_und_row rules row.1.0 row.1.1 row.0) rows

-- all rows of a table
abbrev pub leaves_rows : Rules → LikelyRows → Bool
leaves_rows rules rows = leaves_languages rules rows.language
    && (leaves_language_scripts rules rows.language_script
    && (leaves_language_regions rules rows.language_region
    && (leaves_script_regions rules rows.script_region
    && (leaves_scripts rules rows.script && leaves_regions rules rows.region))))

-- all rows of the extended table, if there is one
abbrev pub leaves_extended : Rules → Option (Bor LikelySubtagsExtended) → Bool
leaves_extended rules None = true
leaves_extended rules (Some e) = leaves_rows rules (extended_rows e.now)

-- all rows of an expander's tables, and the triple of `und`
unfoldable pub leaves_tables : Rules → LocaleExpander → Bool
leaves_tables rules e = leaves_rows rules (common_rows e.language.now e.script_region.now)
    && (leaves_extended rules e.extended
    && leaves_und_row rules e.language.now.und.0 e.language.now.und.1 e.language.now.und.2)
