-- What expanders, directionalities and canonicalizers stand on: the tables that they were handed, or that a provider
-- loaded for them.
use Rattle.std.specs.Prelude.{◌≡◌, Option, Some, None, Result, Ok, Err, IsOkAnd, MatchResult}
use Rattle.std.specs.Option.{option_copied}
use Rattle.icu_provider.specs.declared.aliases.Aliases.{Aliases}
use Rattle.icu_provider.specs.declared.error.DataError.{DataError}
use Rattle.icu_provider.specs.declared.error.DataErrorKind.TheVariants.{Memory}
use Rattle.icu_provider.specs.declared.direction.ScriptDirection.{ScriptDirection}
use Rattle.icu_provider.specs.declared.likely.language.LikelySubtagsForLanguage.{LikelySubtagsForLanguage}
use Rattle.icu_provider.specs.declared.likely.script_region.LikelySubtagsForScriptRegion.{LikelySubtagsForScriptRegion}
use Rattle.icu_provider.specs.declared.likely.extended.LikelySubtagsExtended.{LikelySubtagsExtended}
use Rattle.icu_locale.specs.Rules.{AreRules, HasNoTexts}
use Rattle.icu_locale.specs.declared.expander.LocaleExpander.{LocaleExpander}
use Rattle.icu_locale.specs.declared.directionality.LocaleDirectionality.{LocaleDirectionality}
use Rattle.icu_locale.specs.declared.canonicalizer.LocaleCanonicalizer.{LocaleCanonicalizer}

-- tables of likely subtags
pub record LikelyTables : Type 0 where
  pub language : LikelySubtagsForLanguage
  pub script_region : LikelySubtagsForScriptRegion
  pub extended : Option LikelySubtagsExtended

-- the common tables alone
abbrev pub common : LikelySubtagsForLanguage → LikelySubtagsForScriptRegion → LikelyTables
common a b = record { language = a; script_region = b; extended = None }

-- the common tables and the extended one
abbrev pub with_extended : LikelySubtagsForLanguage → LikelySubtagsForScriptRegion
    → LikelySubtagsExtended → LikelyTables
with_extended a b c = record { language = a; script_region = b; extended = Some c }

-- two answers in this order, or the first refusal
abbrev pub both_or_refusal : {A B : Type 0} → Result A DataError → Result B DataError
    → Result (A × B) DataError
both_or_refusal (Err refusal) b = Err refusal
both_or_refusal (Ok a) (Err refusal) = Err refusal
both_or_refusal (Ok a) (Ok b) = Ok (a, b)

-- the common tables, loaded in this order, or the first refusal
abbrev pub loaded_common : Result LikelySubtagsForLanguage DataError
    → Result LikelySubtagsForScriptRegion DataError → Result LikelyTables DataError
loaded_common (Err refusal) b = Err refusal
loaded_common (Ok a) (Err refusal) = Err refusal
loaded_common (Ok a) (Ok b) = Ok (common a b)

-- all three tables, loaded in this order, or the first refusal
abbrev pub loaded_extended : Result LikelySubtagsForLanguage DataError
    → Result LikelySubtagsForScriptRegion DataError → Result LikelySubtagsExtended DataError
    → Result LikelyTables DataError
loaded_extended (Err refusal) b c = Err refusal
loaded_extended (Ok a) (Err refusal) c = Err refusal
loaded_extended (Ok a) (Ok b) (Err refusal) = Err refusal
loaded_extended (Ok a) (Ok b) (Ok c) = Ok (with_extended a b c)

-- an expander stands on these tables
pub record StandsOn (tables : LikelyTables) (e : LocaleExpander) : Type 0 where
  pub language : e.language.now ≡ tables.language
  pub script_region : e.script_region.now ≡ tables.script_region
  pub extended : option_copied e.extended ≡ tables.extended

-- a directionality stands on these tables and directions
pub record DirectsOver (over : LikelyTables × ScriptDirection)
    (d : LocaleDirectionality LocaleExpander) : Type 0 where
  pub expander : StandsOn over.0 d.expander
  pub directions : d.script_direction.now ≡ over.1

-- a canonicalizer stands on these tables, and its rules are those that can be read of the aliases
pub record RewritesOver (over : LikelyTables × Aliases)
    (c : LocaleCanonicalizer LocaleExpander) : Type 0 where
  pub expander : StandsOn over.0 c.expander
  pub rules : AreRules over.1 c.rules

-- no text of the aliases is read, so that no rule takes memory
abbrev pub ReadsNoTexts : LikelyTables × Aliases → Type 0
ReadsNoTexts over = HasNoTexts over.1

-- what is made stands on what was loaded, and a refused load is given unchanged
abbrev pub IsMade : {T A : Type 0} → (T → A → Type 0) → Result T DataError → Result A DataError
    → Type 0
IsMade Stands (Ok loaded) made = IsOkAnd made (Stands loaded)
IsMade Stands (Err refusal) made = made ≡ Err refusal

-- the same, but what is made may find no memory, where it takes any
abbrev pub IsMadeInMemory : {T A : Type 0} → (T → A → Type 0) → (T → Type 0)
    → Result T DataError → Result A DataError → Type 0
IsMadeInMemory Stands TakesNone (Ok loaded) made =
    MatchResult made (Stands loaded) (λ e. (e.kind ≡ Memory) × ¬ (TakesNone loaded))
IsMadeInMemory Stands TakesNone (Err refusal) made = made ≡ Err refusal
