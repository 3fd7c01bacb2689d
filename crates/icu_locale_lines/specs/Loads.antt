-- The tables that a command needs.
use Rattle.std.specs.Prelude.{◌≡◌, Bool, true, false, ◌&&◌, Some, is_some, IsSomeAnd}
use Rattle.std.specs.Option.{option_copied}
use Rattle.icu_locale.specs.RuleSet.{lent, rules_over}
use Rattle.icu_locale.specs.Rules.{AreRules}
use Rattle.icu_locale.specs.declared.canonicalizer.lending.CanonicalizerRef.{CanonicalizerRef}
use Rattle.icu_locale.specs.declared.canonicalizer.rules.ReadRules.{ReadRules}
use Rattle.icu_locale.specs.declared.expander.LocaleExpander.{LocaleExpander}
use Rattle.icu_provider.specs.declared.error.DataError.{DataError}
use Rattle.icu_provider.specs.declared.error.DataErrorKind.TheVariants.{IdentifierNotFound}
use Rattle.icu_locale_values.specs.declared.canonicalizer.WholeCanonicalizer.{WholeCanonicalizer}
use Rattle.icu_tables.specs.declared.tables.Tables.{Tables}
use Rattle.icu_locale_lines.specs.declared.error.CliError.{CliError}
use Rattle.icu_locale_lines.specs.declared.error.CliError.TheVariants.{Data, Memory}

-- why a table is not loaded
abbrev pub not_found : DataError
not_found = record { kind = IdentifierNotFound }

-- the common likely tables are held
abbrev pub has_likely : Tables → Bool
has_likely t = is_some t.likely_language && is_some t.likely_script_region

-- an expander over the tables, with the extended one where it is held
pub record IsExpanderOf (t : Tables) (e : LocaleExpander) : Type 0 where
  pub language : t.likely_language ≡ Some e.language.now
  pub script_region : t.likely_script_region ≡ Some e.script_region.now
  pub extended : t.likely_extended ≡ option_copied e.extended

-- likely tables and aliases are held
abbrev pub has_rules : Tables → Bool
has_rules t = has_likely t && is_some t.aliases

-- rules are what can be read of the aliases of the tables, which have some
abbrev pub AreRulesOf : Tables → ReadRules → Type 0
AreRulesOf t read = IsSomeAnd t.aliases (λ table. AreRules table (rules_over read table))

-- rules that are lent with an expander: both are of the tables
pub record IsCanonicalizerOf (t : Tables) (c : CanonicalizerRef) : Type 0 where
  pub expander : IsExpanderOf t c.expander
  pub rules : IsSomeAnd t.aliases (λ table. AreRules table (lent c.rules))

-- the same, with the aliases of values of the supplement
pub record IsWholeOf (t : Tables) (c : WholeCanonicalizer) : Type 0 where
  pub rules : IsCanonicalizerOf t c.rules
  pub keywords : c.values.keywords.now ≡ t.supplement.keywords
  pub fields : c.values.fields.now ≡ t.supplement.fields

-- why rules are not read: a table is not held, or all are and memory was refused
abbrev pub IsRefusedRules : Tables → CliError → Type 0
IsRefusedRules t (Data e) = (e ≡ not_found) × (has_rules t ≡ false)
IsRefusedRules t Memory = has_rules t ≡ true
IsRefusedRules t e = ⊥
