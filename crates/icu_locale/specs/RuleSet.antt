-- What rules are, whoever owns their parts.
use Rattle.std.specs.Prelude.{ℕ, List}
use Rattle.icu_locale_core.specs.declared.langid.LanguageIdentifier.{LanguageIdentifier}
use Rattle.icu_provider.specs.declared.aliases.Aliases.{Aliases}
use Rattle.icu_locale.specs.declared.canonicalizer.rules.Rule.{Rule}
use Rattle.icu_locale.specs.declared.canonicalizer.rules.ReadRules.{ReadRules}
use Rattle.icu_locale.specs.declared.canonicalizer.rules.RulesRef.{RulesRef}

-- what was read of a table of aliases, and the table, whose other maps hold no texts
pub record RuleSet : Type 0 where
  pub language : List Rule
  pub language_variants : List Rule
  pub language_len2 : List (List ℕ × LanguageIdentifier)
  pub language_len3 : List (List ℕ × LanguageIdentifier)
  pub subdivision : List (List ℕ × List (List ℕ))
  pub aliases : Aliases

-- what was read, over a table
abbrev pub rules_over : ReadRules → Aliases → RuleSet
rules_over read aliases = record {
  language = read.language;
  language_variants = read.language_variants;
  language_len2 = read.language_len2;
  language_len3 = read.language_len3;
  subdivision = read.subdivision;
  aliases = aliases;
}

-- the rules that are lent
abbrev pub lent : RulesRef → RuleSet
lent rules = rules_over rules.read.now rules.aliases.now
