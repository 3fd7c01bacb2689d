-- What is written for an identifier whose chain is asked for.
use Rattle.std.specs.Prelude.{◌≡◌, ◌⊎◌, ◌++◌, ℕ, Bool, true, false, List, codes}
use Rattle.icu_locale_core.specs.declared.langid.LanguageIdentifier.{LanguageIdentifier}
use Rattle.icu_provider.specs.declared.data_locale.DataLocale.{DataLocale}
use Rattle.icu_locale.specs.LikelyTable.{likely}
use Rattle.icu_locale_runs.specs.Run.{IsRepeat}
use Rattle.icu_locale_fallback.specs.Chains.{inheritance}
use Rattle.icu_locale_fallback.specs.Fallback.{Inheritance}
use Rattle.icu_locale_fallback.specs.Identifiers.{plain, normal_identifier, next_identifier, IsIdentifierChain, chain_text}
use Rattle.icu_locale_fallback.specs.declared.fallbacker.LocaleFallbackerWithConfig.{LocaleFallbackerWithConfig}
use Rattle.icu_locale_lines.specs.Texts.{refused_line}

-- what chains go by
abbrev pub inheritance_of : LocaleFallbackerWithConfig → Inheritance
inheritance_of f = inheritance f.fallbacker f.config.priority

-- the first identifier of a chain
abbrev pub start_of : LocaleFallbackerWithConfig → LanguageIdentifier → LanguageIdentifier
start_of f x = normal_identifier f.config.priority (likely f.fallbacker.expander) x

-- the line of a chain that ends: its identifiers, one space between two
pub record IsChainLine (f : LocaleFallbackerWithConfig) (x : LanguageIdentifier) (text : List ℕ)
    : Type 0 where
  pub list : List LanguageIdentifier
  pub chain : IsIdentifierChain (inheritance_of f) (start_of f x) list
  pub written : text ≡ chain_text list ++ codes "\n"

-- a chain that does not end names no line: some identifier comes again first
abbrev pub IsEndlessChain : LocaleFallbackerWithConfig → LanguageIdentifier → Type 0
IsEndlessChain f x =
    (z : DataLocale) × IsRepeat (next_identifier (inheritance_of f)) (start_of f x) (plain z)

-- the line of an identifier whose chain is written: the chain, or that it has no end
abbrev pub IsChained : LocaleFallbackerWithConfig → LanguageIdentifier → List ℕ → Bool → Type 0
IsChained f x text accepted =
    (IsChainLine f x text × (accepted ≡ true))
    ⊎ (IsEndlessChain f x × (text ≡ refused_line (codes "Circle")) × (accepted ≡ false))
