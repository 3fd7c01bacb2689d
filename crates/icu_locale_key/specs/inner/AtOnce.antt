-- Minimal forms that are seen to have the maximal form: what only code and proofs cite.
use Rattle.std.specs.Prelude.{◌≡◌, ◌≢◌, ◌⊎◌, ℕ, List, [], Some, None}
use Rattle.icu_locale_core.specs.Subtag.{und}
use Rattle.icu_locale_core.specs.declared.langid.LanguageIdentifier.{LanguageIdentifier}
use Rattle.icu_locale.specs.LikelySubtags.{unknown_script, unknown_region}
use Rattle.icu_locale_extensions.specs.declared.identifier.LocaleIdentifier.{LocaleIdentifier}
use Rattle.icu_locale.specs.declared.canonicalizer.CanonicalizeError.{CanonicalizeError}
use Rattle.icu_locale.specs.declared.canonicalizer.CanonicalizeError.TheVariants as rules
use Rattle.icu_locale_values.specs.declared.error.WholeError.{WholeError}
use Rattle.icu_locale_values.specs.declared.error.WholeError.TheVariants as whole

-- the language, the script and the region are there and known
pub record AreKnown (x : LanguageIdentifier) : Type 0 where
  pub script : List ℕ
  pub region : List ℕ
  pub language_known : x.language ≢ und
  pub script_is : x.script ≡ Some script
  pub script_known : script ≢ unknown_script
  pub region_is : x.region ≡ Some region
  pub region_known : region ≢ unknown_region

-- a known language alone, variants aside
pub record IsLone (x : LanguageIdentifier) : Type 0 where
  pub language : x.language ≢ und
  pub script : x.script ≡ None
  pub region : x.region ≡ None

-- there is no keyword, no field and no transform language
pub record HasNoValues (x : LocaleIdentifier) : Type 0 where
  pub keywords : x.locale.extensions.unicode.keywords ≡ []
  pub fields : x.fields ≡ []
  pub transform : x.locale.extensions.transform.lang ≡ None

-- there is no script or no region, or all three subtags are known
abbrev pub IsOpenOrKnown : LanguageIdentifier → Type 0
IsOpenOrKnown x = (x.script ≡ None) ⊎ ((x.region ≡ None) ⊎ AreKnown x)

-- a refusal of an identifier as one of a locale identifier
abbrev pub of_identifier : CanonicalizeError → WholeError
of_identifier (rules.NoFixedPoint z) = whole.NoFixedPoint z
of_identifier e = whole.Memory
