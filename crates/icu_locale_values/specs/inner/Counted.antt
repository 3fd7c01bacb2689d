-- The searches for aliases along one run, over the rows of a map, and of a locale.
use Rattle.std.specs.Prelude.{◌≡◌, ◌⊎◌, ◌+◌, ◌*◌, ◌≤◌, ℕ, List, Option, IsSomeAnd}
use Rattle.std.specs.declared.cmp.Ordering.{Ordering}
use Rattle.icu_locale.specs.Cost.{HasIdentifiers}
use Rattle.icu_locale.specs.Kinds.{next}
use Rattle.icu_locale_core.specs.declared.langid.LanguageIdentifier.{LanguageIdentifier}
use Rattle.icu_locale_core.specs.declared.locale.Locale.{Locale}
use Rattle.icu_locale_runs.specs.Run.{HasDistinct}
use Rattle.icu_locale_values.specs.Aliases.{next_keyword}
use Rattle.icu_locale_values.specs.Cost.{CountsAtMost, HasValues}
use Rattle.icu_locale_values.specs.Whole.{WholeRules, without_language}
use Rattle.icu_locale_values.specs.inner.Walked.{IsWalked}

-- the searches along the run of a value
abbrev pub CountsRun : {V : Type 0} → (V → Option V) → V → (before after : ℕ) → Type 0
CountsRun next start before after =
    (n : ℕ) × HasDistinct next start n × CountsAtMost before after n

-- the searches along the runs of the rows' values
abbrev pub CountsValues : {K V : Type 0} → (K → V → Option V) → List (K × V)
    → (before after : ℕ) → Type 0
CountsValues next rows before after =
    (n : ℕ) × HasValues next rows n × CountsAtMost before after n

-- n is the number of different values in the runs of keywords, and of different identifiers in the others
pub record HasLocaleStates (by : WholeRules) (old : Locale) (n : ℕ) : Type 0 where
  pub in_keywords : ℕ
  pub in_transform : ℕ
  pub in_rules : ℕ
  pub sum : n ≡ in_keywords + (in_transform + in_rules)
  pub of_keywords : HasValues (next_keyword by.keywords) old.extensions.unicode.keywords in_keywords
  pub of_transform : (in_transform ≡ 0) ⊎ IsSomeAnd old.extensions.transform.lang
      (λ l. HasDistinct (next by.likely by.rules) l in_transform)
  pub of_rules : (in_rules ≡ 0)
      ⊎ HasIdentifiers by.likely by.rules (without_language old) in_rules

-- the searches along the run of the transform language, if there is one
abbrev pub CountsTransform : WholeRules → Option LanguageIdentifier → (before after : ℕ) → Type 0
CountsTransform by lang before after = (n : ℕ)
    × ((n ≡ 0) ⊎ IsSomeAnd lang (λ l. HasDistinct (next by.likely by.rules) l n))
    × CountsAtMost before after n

-- the searches by the rules for all but the transform language
abbrev pub CountsRest : WholeRules → Locale → (before after : ℕ) → Type 0
CountsRest by old before after = (n : ℕ)
    × ((n ≡ 0) ⊎ HasIdentifiers by.likely by.rules (without_language old) n)
    × CountsAtMost before after n

-- the searches for the whole canonical form of a locale
abbrev pub CountsLocale : WholeRules → Locale → (before after : ℕ) → Type 0
CountsLocale by old before after =
    (n : ℕ) × HasLocaleStates by old n × CountsAtMost before after n

-- so far: what the walk has found, and that the searches leave six for each value of what is left
pub record IsCountedWalk {K V : Type 0} (order : K → K → Ordering) (next : K → V → Option V)
    (rows left ends : List (K × V)) (before now : ℕ) : Type 0 where
  pub walked : IsWalked order next rows left ends
  pub forward : before ≤ now
  pub counted : (rest : ℕ) → HasValues next left rest
      → (n : ℕ) × HasValues next rows n × (now + 6 * rest ≤ before + 6 * n)
