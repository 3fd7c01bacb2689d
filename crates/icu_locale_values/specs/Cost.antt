-- How many searches a whole canonicalization takes.
use Rattle.std.specs.Prelude.{◌≡◌, ◌⊎◌, ◌+◌, ◌*◌, ◌≤◌, ℕ, List, [], ◌∷◌, Option, IsSomeAnd}
use Rattle.icu_locale.specs.Cost.{HasIdentifiers}
use Rattle.icu_locale.specs.Kinds.{next}
use Rattle.icu_locale_extensions.specs.declared.identifier.LocaleIdentifier.{LocaleIdentifier}
use Rattle.icu_locale_runs.specs.Run.{HasDistinct}
use Rattle.icu_locale_values.specs.Aliases.{next_field, next_keyword}
use Rattle.icu_locale_values.specs.Whole.{WholeRules, without_language}

-- the searches from before to after never fall, and are at most six for each of n
pub record CountsAtMost (before after n : ℕ) : Type 0 where
  pub forward : before ≤ after
  pub most : after ≤ before + 6 * n

-- n is the sum, over the rows, of the numbers of different values in the runs of their values
abbrev pub HasValues : {K V : Type 0} → (K → V → Option V) → List (K × V) → ℕ → Type 0
HasValues next [] n = n ≡ 0
HasValues next (row ∷ rows) n =
    (first rest : ℕ) × HasDistinct (next row.0) row.1 first × HasValues next rows rest
    × (n ≡ first + rest)

-- n is the number of different values in the runs of fields and of keywords, and of different identifiers in those of the
-- transform language and of the rules; what was not asked does not count, since an earlier run was refused
pub record HasStates (by : WholeRules) (old : LocaleIdentifier) (n : ℕ) : Type 0 where
  pub in_fields : ℕ
  pub in_keywords : ℕ
  pub in_transform : ℕ
  pub in_rules : ℕ
  pub sum : n ≡ in_fields + (in_keywords + (in_transform + in_rules))
  pub of_fields : HasValues (next_field by.fields) old.fields in_fields
  pub of_keywords : HasValues (next_keyword by.keywords) old.locale.extensions.unicode.keywords
      in_keywords
  pub of_transform : (in_transform ≡ 0) ⊎ IsSomeAnd old.locale.extensions.transform.lang
      (λ l. HasDistinct (next by.likely by.rules) l in_transform)
  pub of_rules : (in_rules ≡ 0)
      ⊎ HasIdentifiers by.likely by.rules (without_language old.locale) in_rules

-- the searches from before to after are at most six for each different value and identifier of the runs
abbrev pub CountsWhole : WholeRules → LocaleIdentifier → (before after : ℕ) → Type 0
CountsWhole by old before after =
    (n : ℕ) × HasStates by old n × CountsAtMost before after n
