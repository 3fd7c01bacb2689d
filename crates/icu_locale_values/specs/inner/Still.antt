-- A locale identifier on which nothing is applied, key by key.
use Rattle.std.specs.Prelude.{◌≡◌, ℕ, List, None}
use Rattle.std.specs.Option.{option_and_then}
use Rattle.icu_locale_core.specs.Maps.{value_at}
use Rattle.icu_locale_core.specs.TextSet.{text_cmp}
use Rattle.icu_locale.specs.Kinds.{next}
use Rattle.icu_locale_extensions.specs.declared.identifier.LocaleIdentifier.{LocaleIdentifier}
use Rattle.icu_locale_values.specs.Aliases.{next_field, next_whole}
use Rattle.icu_locale_values.specs.Whole.{WholeRules}

-- nothing follows the identifier, the transform language and each value
pub record IsStill (by : WholeRules) (old : LocaleIdentifier) : Type 0 where
  pub id : next by.likely by.rules old.locale.id ≡ None
  pub transform : option_and_then (next by.likely by.rules)
      old.locale.extensions.transform.lang ≡ None
  pub keywords : (key : List ℕ) → option_and_then (next_whole by.rules by.keywords key)
      (value_at text_cmp old.locale.extensions.unicode.keywords key) ≡ None
  pub fields : (key : List ℕ) → option_and_then (next_field by.fields key)
      (value_at text_cmp old.fields key) ≡ None
