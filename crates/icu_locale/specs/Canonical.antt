-- Canonical locales (UTS #35 Part 1, Annex C "LocaleId Canonicalization").
use Rattle.std.specs.Prelude.{◌≡◌, ℕ, Bool, true, false, ◌||◌, List, [], Option, Some, None, is_some}
use Rattle.std.specs.Option.{option_and_then}
pub use Rattle.icu_locale_core.specs.Subtag.{rg, sd}
use Rattle.icu_locale_core.specs.TextSet.{text_cmp}
use Rattle.icu_locale_core.specs.Value.{only_piece}
use Rattle.icu_locale_core.specs.Keywords.{KeywordRows, with_value}
use Rattle.icu_locale_core.specs.declared.langid.LanguageIdentifier.{LanguageIdentifier}
use Rattle.icu_locale_core.specs.declared.locale.Locale.{Locale}
use Rattle.icu_locale_core.specs.Maps.{value_at}
use Rattle.icu_locale.specs.LikelySubtags.{LikelySubtags}
use Rattle.icu_locale.specs.Kinds.{next, by_language_alias}
use Rattle.icu_locale_runs.specs.Run.{EndsAt, IsLaterEndOf, BecomesEnd}
use Rattle.icu_locale.specs.declared.expander.TransformResult.{TransformResult}
use Rattle.icu_locale.specs.declared.expander.TransformResult.TheVariants.{Modified, Unmodified}
use Rattle.icu_locale.specs.declared.canonicalizer.rules.Rules.{Rules}

-- the value that follows another: that of the row whose key is its only piece
abbrev pub next_value : Rules → List (List ℕ) → Option (List (List ℕ))
next_value rules value = option_and_then (value_at text_cmp rules.subdivision) (only_piece value)

-- the value that follows the one at a key
abbrev pub subdivision_alias : Rules → KeywordRows → List ℕ → Option (List (List ℕ))
subdivision_alias rules keywords key =
    option_and_then (next_value rules) (value_at text_cmp keywords key)

-- a value put at a key, if there is one
abbrev pub put_optional : KeywordRows → List ℕ → Option (List (List ℕ)) → KeywordRows
put_optional keywords key None = keywords
put_optional keywords key (Some value) = with_value keywords key value

-- the values at `rg` and `sd` become the ends of their runs, and all else stays
pub record AreCanonicalKeywords (rules : Rules) (old new : KeywordRows) : Type 0 where
  pub region_override : Option (List (List ℕ))
  pub subdivision : Option (List (List ℕ))
  pub region_override_end : IsLaterEndOf (next_value rules) (value_at text_cmp old rg)
      region_override
  pub subdivision_end : IsLaterEndOf (next_value rules) (value_at text_cmp old sd) subdivision
  pub whole : new ≡ put_optional (put_optional old rg region_override) sd subdivision

-- no transform language stays none, and one becomes the end of its run by language aliases alone
abbrev pub IsCanonicalTransform : Rules → Option LanguageIdentifier → Option LanguageIdentifier
    → Type 0
IsCanonicalTransform rules old new = BecomesEnd (by_language_alias rules) old new

-- the canonical locale: the end of the identifier's run, the end of the transform language's, and the ends of the values'
pub record IsCanonical (likely : LikelySubtags) (rules : Rules) (old new : Locale) : Type 0 where
  pub id : EndsAt (next likely rules) old.id new.id
  pub transform : IsCanonicalTransform rules old.extensions.transform.lang
      new.extensions.transform.lang
  pub keywords : AreCanonicalKeywords rules old.extensions.unicode.keywords
      new.extensions.unicode.keywords

-- some rule or subdivision row is applied
abbrev pub is_applied : LikelySubtags → Rules → Locale → Bool
is_applied likely rules old =
    is_some (next likely rules old.id)
    || (is_some (option_and_then (by_language_alias rules) old.extensions.transform.lang)
    || (is_some (subdivision_alias rules old.extensions.unicode.keywords rg)
    || is_some (subdivision_alias rules old.extensions.unicode.keywords sd)))

-- what is answered where something was applied, and where nothing was
abbrev pub answer_of : Bool → TransformResult
answer_of true = Modified
answer_of false = Unmodified

-- the locale of an identifier with no extensions
abbrev pub without_extensions : LanguageIdentifier → Locale
without_extensions id = record {
  id = id;
  extensions = record {
    unicode = record { keywords = [] };
    transform = record { lang = None };
  };
}
