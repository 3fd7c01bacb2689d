-- Likely subtags and maximal forms (UTS #35 Part 1, section 4.3, Likely Subtags).
use Rattle.std.specs.Prelude.{◌≡◌, ◌≢◌, ◌⊎◌, ℕ, List, [], ◌∷◌, Option, Some, None, if◌then◌else◌}
use Rattle.std.specs.Option.{option_or, unwrap_or}
use Rattle.std.specs.Str.{bytes_eq}
use Rattle.icu_locale_core.specs.Subtag.{und}
pub use Rattle.icu_locale_core.specs.Subtag.{unknown_script, unknown_region}
use Rattle.icu_locale_core.specs.declared.langid.LanguageIdentifier.{LanguageIdentifier}
use Rattle.icu_provider.specs.declared.data_locale.DataLocale.{DataLocale}
use Rattle.icu_locale.specs.declared.expander.looks.LikelyKey.{LikelyKey}
use Rattle.icu_locale.specs.declared.expander.looks.LikelyKey.TheVariants.{LanguageRegion, LanguageScript, LanguageAlone, ScriptRegion, ScriptAlone}
use Rattle.icu_locale.specs.declared.expander.looks.LikelyKey.TheVariants.{RegionAlone}
use Rattle.icu_locale_core.specs.Identifier.{IsIdentifier}

-- a language, a script and a region
abbrev pub Triple : Type 0
Triple = List ℕ × List ℕ × List ℕ

-- a likely table: each key has at most one triple
abbrev pub LikelySubtags : Type 0
LikelySubtags = LikelyKey → Option Triple

-- a subtag, unless it stands for none
abbrev pub known_subtag : List ℕ → Option (List ℕ) → Option (List ℕ)
known_subtag unknown None = None
known_subtag unknown (Some t) = if bytes_eq t unknown then None else Some t

-- without script `Zzzz` and region `ZZ`, as the first step of section 4.3 removes them
abbrev pub bare_locale : DataLocale → DataLocale
bare_locale x = record {
  language = x.language;
  script = known_subtag unknown_script x.script;
  region = known_subtag unknown_region x.region;
}

-- the keys of a known language: with the region, with the script, alone
abbrev pub known_keys : List ℕ → Option (List ℕ) → Option (List ℕ) → List LikelyKey
known_keys l None None = LanguageAlone l ∷ []
known_keys l None (Some r) = LanguageRegion l r ∷ LanguageAlone l ∷ []
known_keys l (Some s) None = LanguageScript l s ∷ LanguageAlone l ∷ []
known_keys l (Some s) (Some r) = LanguageRegion l r ∷ LanguageScript l s ∷ LanguageAlone l ∷ []

-- the keys of the language `und`: script and region, the script alone, the region alone
abbrev pub und_keys : Option (List ℕ) → Option (List ℕ) → List LikelyKey
und_keys None None = []
und_keys None (Some r) = RegionAlone r ∷ []
und_keys (Some s) None = ScriptAlone s ∷ []
und_keys (Some s) (Some r) = ScriptRegion s r ∷ ScriptAlone s ∷ RegionAlone r ∷ []

-- the keys that are looked up, in their order (section 4.3, the look-up step)
abbrev pub keys : DataLocale → List LikelyKey
keys x =
    if bytes_eq x.language und then und_keys x.script x.region
    else known_keys x.language x.script x.region

-- the triple of the first key that the table has
abbrev pub first_found : LikelySubtags → List LikelyKey → Option Triple
first_found likely [] = None
first_found likely (k ∷ ks) = option_or (likely k) (first_found likely ks)

-- what is missing, taken from the triple: the language where it is `und`, the script and the region where there is none
abbrev pub filled_from : DataLocale → Option Triple → DataLocale
filled_from x None = x
filled_from x (Some t) = record {
  language = (if bytes_eq x.language und then t.0 else x.language);
  script = Some (unwrap_or x.script t.1);
  region = Some (unwrap_or x.region t.2);
}

-- the maximal form of what is bare already
abbrev pub maximal_of_bare : LikelySubtags → DataLocale → DataLocale
maximal_of_bare likely x = filled_from x (first_found likely (keys x))

-- the maximal form of a language, a script and a region (section 4.3, Add Likely Subtags)
abbrev pub maximal_locale : LikelySubtags → DataLocale → DataLocale
maximal_locale likely x = maximal_of_bare likely (bare_locale x)

-- the language, the script and the region of an identifier
abbrev pub subtags_of : LanguageIdentifier → DataLocale
subtags_of x = record { language = x.language; script = x.script; region = x.region }

-- an identifier with another language, script and region, and its own variants
abbrev pub with_locale : LanguageIdentifier → DataLocale → LanguageIdentifier
with_locale x y =
    record { language = y.language; script = y.script; region = y.region; variants = x.variants }

-- the maximal form of an identifier: its variants stay
abbrev pub maximal : LikelySubtags → LanguageIdentifier → LanguageIdentifier
maximal likely x = with_locale x (maximal_locale likely (subtags_of x))

-- the script of the maximal form
abbrev pub likely_script : LikelySubtags → LanguageIdentifier → Option (List ℕ)
likely_script likely x = (maximal likely x).script

-- no script `Zzzz` and no region `ZZ`
abbrev pub IsBare : LanguageIdentifier → Type 0
IsBare x = with_locale x (bare_locale (subtags_of x)) ≡ x

-- something was removed from x or filled in
abbrev pub IsModified : LikelySubtags → LanguageIdentifier → Type 0
IsModified likely x = (IsBare x → ⊥) ⊎ (maximal likely x ≢ x)

-- the maximal forms of the three subtags are equal, and the variants are
pub record HaveSameMaximalParts (likely : LikelySubtags) (x y : LanguageIdentifier) : Type 0 where
  pub locale : maximal_locale likely (subtags_of x) ≡ maximal_locale likely (subtags_of y)
  pub variants : x.variants ≡ y.variants

-- y is bare and is its own maximal form
pub record IsSettled (likely : LikelySubtags) (y : LanguageIdentifier) : Type 0 where
  pub bare : IsBare y
  pub fixed : maximal likely y ≡ y

-- a table is settled where the maximal form of every identifier is
abbrev pub AreSettled : LikelySubtags → Type 0
AreSettled likely = (x : LanguageIdentifier) → IsIdentifier x → IsSettled likely (maximal likely x)
