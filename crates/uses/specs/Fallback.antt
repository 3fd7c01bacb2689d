-- What is served where no available identifier means the same as a request.
use Rattle.std.specs.Prelude.{◌≡◌, ◌≢◌, ◌⊎◌, ℕ, List, None, Some}
use Rattle.icu_locale_core.specs.Subtag.{und}
use Rattle.icu_locale_core.specs.TextSet.{empty}
use Rattle.icu_locale_core.specs.declared.langid.LanguageIdentifier.{LanguageIdentifier}
use Rattle.icu_locale.specs.LikelySubtags.{LikelySubtags, maximal}
use Rattle.uses.specs.Meaning.{MeanTheSame, NoneMeans}

-- an identifier without its variants
abbrev pub plain_form : LanguageIdentifier → LanguageIdentifier
plain_form x = record {
  language = x.language;
  script = x.script;
  region = x.region;
  variants = empty;
}

-- its language and its script alone
abbrev pub wide_form : LanguageIdentifier → LanguageIdentifier
wide_form x = record {
  language = x.language;
  script = x.script;
  region = None;
  variants = empty;
}

-- the language is known, and there is a script
abbrev pub HasScript : LanguageIdentifier → Type 0
HasScript x = (x.language ≢ und) × (s : List ℕ) × (x.script ≡ Some s)

-- two identifiers are read alike: their maximal forms have one language and one script
pub record AreReadAlike (likely : LikelySubtags) (x y : LanguageIdentifier) : Type 0 where
  pub language : (maximal likely x).language ≡ (maximal likely y).language
  pub script : (maximal likely x).script ≡ (maximal likely y).script

-- what is served means the same as a request; or where none does, as its form without variants; or
-- where none means that either, as the language and the script of its maximal form
abbrev pub IsServed : LikelySubtags → List LanguageIdentifier → LanguageIdentifier
    → LanguageIdentifier → Type 0
IsServed likely available x served = MeanTheSame likely x served
    ⊎ (NoneMeans likely available x × MeanTheSame likely (plain_form x) served)
    ⊎ (NoneMeans likely available (plain_form x) × HasScript (maximal likely x)
    × MeanTheSame likely (wide_form (maximal likely x)) served)
