-- What language ranges ask for, and canonical forms of what is available.
use Rattle.std.specs.Prelude.{◌≡◌, ℕ, Bool, true, false, List, [], ◌∷◌, Option, MatchOption}
use Rattle.std.specs.List.{AllZip, cons_option}
use Rattle.icu_locale_core.specs.declared.langid.LanguageIdentifier.{LanguageIdentifier}
use Rattle.icu_locale.specs.Kinds.{next}
use Rattle.icu_locale.specs.LikelySubtags.{LikelySubtags}
use Rattle.icu_locale_runs.specs.Run.{EndsAt}
use Rattle.icu_locale.specs.declared.canonicalizer.rules.Rules.{Rules}
use Rattle.icu_locale_extensions.specs.Locales.{IsLocaleIdentifier}
use Rattle.icu_locale_extensions.specs.Built.{bare}
use Rattle.icu_locale_extensions.specs.Syntaxes.{SpellsBy}
use Rattle.icu_locale_extensions.specs.declared.identifier.LocaleIdentifier.{LocaleIdentifier}
use Rattle.icu_locale_extensions.specs.declared.syntax.Syntax.TheVariants.{Bcp47}
use Rattle.icu_locale_matching.specs.Header.{Wish}

-- a value with P, or none where there is none
abbrev pub IsOnly : {X : Type 0} → (X → Type 0) → Option X → Type 0
IsOnly {X} P o = MatchOption o ((x : X) → P x → ⊥) P

-- a tag that the range spells
abbrev pub IsTag : List ℕ → LocaleIdentifier → Type 0
IsTag range x = IsLocaleIdentifier x × SpellsBy Bcp47 range x

-- ---- canonical forms

-- y is the canonical form of x, or x as it is, where the rules come to no end
abbrev pub IsBrought : LikelySubtags → Rules → LanguageIdentifier → Bool → LanguageIdentifier
    → Type 0
IsBrought likely rules x true y = EndsAt (next likely rules) x y
IsBrought likely rules x false y =
    ((z : LanguageIdentifier) → EndsAt (next likely rules) x z → ⊥) × (y ≡ x)

-- y is one or the other
abbrev pub IsCanonicalOf : LikelySubtags → Rules → LanguageIdentifier → LanguageIdentifier → Type 0
IsCanonicalOf likely rules x y = (ends : Bool) × IsBrought likely rules x ends y

-- the canonical forms of some identifiers, in their order
abbrev pub AreCanonical : LikelySubtags → Rules → List LanguageIdentifier
    → List LanguageIdentifier → Type 0
AreCanonical likely rules xs ys = AllZip (IsCanonicalOf likely rules) xs ys

-- ---- what ranges ask for

-- a range is a tag of BCP 47, a bare one if that is asked for, without extensions and private use, and y the canonical form
-- of its identifier (UTS #35 Part 1, Annex C)
pub record Asks (bare_alone : Bool) (likely : LikelySubtags) (rules : Rules) (range : List ℕ)
    (y : LanguageIdentifier) : Type 0 where
  pub tag : LocaleIdentifier
  pub known : IsLocaleIdentifier tag
  pub spells : SpellsBy Bcp47 range tag
  pub plain : bare_alone ≡ true → tag ≡ bare tag.locale.id
  pub canonical : IsCanonicalOf likely rules tag.locale.id y

-- a range that is wanted asks for y, its extensions dropped
abbrev pub IsRequest : LikelySubtags → Rules → List ℕ → LanguageIdentifier → Type 0
IsRequest = Asks false

-- a range that is refused asks for y; one with extensions refuses nothing
abbrev pub IsRefusal : LikelySubtags → Rules → List ℕ → LanguageIdentifier → Type 0
IsRefusal = Asks true

-- what the ranges of wishes stand for by P, in their order; a range that stands for nothing is passed over
abbrev pub AreAsked : (List ℕ → LanguageIdentifier → Type 0) → List Wish → List LanguageIdentifier
    → Type 0
AreAsked P [] ys = ys ≡ []
AreAsked P (w ∷ ws) ys =
    (o : Option LanguageIdentifier) × (rest : List LanguageIdentifier)
    × IsOnly (P w.0) o × AreAsked P ws rest × (ys ≡ cons_option o rest)

-- what wishes ask for
abbrev pub AreRequests : LikelySubtags → Rules → List Wish → List LanguageIdentifier → Type 0
AreRequests likely rules = AreAsked (IsRequest likely rules)

-- what wishes refuse
abbrev pub AreRefusals : LikelySubtags → Rules → List Wish → List LanguageIdentifier → Type 0
AreRefusals likely rules = AreAsked (IsRefusal likely rules)
