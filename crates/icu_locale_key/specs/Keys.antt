-- Keys of identifiers in a store: minimal forms of canonical forms (UTS #35 Part 1, section 4.3 and Annex C).
use Rattle.std.specs.Prelude.{◌≡◌, ◌⊎◌, None}
use Rattle.icu_locale_core.specs.declared.langid.LanguageIdentifier.{LanguageIdentifier}
use Rattle.icu_locale_core.specs.Identifier.{IsIdentifier}
use Rattle.icu_locale_runs.specs.Run.{EndsAt, IsRepeat}
use Rattle.icu_locale.specs.Kinds.{next}
use Rattle.icu_locale.specs.LikelySubtags.{LikelySubtags}
use Rattle.icu_locale.specs.Minimal.{IsInClass, IsMinimalForm}
use Rattle.icu_locale.specs.declared.expander.Favor.{Favor}
use Rattle.icu_locale.specs.declared.canonicalizer.rules.Rules.{Rules}
use Rattle.icu_locale.specs.declared.canonicalizer.CanonicalizeError.{CanonicalizeError}
use Rattle.icu_locale.specs.declared.canonicalizer.CanonicalizeError.TheVariants.{Memory, NoFixedPoint, NoSubdivisionFixedPoint}

-- k is the key of x: the run of x ends, and k is the minimal form of its end
pub record IsKey (favor : Favor) (likely : LikelySubtags) (rules : Rules)
    (x k : LanguageIdentifier) : Type 0 where
  pub canonical : LanguageIdentifier
  pub end : EndsAt (next likely rules) x canonical
  pub minimal : IsMinimalForm favor likely canonical k

-- a refusal other than want of memory names the identifier that comes again first
abbrev pub IsKeyRefusal : LikelySubtags → Rules → LanguageIdentifier → CanonicalizeError
    → Type 0
IsKeyRefusal likely rules x Memory = Unit {0}
IsKeyRefusal likely rules x (NoFixedPoint z) = IsRepeat (next likely rules) x z
IsKeyRefusal likely rules x (NoSubdivisionFixedPoint v) = ⊥

-- the class of x has a member: some identifier with the language of its maximal form has the same maximal form. So it
-- is where the maximal form is settled, and where it is its own maximal form
abbrev pub HasClass : LikelySubtags → LanguageIdentifier → Type 0
HasClass likely x = (z : LanguageIdentifier) × IsInClass likely x z

-- k has the language and the variants of c, and no script and no region but those of c
pub record IsPart (k c : LanguageIdentifier) : Type 0 where
  pub language : k.language ≡ c.language
  pub script : (k.script ≡ None) ⊎ (k.script ≡ c.script)
  pub region : (k.region ≡ None) ⊎ (k.region ≡ c.region)
  pub variants : k.variants ≡ c.variants

-- no rule matches the minimal form of an identifier that no rule matches
abbrev pub KeysStayCanonical : Favor → LikelySubtags → Rules → Type 0
KeysStayCanonical favor likely rules = (c k : LanguageIdentifier) → IsIdentifier c
    → next likely rules c ≡ None → IsMinimalForm favor likely c k
    → next likely rules k ≡ None
