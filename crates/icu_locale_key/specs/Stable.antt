-- Keys of keys, until one stays (UTS #35 Part 1, section 4.3 and Annex C): a key need not be its own key.
use Rattle.std.specs.Prelude.{◌≡◌, ◌≢◌, ◌⊎◌, ℕ, zero, suc, ◌+◌, ◌*◌, ◌<◌, ◌≤◌, List, length}
use Rattle.std.specs.List.{AllPairs, Contains}
use Rattle.icu_locale_core.specs.declared.langid.LanguageIdentifier.{LanguageIdentifier}
use Rattle.icu_locale_runs.specs.Run.{EndsAt, IsRepeat}
use Rattle.icu_locale.specs.Kinds.{next}
use Rattle.icu_locale.specs.LikelySubtags.{LikelySubtags, maximal}
use Rattle.icu_locale.specs.declared.expander.Favor.{Favor}
use Rattle.icu_locale.specs.declared.canonicalizer.rules.Rules.{Rules}
use Rattle.icu_locale.specs.declared.canonicalizer.CanonicalizeError.{CanonicalizeError}
use Rattle.icu_locale.specs.declared.canonicalizer.CanonicalizeError.TheVariants.{Memory, NoFixedPoint, NoSubdivisionFixedPoint}
use Rattle.icu_locale_key.specs.Keys.{IsKey, HasClass}

-- k follows x: it is the key of x, and another identifier
abbrev pub Follows : Favor → LikelySubtags → Rules → LanguageIdentifier → LanguageIdentifier
    → Type 0
Follows favor likely rules x k = IsKey favor likely rules x k × (k ≢ x)

-- in n turns, each from an identifier to the key that follows it, x comes to y
abbrev pub Leads : Favor → LikelySubtags → Rules → ℕ → LanguageIdentifier
    → LanguageIdentifier → Type 0
Leads favor likely rules zero x y = x ≡ y
Leads favor likely rules (suc n) x y = (k : LanguageIdentifier)
    × Leads favor likely rules n x k × Follows favor likely rules k y

-- y is the key of x that stays: x comes to it from key to key, and it is its own key
pub record IsStableKey (favor : Favor) (likely : LikelySubtags) (rules : Rules)
    (x y : LanguageIdentifier) : Type 0 where
  pub turns : ℕ
  pub comes : Leads favor likely rules turns x y
  pub own : IsKey favor likely rules y y

-- x comes to a key that has no key, since its run has no end: z is the first to come again in it
pub record IsStuck (favor : Favor) (likely : LikelySubtags) (rules : Rules)
    (x z : LanguageIdentifier) : Type 0 where
  pub key : LanguageIdentifier
  pub turns : ℕ
  pub comes : Leads favor likely rules turns x key
  pub repeats : IsRepeat (next likely rules) key z

-- the keys of x come round: z comes again after more turns, and what x comes to before does not
pub record ComesRound (favor : Favor) (likely : LikelySubtags) (rules : Rules)
    (x z : LanguageIdentifier) : Type 0 where
  pub place : ℕ
  pub here : Leads favor likely rules place x z
  pub later : ℕ
  pub after : place < later
  pub again : Leads favor likely rules later x z
  pub first : (i j : ℕ) (y : LanguageIdentifier) → i < place → i < j
      → Leads favor likely rules i x y → ¬ Leads favor likely rules j x y

-- a refusal other than want of memory names the identifier or the key that comes again first
abbrev pub IsStableKeyRefusal : Favor → LikelySubtags → Rules → LanguageIdentifier
    → CanonicalizeError → Type 0
IsStableKeyRefusal favor likely rules x Memory = Unit {0}
IsStableKeyRefusal favor likely rules x (NoFixedPoint z) =
    IsStuck favor likely rules x z ⊎ ComesRound favor likely rules x z
IsStableKeyRefusal favor likely rules x (NoSubdivisionFixedPoint v) = ⊥

-- the list has x and each key that x comes to, each once and no others
pub record AreKeysOf (favor : Favor) (likely : LikelySubtags) (rules : Rules)
    (x : LanguageIdentifier) (keys : List LanguageIdentifier) : Type 0 where
  pub each : (n : ℕ) (y : LanguageIdentifier) → Leads favor likely rules n x y
      → Contains keys y
  pub no_other : (y : LanguageIdentifier) → Contains keys y
      → (n : ℕ) × Leads favor likely rules n x y
  pub once : AllPairs (λ y z. y ≢ z) keys

-- the keys that were made from before to after are at most six for each of these, and one
abbrev pub CountsKeys : Favor → LikelySubtags → Rules → LanguageIdentifier → ℕ → ℕ
    → Type 0
CountsKeys favor likely rules x before after = (keys : List LanguageIdentifier)
    × AreKeysOf favor likely rules x keys × (before ≤ after)
    × (after ≤ before + 6 * length keys + 1)

-- y is the canonical form of x, or x that of y, or their maximal forms are equal
abbrev pub IsStep : LikelySubtags → Rules → LanguageIdentifier → LanguageIdentifier → Type 0
IsStep likely rules x y = EndsAt (next likely rules) x y ⊎ (EndsAt (next likely rules) y x
    ⊎ (maximal likely x ≡ maximal likely y))

-- n such steps lead from x to y
abbrev pub AreLinkedIn : LikelySubtags → Rules → ℕ → LanguageIdentifier
    → LanguageIdentifier → Type 0
AreLinkedIn likely rules zero x y = x ≡ y
AreLinkedIn likely rules (suc n) x y = (z : LanguageIdentifier)
    × IsStep likely rules x z × AreLinkedIn likely rules n z y

-- x and y mean the same: some steps lead from one to the other. It is the least equivalence that holds of an identifier
-- and its canonical form, and of identifiers with equal maximal forms
abbrev pub MeanTheSame : LikelySubtags → Rules → LanguageIdentifier → LanguageIdentifier
    → Type 0
MeanTheSame likely rules x y = (n : ℕ) × AreLinkedIn likely rules n x y

-- the classes of the canonical forms of x and of what it comes to have members
abbrev pub KeysHaveClasses : Favor → LikelySubtags → Rules → LanguageIdentifier → Type 0
KeysHaveClasses favor likely rules x = (n : ℕ) (y c : LanguageIdentifier)
    → Leads favor likely rules n x y → EndsAt (next likely rules) y c → HasClass likely c
