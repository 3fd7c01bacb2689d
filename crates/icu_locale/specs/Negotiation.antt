-- Negotiation: which available identifier means what a request means, where identifiers mean the
-- same whose maximal forms are equal (UTS #35 Part 1, section 4.3, Likely Subtags).
use Rattle.std.specs.Prelude.{◌≡◌, ◌⊎◌, ℕ, ◌<◌, ◌≤◌, List, codes, Option, Some, None}
use Rattle.std.specs.List.{slice_get}
use Rattle.icu_locale_core.specs.declared.langid.LanguageIdentifier.{LanguageIdentifier}
use Rattle.icu_locale.specs.LikelySubtags.{LikelySubtags, maximal, AreSettled}
use Rattle.icu_locale.specs.declared.expander.LocaleExpander.{LocaleExpander}
use Rattle.icu_locale.specs.declared.negotiator.NegotiatorError.{NegotiatorError}
use Rattle.icu_locale.specs.declared.negotiator.NegotiatorError.TheVariants.{Memory, NotSettled}
use Rattle.icu_locale.specs.Index.{IsIndex}
use Rattle.icu_locale.specs.declared.negotiator.available.Available.{Available}

-- what a negotiator is: an expander, and the available identifiers as they were handed in
pub record Negotiation : Type 0 where
  pub expander : LocaleExpander
  pub available : List LanguageIdentifier

-- request i and available identifier j are there, and have equal maximal forms
pub record IsMatch (likely : LikelySubtags) (requests available : List LanguageIdentifier)
    (i j : ℕ) : Type 0 where
  pub request : LanguageIdentifier
  pub identifier : LanguageIdentifier
  pub requested : slice_get requests i ≡ Some request
  pub offered : slice_get available j ≡ Some identifier
  pub same : maximal likely request ≡ maximal likely identifier

-- i and j match, and every other match has a later request, or the same one and a later identifier
pub record IsFirstMatch (likely : LikelySubtags) (requests available : List LanguageIdentifier)
    (i j : ℕ) : Type 0 where
  pub matches : IsMatch likely requests available i j
  pub first : (k l : ℕ) → IsMatch likely requests available k l
      → (i < k) ⊎ ((i ≡ k) × (j ≤ l))

-- the first match, and none where there is no match
abbrev pub IsNegotiated : LikelySubtags → List LanguageIdentifier → List LanguageIdentifier
    → Option (ℕ × ℕ) → Type 0
IsNegotiated likely requests available None =
    (i j : ℕ) → IsMatch likely requests available i j → ⊥
IsNegotiated likely requests available (Some p) = IsFirstMatch likely requests available p.0 p.1

-- what Display writes
abbrev pub refusal_name : NegotiatorError → List ℕ
refusal_name Memory = codes "Memory"
refusal_name NotSettled = codes "NotSettled"

-- the available identifiers, as they were handed in
abbrev pub identifiers_of : Available → List LanguageIdentifier
identifiers_of a = a.identifiers.items

-- a list was made over a settled likely table: its rows are the index of its identifiers
pub record IsMadeOver (likely : LikelySubtags) (a : Available) : Type 0 where
  pub settled : AreSettled likely
  pub index : IsIndex likely a.identifiers.items a.rows.items
