-- What follows an identifier in the run of its keys, as a function: what only the walk and proofs cite.
use Rattle.std.specs.Prelude.{◌≡◌, ◌⊎◌, ℕ, zero, suc, List, [], ◌∷◌, length, Option, Some, None, is_some, if◌then◌else◌}
use Rattle.std.specs.Option.{option_and_then}
use Rattle.icu_locale_core.specs.declared.langid.LanguageIdentifier.{LanguageIdentifier}
use Rattle.icu_locale_core.specs.laws.Identifiers.{same_parts}
use Rattle.icu_locale.specs.Kinds.{next}
use Rattle.icu_locale.specs.LikelySubtags.{LikelySubtags, maximal}
use Rattle.icu_locale.specs.declared.canonicalizer.rules.Rules.{Rules}
use Rattle.icu_locale.specs.declared.canonicalizer.CanonicalizeError.{CanonicalizeError}
use Rattle.icu_locale.specs.declared.canonicalizer.CanonicalizeError.TheVariants.{Memory, NoFixedPoint, NoSubdivisionFixedPoint}
use Rattle.icu_locale.specs.declared.expander.Favor.TheVariants.{RegionFirst}
use Rattle.icu_locale_runs.specs.Run.{IsRepeat}
use Rattle.icu_locale_key.specs.Keys.{IsKey}
use Rattle.icu_locale_key.specs.inner.Universe.{run_universe}

-- the end of a run, if it comes in fewer than n turns
abbrev pub end_in : {X : Type 0} → (X → Option X) → ℕ → X → Option X
end_in next zero x = None
end_in next (suc n) x =
    if is_some (next x) then option_and_then (end_in next n) (next x) else Some x

-- the canonical form, if the run ends: it has fewer turns than its universe has members
unfoldable pub canonical_form : LikelySubtags → Rules → LanguageIdentifier
    → Option LanguageIdentifier
canonical_form likely rules x =
    end_in (next likely rules) (length (run_universe rules x)) x

-- of a maximal form: the language and the variants alone, with the region, with the script
abbrev pub trials : LanguageIdentifier → List LanguageIdentifier
trials m = record m { script = None; region = None } ∷ record m { script = None }
    ∷ record m { region = None } ∷ []

-- the first of these that has the maximal form, or that form
abbrev pub first_of : LikelySubtags → LanguageIdentifier → List LanguageIdentifier
    → LanguageIdentifier
first_of likely m [] = m
first_of likely m (t ∷ ts) =
    if same_parts (maximal likely t) m then t else first_of likely m ts

-- the minimal form that favors the region
unfoldable pub minimal_form : LikelySubtags → LanguageIdentifier → LanguageIdentifier
minimal_form likely c = first_of likely (maximal likely c) (trials (maximal likely c))

-- none where it is the start
abbrev pub other_than : LanguageIdentifier → LanguageIdentifier → Option LanguageIdentifier
other_than x k = if same_parts k x then None else Some k

-- the key where the canonical form is there. An identifier that has no key is taken to follow itself
abbrev pub step_from : LikelySubtags → LanguageIdentifier → Option LanguageIdentifier
    → Option LanguageIdentifier
step_from likely x None = Some x
step_from likely x (Some c) = other_than x (minimal_form likely c)

-- the key that follows an identifier
unfoldable pub key_step : LikelySubtags → Rules → LanguageIdentifier
    → Option LanguageIdentifier
key_step likely rules x = step_from likely x (canonical_form likely rules x)

-- why an identifier that comes again in the run of its keys has no key that stays: its run has no end, or it has a key
abbrev pub IsRepeatOf : LikelySubtags → Rules → LanguageIdentifier → CanonicalizeError
    → Type 0
IsRepeatOf likely rules y Memory = Unit {0}
IsRepeatOf likely rules y (NoFixedPoint z) = IsRepeat (next likely rules) y z
    ⊎ ((z ≡ y) × ((k : LanguageIdentifier) × IsKey RegionFirst likely rules y k))
IsRepeatOf likely rules y (NoSubdivisionFixedPoint v) = ⊥
