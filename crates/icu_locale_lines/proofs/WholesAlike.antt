-- Rules that make the same turns give the same lines.
use Rattle.std.proofs.Common.{◌≡◌, ◌⊎◌, ℕ, Bool, true, List, Option, ap, subst, ◌∙◌, inl, inr, ◌||◌}
use Rattle.std.specs.Prelude.{if◌then◌else◌, is_some, IsSomeAnd, option_and_then}
use Rattle.icu_locale_core.specs.declared.langid.LanguageIdentifier.{LanguageIdentifier}
use Rattle.icu_locale_core.specs.declared.locale.Locale.{Locale}
use Rattle.icu_locale.specs.Canonical.{answer_of}
use Rattle.icu_locale.specs.LikelySubtags.{LikelySubtags}
use Rattle.icu_locale.specs.declared.canonicalizer.rules.Rules.{Rules}
use Rattle.icu_locale.specs.declared.expander.Favor.TheVariants.{RegionFirst}
use Rattle.icu_locale_extensions.specs.declared.identifier.LocaleIdentifier.{LocaleIdentifier}
use Rattle.icu_locale_key.specs.Stable.{ComesRound, IsStuck}
use Rattle.icu_locale_key.specs.Whole.{IsWholeKey, IsWholeKeyRefusal}
use Rattle.icu_locale_runs.specs.Run.{BecomesEnd, EndsIfAny, IsRepeat}
use Rattle.icu_locale_values.specs.Aliases.{AliasTable, is_ruled, next_field, next_keyword}
use Rattle.icu_locale_values.specs.Refusals.{FirstRunsEnd, IsWholeRefusal}
use Rattle.icu_locale_values.specs.Whole.{BecomeEnds, IsWhole, WholeRules, is_any_followed, is_whole_applied, without_language}
use Rattle.icu_locale_values.specs.declared.error.WholeError.{WholeError}
use Rattle.icu_locale_values.specs.declared.error.WholeError.TheVariants as whole_error
use Rattle.icu_locale_lines.specs.Answers.{IsCanonicalized}
use Rattle.icu_locale_lines.specs.Texts.{canonical_line, whole_line}
use Rattle.icu_locale_lines.specs.Wholes.{IsCanonicalThen, IsKeyed, IsWholeCanonicalized}
use Rattle.icu_locale_lines.proofs.RunsAlike.{TurnAlike, again_alike, applied_alike, canonical_alike, ends_alike, round_alike, stable_alike, stuck_alike, value_again_alike}

module _ (table : LikelySubtags) (r s : Rules) (same : TurnAlike table r s) (keywords fields : AliasTable) where
  abbrev pub before : WholeRules
  before = record { likely = table; rules = r; keywords = keywords; fields = fields }

  abbrev pub after : WholeRules
  after = record { likely = table; rules = s; keywords = keywords; fields = fields }

  whole_alike : (x y : LocaleIdentifier) → IsWhole before x y → IsWhole after x y
  whole_alike x y h = record {
    locale = record {
      id = ends_alike table r s same x.locale.id y.locale.id h.locale.id;
      transform = subst (λ f. BecomesEnd f x.locale.extensions.transform.lang y.locale.extensions.transform.lang) same.turn h.locale.transform;
      keywords = subst (λ (f : List (List ℕ) → Option (List (List ℕ))). BecomeEnds (λ key v. if is_ruled key then f v else next_field keywords key v)
          x.locale.extensions.unicode.keywords y.locale.extensions.unicode.keywords) same.value h.locale.keywords;
    };
    fields = h.fields;
    attributes = h.attributes;
    others = h.others;
    private_use = h.private_use;
    maps = h.maps;
  }

  first_alike : (x : Locale) → FirstRunsEnd before x → FirstRunsEnd after x
  first_alike x h = record {
    keywords = h.keywords;
    transform = subst (λ f. EndsIfAny f x.extensions.transform.lang) same.turn h.transform;
  }

  refused_alike : (x : LocaleIdentifier) (e : WholeError) → IsWholeRefusal before x e → IsWholeRefusal after x e
  refused_alike x whole_error.Memory h = h
  refused_alike x (whole_error.NoFixedPoint z) (a, inl (b, again)) =
      (a, inl (b, subst (λ f. IsSomeAnd x.locale.extensions.transform.lang (λ l. IsRepeat f l z)) same.turn again))
  refused_alike x (whole_error.NoFixedPoint z) (a, inr (b, again)) =
      (a, inr (first_alike x.locale b, again_alike table r s same (without_language x.locale) z again))
  refused_alike x (whole_error.NoSubdivisionFixedPoint v) (a, (b, again)) =
      (a, (first_alike x.locale b, value_again_alike table r s same (without_language x.locale) v again))
  refused_alike x (whole_error.NoValueFixedPoint key v) h = h
  refused_alike x (whole_error.NoFieldFixedPoint key v) h = h

  whole_applied_alike : (x : LocaleIdentifier) → is_whole_applied before x ≡ is_whole_applied after x
  whole_applied_alike x = λ i. is_any_followed (next_field fields) x.fields
      || (is_any_followed (next_keyword keywords) x.locale.extensions.unicode.keywords
      || (is_some (option_and_then (same.turn i) x.locale.extensions.transform.lang) || applied_alike table r s same (without_language x.locale) i))

  -- ---- lines

  module _ (text : List ℕ) (a : Bool) where
    pub canonical_line_alike : (x : Locale) → IsCanonicalized table r x text a → IsCanonicalized table s x text a
    canonical_line_alike x (inl (new, is, line, accepted)) =
        inl (new, canonical_alike table r s same x new is, line ∙ ap (λ b. canonical_line new (answer_of b)) (applied_alike table r s same x), accepted)
    canonical_line_alike x (inr (inl (z, again, line, accepted))) = inr (inl (z, again_alike table r s same x z again, line, accepted))
    canonical_line_alike x (inr (inr (v, again, line, accepted))) = inr (inr (v, value_again_alike table r s same x v again, line, accepted))

    pub then_alike : (L M : LocaleIdentifier → List ℕ → Bool → Type 0) → ((new : LocaleIdentifier) → L new text a → M new text a) → (x : LocaleIdentifier)
        → IsCanonicalThen L before x text a → IsCanonicalThen M after x text a
    then_alike L M moved x (inl (new, is, line)) = inl (new, whole_alike x new is, moved new line)
    then_alike L M moved x (inr (e, why, tells)) = inr (e, refused_alike x e why, tells)

    pub whole_line_alike : (x : LocaleIdentifier) → IsWholeCanonicalized before x text a → IsWholeCanonicalized after x text a
    whole_line_alike x = then_alike (λ new t b. (t ≡ whole_line new (answer_of (is_whole_applied before x))) × (b ≡ true))
        (λ new t b. (t ≡ whole_line new (answer_of (is_whole_applied after x))) × (b ≡ true))
        (λ new h. (h.0 ∙ ap (λ b. whole_line new (answer_of b)) (whole_applied_alike x), h.1)) x

  whole_key_alike : (x k : LocaleIdentifier) → IsWholeKey before x k → IsWholeKey after x k
  whole_key_alike x k h = record {
    canonical = h.canonical;
    whole = whole_alike x h.canonical h.whole;
    key = h.key;
    stays = stable_alike RegionFirst table r s same h.canonical.locale.id h.key h.stays;
    is = h.is;
  }

  reason_alike : (x : LanguageIdentifier) (z : LanguageIdentifier) → IsStuck RegionFirst table r x z ⊎ ComesRound RegionFirst table r x z
      → IsStuck RegionFirst table s x z ⊎ ComesRound RegionFirst table s x z
  reason_alike x z (inl h) = inl (stuck_alike RegionFirst table r s same x z h)
  reason_alike x z (inr h) = inr (round_alike RegionFirst table r s same x z h)

  no_key_alike : (x : LocaleIdentifier) (e : WholeError) → IsWholeKeyRefusal before x e → IsWholeKeyRefusal after x e
  no_key_alike x whole_error.Memory h = h
  no_key_alike x (whole_error.NoFixedPoint z) (inl h) = inl (refused_alike x (whole_error.NoFixedPoint z) h)
  no_key_alike x (whole_error.NoFixedPoint z) (inr h) = inr (record {
    canonical = h.canonical;
    whole = whole_alike x h.canonical h.whole;
    reason = reason_alike h.canonical.locale.id z h.reason;
  })
  no_key_alike x (whole_error.NoSubdivisionFixedPoint v) h = refused_alike x (whole_error.NoSubdivisionFixedPoint v) h
  no_key_alike x (whole_error.NoValueFixedPoint key v) h = h
  no_key_alike x (whole_error.NoFieldFixedPoint key v) h = h

  pub keyed_alike : (x : LocaleIdentifier) (text : List ℕ) (a : Bool) → IsKeyed before x text a → IsKeyed after x text a
  keyed_alike x text a (inl (k, m, is, changed, line, accepted)) = inl (k, m, whole_key_alike x k is, changed, line, accepted)
  keyed_alike x text a (inr (e, why, tells)) = inr (e, no_key_alike x e why, tells)
