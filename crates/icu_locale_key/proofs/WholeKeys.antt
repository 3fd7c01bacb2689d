-- Keys of locale identifiers are one, and their own.
use Rattle.std.proofs.Common.{◌≡◌, ◌⊎◌, refl, ap, sym, ◌∙◌, subst, inl, inr}
use Rattle.icu_locale_core.specs.declared.langid.LanguageIdentifier.{LanguageIdentifier}
use Rattle.icu_locale_runs.specs.laws.LaterEnds.{alone}
use Rattle.icu_locale.specs.Kinds.{next}
use Rattle.icu_locale.specs.LikelySubtags.{LikelySubtags, maximal}
use Rattle.icu_locale.specs.Minimal.{IsMinimalForm}
use Rattle.icu_locale.specs.declared.canonicalizer.rules.Rules.{Rules}
use Rattle.icu_locale.specs.declared.expander.Favor.TheVariants.{RegionFirst}
use Rattle.icu_locale_extensions.specs.Built.{with_id}
use Rattle.icu_locale_extensions.specs.declared.identifier.LocaleIdentifier.{LocaleIdentifier}
use Rattle.icu_locale_values.specs.Refusals.{IsWholeRefusal, IsMemory}
use Rattle.icu_locale_values.specs.Whole.{WholeRules, IsWhole}
use Rattle.icu_locale_values.specs.declared.error.WholeError.{WholeError}
use Rattle.icu_locale_values.specs.declared.error.WholeError.TheVariants.{Memory, NoFixedPoint, NoSubdivisionFixedPoint, NoValueFixedPoint, NoFieldFixedPoint}
use Rattle.icu_locale_key.specs.Keys.{IsKey}
use Rattle.icu_locale_key.specs.Stable.{IsStableKey, IsStuck, ComesRound}
use Rattle.icu_locale_key.specs.Whole.{IsWholeKey, HasNoKey, IsWholeKeyRefusal}
use Rattle.icu_locale_key.proofs.AtOnce.{stable_of_own}
use Rattle.icu_locale_key.proofs.Forms.{same_minimal_form}
use Rattle.icu_locale_key.proofs.KeyRuns.{ends_stable, stable_is_one, stable_of_equal}
use Rattle.icu_locale_key.proofs.Unsettled as unsettled

-- the facts of canonical forms and of minimal forms that are cited
pub record Facts : Type 0 where
  pub one : (by : WholeRules) (old new other : LocaleIdentifier) → IsWhole by old new → IsWhole by old other → new ≡ other
  pub stays : (by : WholeRules) (old new : LocaleIdentifier) → IsWhole by old new → IsWhole by new new
  pub none : (by : WholeRules) (old new : LocaleIdentifier) (e : WholeError) → IsWhole by old new → IsWholeRefusal by old e → IsMemory e
  pub once : (by : WholeRules) (old : LocaleIdentifier) (e f : WholeError) → IsWholeRefusal by old e → IsWholeRefusal by old f → ¬ (IsMemory e)
      → ¬ (IsMemory f) → e ≡ f
  pub form : (table : LikelySubtags) (c : LanguageIdentifier) → (k : LanguageIdentifier) × IsMinimalForm RegionFirst table c k

-- a key that is its own is the key that stays of its canonical form
own_of_end : (table : LikelySubtags) (rules : Rules) (k : LanguageIdentifier) (own : IsKey RegionFirst table rules k k)
    → IsStableKey RegionFirst table rules own.canonical k
own_of_end table rules k own =
    stable_of_own table rules own.canonical k
    (record { canonical = own.canonical; end = alone (next table rules) own.canonical own.end.last; minimal = own.minimal }) own

module _ (facts : Facts) (by : WholeRules) where
  -- what comes again first, where some whole canonical form has no key that stays
  abbrev Reason : LanguageIdentifier → LanguageIdentifier → Type 0
  Reason x z = IsStuck RegionFirst by.likely by.rules x z ⊎ ComesRound RegionFirst by.likely by.rules x z

  pub whole_key_one : (x k l : LocaleIdentifier) → IsWholeKey by x k → IsWholeKey by x l → k ≡ l
  whole_key_one x k l a b =
      let same : a.canonical ≡ b.canonical = facts.one by x a.canonical b.canonical a.whole b.whole in
      let stays = subst (λ (c : LocaleIdentifier). IsStableKey RegionFirst by.likely by.rules c.locale.id a.key) same a.stays in
      let key = stable_is_one by.likely by.rules (facts.form by.likely) b.canonical.locale.id a.key b.key stays b.stays in
      a.is ∙ (λ i. with_id (same i) (key i)) ∙ sym b.is

  -- a key and a reason why there is none are never of one locale identifier
  keyless : (x k : LocaleIdentifier) (z : LanguageIdentifier) → IsWholeKey by x k → HasNoKey by x z → ⊥
  keyless x k z a b =
      let same : b.canonical ≡ a.canonical = facts.one by x b.canonical a.canonical b.whole a.whole in
      let form = facts.form by.likely in
      unsettled.no_reason by.likely by.rules form a.canonical.locale.id a.key z (ends_stable by.likely by.rules form a.canonical.locale.id a.key a.stays)
      (subst (λ (c : LocaleIdentifier). Reason c.locale.id z) same b.reason)

  pub key_or_reason : (x k : LocaleIdentifier) (e : WholeError) → IsWholeKey by x k → IsWholeKeyRefusal by x e → IsMemory e
  key_or_reason x k Memory a why = tt
  key_or_reason x k (NoFixedPoint z) a (inl why) = facts.none by x a.canonical (NoFixedPoint z) a.whole why
  key_or_reason x k (NoFixedPoint z) a (inr none) = absurd (keyless x k z a none)
  key_or_reason x k (NoSubdivisionFixedPoint v) a why = facts.none by x a.canonical (NoSubdivisionFixedPoint v) a.whole why
  key_or_reason x k (NoValueFixedPoint key v) a why = facts.none by x a.canonical (NoValueFixedPoint key v) a.whole why
  key_or_reason x k (NoFieldFixedPoint key v) a why = facts.none by x a.canonical (NoFieldFixedPoint key v) a.whole why

  -- a refusal is of the whole canonical form, or of the key of its identifier
  abbrev Parted : LocaleIdentifier → WholeError → Type 0
  Parted x e = IsWholeRefusal by x e ⊎ ((z : LanguageIdentifier) × (e ≡ NoFixedPoint z) × HasNoKey by x z)

  parted : (x : LocaleIdentifier) (e : WholeError) → IsWholeKeyRefusal by x e → Parted x e
  parted x Memory why = inl tt
  parted x (NoFixedPoint z) (inl why) = inl why
  parted x (NoFixedPoint z) (inr none) = inr (z, refl, none)
  parted x (NoSubdivisionFixedPoint v) why = inl why
  parted x (NoValueFixedPoint key v) why = inl why
  parted x (NoFieldFixedPoint key v) why = inl why

  same_reason : (x : LocaleIdentifier) (e f : WholeError) → Parted x e → Parted x f → ¬ (IsMemory e) → ¬ (IsMemory f) → e ≡ f
  same_reason x e f (inl why) (inl other) no_e no_f = facts.once by x e f why other no_e no_f
  same_reason x e f (inl why) (inr (z, is, none)) no_e no_f = absurd (no_e (facts.none by x none.canonical e none.whole why))
  same_reason x e f (inr (z, is, none)) (inl other) no_e no_f = absurd (no_f (facts.none by x none.canonical f none.whole other))
  same_reason x e f (inr (y, is, none)) (inr (z, also, other)) no_e no_f =
      let same : none.canonical ≡ other.canonical =
      facts.one by x none.canonical other.canonical none.whole other.whole in
      let reason = subst (λ (c : LocaleIdentifier). Reason c.locale.id y) same none.reason in
      is ∙ ap NoFixedPoint (unsettled.one_reason by.likely by.rules (facts.form by.likely) other.canonical.locale.id y z reason other.reason) ∙ sym also

  pub whole_reason_one : (x : LocaleIdentifier) (e f : WholeError) → IsWholeKeyRefusal by x e → IsWholeKeyRefusal by x f → ¬ (IsMemory e)
      → ¬ (IsMemory f) → e ≡ f
  whole_reason_one x e f why other = same_reason x e f (parted x e why) (parted x f other)

  -- with another identifier that is the end of a run, a whole canonical form is that of the form with the start
  with_end : (c : LocaleIdentifier) (k : LanguageIdentifier) (own : IsKey RegionFirst by.likely by.rules k k) → IsWhole by c c
      → IsWhole by (with_id c k) (with_id c own.canonical)
  with_end c k own stays = record {
    locale = record { id = own.end; transform = stays.locale.transform; keywords = stays.locale.keywords };
    fields = stays.fields;
    attributes = refl;
    others = refl;
    private_use = refl;
    maps = record { keywords = stays.maps.keywords; fields = stays.maps.fields };
  }

  pub whole_key_own : (x k : LocaleIdentifier) → IsWholeKey by x k → IsWholeKey by k k
  whole_key_own x k a =
      let own = a.stays.own in
      subst (λ w. IsWholeKey by w w) (sym a.is) (record {
        canonical = with_id a.canonical own.canonical;
        whole = with_end a.canonical a.key own (facts.stays by x a.canonical a.whole);
        key = a.key;
        stays = own_of_end by.likely by.rules a.key own;
        is = refl;
      })

  pub whole_keys_equal : (x y c d k l : LocaleIdentifier) → IsWhole by x c → IsWhole by y d → with_id d c.locale.id ≡ c
      → maximal by.likely c.locale.id ≡ maximal by.likely d.locale.id → IsWholeKey by x k → IsWholeKey by y l → k ≡ l
  whole_keys_equal x y c d k l whole_c whole_d alike same a b =
      let form = facts.form by.likely in
      let here : a.canonical ≡ c = facts.one by x a.canonical c a.whole whole_c in
      let there : b.canonical ≡ d = facts.one by y b.canonical d b.whole whole_d in
      let stays_c = subst (λ (w : LocaleIdentifier). IsStableKey RegionFirst by.likely by.rules w.locale.id a.key) here a.stays in
      let stays_d = subst (λ (w : LocaleIdentifier). IsStableKey RegionFirst by.likely by.rules w.locale.id b.key) there b.stays in
      let least = form c.locale.id in
      let of_c : IsKey RegionFirst by.likely by.rules c.locale.id least.0 =
      record { canonical = c.locale.id; end = (facts.stays by x c whole_c).locale.id; minimal = least.1 } in
      let of_d : IsKey RegionFirst by.likely by.rules d.locale.id least.0 = record {
        canonical = d.locale.id;
        end = (facts.stays by y d whole_d).locale.id;
        minimal = same_minimal_form RegionFirst by.likely c.locale.id d.locale.id least.0 same least.1;
      } in
      let key = stable_of_equal by.likely by.rules form c.locale.id d.locale.id least.0 a.key b.key of_c of_d stays_c stays_d in
      a.is ∙ ap (λ w. with_id w a.key) (here ∙ sym alike) ∙ (λ i. with_id d (key i)) ∙ ap (λ w. with_id w b.key) (sym there) ∙ sym b.is

-- what is refused of the whole canonical form is refused of the key
pub refusal_of_whole : (by : WholeRules) (x : LocaleIdentifier) (e : WholeError) → IsWholeRefusal by x e → IsWholeKeyRefusal by x e
refusal_of_whole by x Memory why = tt
refusal_of_whole by x (NoFixedPoint z) why = inl why
refusal_of_whole by x (NoSubdivisionFixedPoint v) why = why
refusal_of_whole by x (NoValueFixedPoint key v) why = why
refusal_of_whole by x (NoFieldFixedPoint key v) why = why
