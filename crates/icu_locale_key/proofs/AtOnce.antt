-- Keys that stay at once: what lacks a script or a region had nothing filled in, and what has all three subtags known has
-- nothing to be filled in.
use Rattle.std.proofs.Common.{◌≡◌, ◌≢◌, ◌↔◌, ◌⊎◌, ℕ, Bool, true, false, cond, List, Option, Some, None, OnSome, IfSome, refl, ap, sym, ◌∙◌, subst, inl, inr}
use Rattle.std.specs.List.Sorted.{IsStrictlySortedBy}
use Rattle.std.specs.Str.{bytes_eq}
use Rattle.std.proofs.lemmas.Bool.{false≢true}
use Rattle.std.proofs.lemmas.Option.{none-some}
use Rattle.std.proofs.lemmas.Slice.Eq.{bytes_eq-Decides}
use Rattle.icu_locale_core.specs.Subtag.{und}
use Rattle.icu_locale_core.specs.declared.langid.LanguageIdentifier.{LanguageIdentifier}
use Rattle.icu_locale_core.specs.laws.Identifiers.{same_parts, identifiers_decide}
use Rattle.icu_locale_runs.specs.Run.{BecomesEnd, EndsAt}
use Rattle.icu_locale.specs.Kinds.{next}
use Rattle.icu_locale.specs.Refusals.{IsMemory}
use Rattle.icu_locale.specs.LikelySubtags.{LikelySubtags, Triple, known_subtag, unknown_script, unknown_region, bare_locale, keys, first_found}
use Rattle.icu_locale.specs.LikelySubtags.{filled_from, maximal_of_bare, maximal_locale, subtags_of, with_locale, maximal}
use Rattle.icu_locale.specs.Minimal.{IsMinimalForm}
use Rattle.icu_locale.specs.declared.canonicalizer.CanonicalizeError.{CanonicalizeError}
use Rattle.icu_locale.specs.declared.canonicalizer.CanonicalizeError.TheVariants.{Memory, NoFixedPoint, NoSubdivisionFixedPoint}
use Rattle.icu_locale.specs.declared.canonicalizer.rules.Rules.{Rules}
use Rattle.icu_locale.specs.declared.expander.Favor.TheVariants.{RegionFirst}
use Rattle.icu_locale.specs.declared.expander.TransformResult.{TransformResult}
use Rattle.icu_locale.specs.declared.expander.TransformResult.TheVariants.{Modified}
use Rattle.icu_provider.specs.declared.data_locale.DataLocale.{DataLocale}
use Rattle.icu_locale_core.specs.Maps.{IsSortedMap}
use Rattle.icu_locale_core.specs.TextSet.{text_cmp}
use Rattle.icu_locale_runs.specs.laws.LaterEnds.{alone}
use Rattle.icu_locale_values.specs.Aliases.{next_field, next_whole}
use Rattle.icu_locale_extensions.specs.Built.{bare, with_id}
use Rattle.icu_locale_extensions.specs.declared.identifier.LocaleIdentifier.{LocaleIdentifier}
use Rattle.icu_locale_values.specs.Whole.{BecomeEnds, WholeRules, IsWhole, AreMaps}
use Rattle.icu_locale_key.specs.Keys.{IsKey, IsKeyRefusal, HasClass, IsPart}
use Rattle.icu_locale_key.specs.Stable.{IsStableKey, IsStuck, ComesRound, IsStableKeyRefusal}
use Rattle.icu_locale_key.specs.Whole.{IsWholeKey, IsWholeKeyRefusal}
use Rattle.icu_locale_key.specs.inner.AtOnce.{AreKnown, HasNoValues, IsOpenOrKnown, of_identifier}
use Rattle.icu_locale_key.proofs.Forms.{stable_has_class, unmatched_is_own_key}
use Rattle.icu_locale_key.proofs.Parts.{part_unmatched}

-- ---- maximizing again

unequal : (a b : List ℕ) → (a ≡ b → ⊥) → (test : Bool) → bytes_eq a b ≡ test → bytes_eq a b ≡ false
unequal a b other true e = absurd (other ((bytes_eq-Decides a b).0 e))
unequal a b other false e = e

pub differ : (a b : List ℕ) → (a ≡ b → ⊥) → bytes_eq a b ≡ false
differ a b other = unequal a b other (bytes_eq a b) refl

known_is : (u s : List ℕ) → bytes_eq s u ≡ false → known_subtag u (Some s) ≡ Some s
known_is u s e = ap (λ b. cond b None (Some s)) e

known_again : (u s : List ℕ) (test : Bool) → bytes_eq s u ≡ test → known_subtag u (cond test None (Some s)) ≡ cond test None (Some s)
known_again u s true e = refl
known_again u s false e = known_is u s e

known_twice : (u : List ℕ) (o : Option (List ℕ)) → known_subtag u (known_subtag u o) ≡ known_subtag u o
known_twice u None = refl
known_twice u (Some s) = known_again u s (bytes_eq s u) refl

bare_twice : (x : DataLocale) → bare_locale (bare_locale x) ≡ bare_locale x
bare_twice x = λ i. record {
  language = x.language;
  script = known_twice unknown_script x.script i;
  region = known_twice unknown_region x.region i;
}

-- where a script or a region is missing, nothing was found
nothing_found : (likely : LikelySubtags) (x : DataLocale) (found : Option Triple) → bare_locale x ≡ x → first_found likely (keys x) ≡ found
    → ((filled_from x found).script ≡ None) ⊎ ((filled_from x found).region ≡ None)
    → maximal_locale likely (filled_from x found) ≡ filled_from x found
nothing_found likely x None bare e lacks = ap (maximal_of_bare likely) bare ∙ ap (filled_from x) e
nothing_found likely x (Some t) bare e (inl none) = absurd (none-some _ (sym none))
nothing_found likely x (Some t) bare e (inr none) = absurd (none-some _ (sym none))

open_again : (likely : LikelySubtags) (x : LanguageIdentifier) → ((maximal likely x).script ≡ None) ⊎ ((maximal likely x).region ≡ None)
    → maximal likely (maximal likely x) ≡ maximal likely x
open_again likely x lacks =
    let bare = bare_locale (subtags_of x) in
    ap (with_locale x) (nothing_found likely bare (first_found likely (keys bare)) (bare_twice (subtags_of x)) refl lacks)

-- where all three are known, nothing is filled in
full_is : (l s r : List ℕ) (found : Option Triple) → bytes_eq l und ≡ false
    → filled_from (record { language = l; script = Some s; region = Some r }) found ≡ record { language = l; script = Some s; region = Some r }
full_is l s r None e = refl
full_is l s r (Some t) e = λ i. record { language = ap (λ b. cond b t.0 l) e i; script = Some s; region = Some r }

full_stays : (likely : LikelySubtags) (l s r : List ℕ) → bytes_eq l und ≡ false → bytes_eq s unknown_script ≡ false → bytes_eq r unknown_region ≡ false
    → maximal_locale likely (record { language = l; script = Some s; region = Some r }) ≡ record { language = l; script = Some s; region = Some r }
full_stays likely l s r known_l known_s known_r =
    let x : DataLocale = record { language = l; script = Some s; region = Some r } in
    let bare : bare_locale x ≡ x = λ i. record {
      language = l;
      script = known_is unknown_script s known_s i;
      region = known_is unknown_region r known_r i;
    } in
    ap (maximal_of_bare likely) bare ∙ full_is l s r (first_found likely (keys x)) known_l

known_again_maximal : (likely : LikelySubtags) (x : LanguageIdentifier) → AreKnown x → maximal likely x ≡ x
known_again_maximal likely x known =
    let here : subtags_of x ≡ record { language = x.language; script = Some known.script; region = Some known.region } =
    λ i. record { language = x.language; script = known.script_is i; region = known.region_is i } in
    let stays = full_stays likely x.language known.script known.region (differ x.language und known.language_known)
    (differ known.script unknown_script known.script_known) (differ known.region unknown_region known.region_known) in
    ap (with_locale x) (ap (maximal_locale likely) here ∙ stays ∙ sym here)

again : (likely : LikelySubtags) (x : LanguageIdentifier) → IsOpenOrKnown (maximal likely x) → maximal likely (maximal likely x) ≡ maximal likely x
again likely x (inl none) = open_again likely x (inl none)
again likely x (inr (inl none)) = open_again likely x (inr none)
again likely x (inr (inr known)) = known_again_maximal likely (maximal likely x) known

pub class_of_open : (likely : LikelySubtags) (x k : LanguageIdentifier) → IsMinimalForm RegionFirst likely x k → IsOpenOrKnown k → HasClass likely x
class_of_open likely x k (inl least) lacks = (k, least.0)
class_of_open likely x k (inr none) lacks = stable_has_class likely x (again likely x (subst IsOpenOrKnown none.1 lacks))

-- ---- a key that is its own is the key that stays

own_by : (likely : LikelySubtags) (rules : Rules) (x k : LanguageIdentifier) → IsKey RegionFirst likely rules x k → IsKey RegionFirst likely rules k k
    → (same : Bool) → same_parts k x ≡ same → IsStableKey RegionFirst likely rules x k
own_by likely rules x k is own true e = record { turns = 0; comes = sym ((identifiers_decide k x).0 e); own = own }
own_by likely rules x k is own false e = record {
  turns = 1;
  comes = (x, refl, (is, λ same. false≢true (sym e ∙ (identifiers_decide k x).1 same)));
  own = own;
}

pub stable_of_own : (likely : LikelySubtags) (rules : Rules) (x k : LanguageIdentifier) → IsKey RegionFirst likely rules x k
    → IsKey RegionFirst likely rules k k → IsStableKey RegionFirst likely rules x k
stable_of_own likely rules x k is own = own_by likely rules x k is own (same_parts k x) refl

-- a minimal form that is a part of the canonical form, which has a class, is the key that stays
pub stable_at_once : (likely : LikelySubtags) (rules : Rules) (x c k : LanguageIdentifier) → EndsAt (next likely rules) x c
    → IsMinimalForm RegionFirst likely c k → HasClass likely c → IsPart k c → IsStableKey RegionFirst likely rules x k
stable_at_once likely rules x c k ends minimal class part =
    stable_of_own likely rules x k (record { canonical = c; end = ends; minimal = minimal })
    (unmatched_is_own_key RegionFirst likely rules c k class minimal (part_unmatched likely rules k c part ends.last))

pub if_stable_at_once : {X : Type 0} (likely : LikelySubtags) (rules : Rules) (c k : LanguageIdentifier) → EndsAt (next likely rules) c c
    → (told : Option X) → OnSome told (IsMinimalForm RegionFirst likely c k) → OnSome told (HasClass likely c) → OnSome told (IsPart k c)
    → OnSome told (IsStableKey RegionFirst likely rules c k)
if_stable_at_once likely rules c k ends (Some x) minimal class part = stable_at_once likely rules c c k ends minimal class part
if_stable_at_once likely rules c k ends None minimal class part = tt

-- an identifier that has no key has none that stays
pub refused_first : (likely : LikelySubtags) (rules : Rules) (x : LanguageIdentifier) (e : CanonicalizeError) → IsKeyRefusal likely rules x e
    → IsStableKeyRefusal RegionFirst likely rules x e
refused_first likely rules x Memory why = tt
refused_first likely rules x (NoFixedPoint z) why = inl (record { key = x; turns = 0; comes = refl; repeats = why })
refused_first likely rules x (NoSubdivisionFixedPoint v) why = why

-- where one stays, no refusal comes but want of memory
pub only_memory : (likely : LikelySubtags) (rules : Rules) (x : LanguageIdentifier)
    → ((z : LanguageIdentifier) → IsStuck RegionFirst likely rules x z ⊎ ComesRound RegionFirst likely rules x z → ⊥)
    → (e : CanonicalizeError) → IsStableKeyRefusal RegionFirst likely rules x e → IsMemory e
only_memory likely rules x none Memory why = tt
only_memory likely rules x none (NoFixedPoint z) why = absurd (none z why)
only_memory likely rules x none (NoSubdivisionFixedPoint v) why = absurd why

-- what is refused of an identifier is refused of the locale identifier that has it alone
pub refusal_of_bare : (by : WholeRules) (x : LanguageIdentifier) (e : CanonicalizeError) → IsKeyRefusal by.likely by.rules x e
    → IsWholeKeyRefusal by (bare x) (of_identifier e)
refusal_of_bare by x Memory why = tt
refusal_of_bare by x (NoFixedPoint z) why = inl (λ key. tt, inr (record { keywords = λ key. tt; transform = tt }, inl why))
refusal_of_bare by x (NoSubdivisionFixedPoint v) why = absurd why

-- and so is what is refused of its canonical form
pub refusal_of_canonical : (by : WholeRules) (x : LocaleIdentifier) (e : CanonicalizeError) (c : LocaleIdentifier) → IsWhole by x c
    → IsStableKeyRefusal RegionFirst by.likely by.rules c.locale.id e → IsWholeKeyRefusal by x (of_identifier e)
refusal_of_canonical by x Memory c whole why = tt
refusal_of_canonical by x (NoFixedPoint z) c whole why = inr (record { canonical = c; whole = whole; reason = why })
refusal_of_canonical by x (NoSubdivisionFixedPoint v) c whole why = absurd why

-- ---- an identifier alone

bare_maps : (x : LanguageIdentifier) → AreMaps (bare x)
unfolding IsStrictlySortedBy
bare_maps x = record { keywords = tt; fields = tt }

pub bare_whole : (by : WholeRules) (x c : LanguageIdentifier) → EndsAt (next by.likely by.rules) x c → IsWhole by (bare x) (bare c)
bare_whole by x c ends = record {
  locale = record { id = ends; transform = refl; keywords = λ key. refl };
  fields = λ key. refl;
  attributes = refl;
  others = refl;
  private_use = refl;
  maps = bare_maps c;
}

pub bare_key : (by : WholeRules) (x c k : LanguageIdentifier) → EndsAt (next by.likely by.rules) x c
    → IsStableKey RegionFirst by.likely by.rules c k → IsWholeKey by (bare x) (bare k)
bare_key by x c k ends stays = record {
  canonical = bare c;
  whole = bare_whole by x c ends;
  key = k;
  stays = stays;
  is = refl;
}

-- ---- a locale identifier without values

module _ (by : WholeRules) (x : LocaleIdentifier) (none : HasNoValues x) where
  own_maps : AreMaps x
  unfolding IsStrictlySortedBy
  own_maps = record {
    keywords = subst (IsSortedMap text_cmp) (sym none.keywords) tt;
    fields = subst (IsSortedMap text_cmp) (sym none.fields) tt;
  }

  own_whole : next by.likely by.rules x.locale.id ≡ None → IsWhole by x x
  own_whole last = record {
    locale = record {
      id = alone (next by.likely by.rules) x.locale.id last;
      transform = subst (λ o. BecomesEnd (next by.likely by.rules) o o) (sym none.transform) refl;
      keywords = subst (λ rows. BecomeEnds (next_whole by.rules by.keywords) rows rows) (sym none.keywords) (λ key. refl);
    };
    fields = subst (λ rows. BecomeEnds (next_field by.fields) rows rows) (sym none.fields) (λ key. refl);
    attributes = refl;
    others = refl;
    private_use = refl;
    maps = own_maps;
  }

  whole_key_at_once : (k : LanguageIdentifier) → next by.likely by.rules x.locale.id ≡ None
      → IsStableKey RegionFirst by.likely by.rules x.locale.id k → IsWholeKey by x (with_id x k)
  whole_key_at_once k last stays =
      record { canonical = x; whole = own_whole last; key = k; stays = stays; is = refl }

  pub if_whole_at_once : {X : Type 0} (k : LanguageIdentifier) (told : Option X) → OnSome told (next by.likely by.rules x.locale.id ≡ None)
      → OnSome told (IsStableKey RegionFirst by.likely by.rules x.locale.id k) → OnSome told (IsWholeKey by x (with_id x k))
  if_whole_at_once k (Some told) last stays = whole_key_at_once k last stays
  if_whole_at_once k None last stays = tt

-- it is changed where its identifier is
pub if_whole_told : (x : LocaleIdentifier) (k : LanguageIdentifier) (told : Option TransformResult)
    → IfSome told (λ r. (r ≡ Modified) ↔ (k ≢ x.locale.id)) → IfSome told (λ r. (r ≡ Modified) ↔ (with_id x k ≢ x))
if_whole_told x k None is = tt
if_whole_told x k (Some r) is = (
  λ modified same. is.0 modified (ap (λ (y : LocaleIdentifier). y.locale.id) same),
  λ other. is.1 (λ same. other (ap (with_id x) same)),
)
