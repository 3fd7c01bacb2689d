-- Identifiers without variants stay so, and replacements that touch the subtags but the variants alone.
use Rattle.std.proofs.Common.{◌≡◌, ℕ, Bool, true, false, not, ◌&&◌, ◌||◌, cond, List, Option, Some, None, codes, refl, ◌∙◌, ◌==◌, zero, suc, length}
use Rattle.std.proofs.Common.{IfSome, is_some, option_and_then, unwrap_or, inl, inr, ap, sym}
use Rattle.std.proofs.Math.Bool.{or-false}
use Rattle.std.specs.Option.{option_or, option_map}
use Rattle.std.proofs.lemmas.Option.{none-some, same_Some, option_and_then_some}
use Rattle.std.specs.List.{All, find, list_any}
use Rattle.std.proofs.lemmas.Bool.{false≢true}
use Rattle.std.proofs.lemmas.List.Elements.{All-contains}
use Rattle.icu_locale_core.specs.TextSet.{TextSet, empty, contains, union, difference, text_cmp, rising, len, image}
use Rattle.icu_locale_core.specs.declared.langid.LanguageIdentifier.{LanguageIdentifier}
use Rattle.icu_locale_core.specs.laws.TextSets.{same_set, contains-replaced, contains-empty, length-rising_empty}
use Rattle.icu_locale.specs.Rules.{is_known, part, replaced, of_language, matches}
use Rattle.icu_locale_core.specs.Maps.{value_at}
use Rattle.icu_locale.specs.LikelySubtags.{LikelySubtags}
use Rattle.icu_locale.specs.Kinds.{by_rule, sign_language, by_sign_region, language_alias, by_language_alias, by_script, region_alias, by_region}
use Rattle.icu_locale.specs.Kinds.{complex_region, by_complex_region, variant_alias, by_variant, next}
use Rattle.icu_locale_runs.specs.Run.{at}
use Rattle.icu_locale.specs.Cost.{AddsNoVariants}
use Rattle.icu_locale.specs.declared.canonicalizer.rules.Rule.{Rule}
use Rattle.icu_locale.specs.declared.canonicalizer.rules.Rules.{Rules}
use Rattle.icu_locale_runs.specs.laws.Lists.{Contains-find, some_map, some_or}
use Rattle.icu_locale.proofs.Subsets.{image-empty}

-- a set without none and with none is that set
pub kept : (s : TextSet) → union (difference s empty) empty ≡ s
kept s = same_set (union (difference s empty) empty) s (λ q.
    contains-replaced s empty empty q ∙ (λ i. (not (contains-empty q i) && contains s q) || contains-empty q i) ∙ or-false (contains s q))

pub part-or : {T : Type 0} (source replacement : Option T) → part source None replacement ≡ option_or source replacement
part-or (Some u) replacement = refl
part-or None replacement = refl

pub part-itself : {T : Type 0} (source : Option T) → part source source None ≡ None
part-itself (Some u) = refl
part-itself None = refl

pub replaced-sign : (x : LanguageIdentifier) (l : List ℕ) → replaced x (record
    { language = codes "sgn"; script = None; region = x.region; variants = empty })
    (of_language l) ≡ record { language = l; script = x.script; region = None; variants = x.variants }
replaced-sign x l = λ i. record { language = l; script = or_none x.script i; region = part-itself x.region i; variants = kept x.variants i }
  where
    or_none : (s : Option (List ℕ)) → part s None None ≡ s
    or_none (Some u) = refl
    or_none None = refl

pub replaced-alias : (x b : LanguageIdentifier) → is_known x.language ≡ true
    → replaced x (of_language x.language) (record b { variants = empty }) ≡ record
    { language = b.language; script = option_or x.script b.script; region = option_or x.region b.region; variants = x.variants }
replaced-alias x b known = λ i. record {
  language = cond (known i || (not (is_known x.language) && is_known b.language)) b.language x.language;
  script = part-or x.script b.script i;
  region = part-or x.region b.region i;
  variants = kept x.variants i;
}

pub guarded : {T : Type 0} (test : Bool) (o : Option T) (x : T) → cond test o None ≡ Some x → (test ≡ true) × (o ≡ Some x)
guarded true o x e = (refl, e)
guarded false o x e = absurd (none-some x e)

pub IfSome-from : {X : Type 0} (o : Option X) (P : X → Type 0) → ((z : X) → o ≡ Some z → P z) → IfSome o P
IfSome-from None P h = tt
IfSome-from (Some z) P h = h z refl

none_replaced : (s a b : TextSet) → s ≡ empty → b ≡ empty → union (difference s a) b ≡ empty
none_replaced s a b no_s no_b =
    same_set (union (difference s a) b) empty (λ q.
    contains-replaced s a b q
    ∙ (λ i. (not (contains a q) && contains (no_s i) q) || contains (no_b i) q)
    ∙ (λ i. (not (contains a q) && contains-empty q i) || contains-empty q i)
    ∙ none_of (contains a q)
    ∙ sym (contains-empty q))
  where
    none_of : (in_a : Bool) → ((not in_a && false) || false) ≡ false
    none_of true = refl
    none_of false = refl

module _ (likely : LikelySubtags) (rules : Rules) where
  plain_rule : (test : Bool) (y z : LanguageIdentifier) → test ≡ true → All (λ (r : Rule). r.replacement.variants ≡ empty) rules.language
      → y.variants ≡ empty → option_map (λ r. replaced y r.source r.replacement)
      (find (λ r. matches y r.source) (cond test rules.language rules.language_variants)) ≡ Some z → z.variants ≡ empty
  plain_rule false y z is adds bare e = absurd (false≢true is)
  plain_rule true y z is adds bare e =
      let found = some_map (λ r. replaced y r.source r.replacement) (find (λ r. matches y r.source) rules.language) z e in
      let here = Contains-find (λ r. matches y r.source) rules.language found.0 found.1 in
      let none = All-contains (λ (r : Rule). r.replacement.variants ≡ empty) rules.language found.0 adds here in
      sym (ap (λ x. x.variants) found.2) ∙ none_replaced y.variants found.0.source.variants found.0.replacement.variants bare none

  pub bare_alias : (y z : LanguageIdentifier) → y.variants ≡ empty → by_language_alias rules y ≡ Some z → z.variants ≡ empty
  bare_alias y z bare e =
      let found = some_map (λ b. replaced y (of_language y.language) (record b { variants = empty })) (language_alias rules y.language) z e in
      sym (ap (λ x. x.variants) found.2) ∙ none_replaced y.variants empty empty bare refl

  same_variants : (y z : LanguageIdentifier) (f : List ℕ → LanguageIdentifier) (o : Option (List ℕ))
      → ((t : List ℕ) → (f t).variants ≡ y.variants) → y.variants ≡ empty → option_map f o ≡ Some z → z.variants ≡ empty
  same_variants y z f o same bare e =
      let found = some_map f o z e in
      sym (ap (λ x. x.variants) found.2) ∙ same found.0 ∙ bare

  bare_variant : (y z : LanguageIdentifier) (test : Bool) → y.variants ≡ empty
      → cond test (Some (record y { variants = image (λ v. unwrap_or (variant_alias rules v) v) y.variants })) None ≡ Some z → z.variants ≡ empty
  bare_variant y z true bare e =
      sym (ap (λ x. x.variants) (same_Some (record y { variants = image (λ v. unwrap_or (variant_alias rules v) v) y.variants }) z e))
      ∙ ap (image (λ v. unwrap_or (variant_alias rules v) v)) bare
      ∙ image-empty (λ v. unwrap_or (variant_alias rules v) v)
  bare_variant y z false bare e = absurd (none-some z e)

  pub bare_next : (y z : LanguageIdentifier) → All (λ (r : Rule). r.replacement.variants ≡ empty) rules.language → y.variants ≡ empty
      → next likely rules y ≡ Some z → z.variants ≡ empty
  bare_next y z adds bare e =
      by (by_rule rules y) _ e (plain_rule (len y.variants == 0) y z (ap (λ s. length (rising s) == 0) bare
      ∙ ap (λ n. n == 0) length-rising_empty) adds bare) (λ e.
      by (by_sign_region rules y) _ e (λ e. sign e) (λ e.
      by (by_language_alias rules y) _ e (bare_alias y z bare) (λ e.
      by (by_script rules y) _ e (same_variants y z (λ s. record y { script = Some s })
      (option_and_then (value_at text_cmp rules.aliases.script) y.script) (λ t. refl) bare) (λ e.
      by (by_region rules y) _ e (same_variants y z (λ r. record y { region = Some r }) (option_and_then (region_alias rules) y.region) (λ t. refl) bare) (λ e.
      by (by_complex_region likely rules y) (by_variant rules y) e (same_variants y z (λ r. record y { region = Some r })
      (complex_region likely rules y) (λ t. refl) bare) (bare_variant y z (list_any (λ v. is_some (variant_alias rules v)) (rising y.variants)) bare))))))
    where
      by : (a b : Option LanguageIdentifier) → option_or a b ≡ Some z → (a ≡ Some z → z.variants ≡ empty)
          → (b ≡ Some z → z.variants ≡ empty) → z.variants ≡ empty
      by a b e first later = elim (some_or a b z e) [ inl here ↦ first here | inr there ↦ later there ]

      sign : by_sign_region rules y ≡ Some z → z.variants ≡ empty
      sign e =
          let source : LanguageIdentifier = record { language = codes "sgn"; script = None; region = y.region; variants = empty } in
          let found = some_map (λ l. replaced y source (of_language l)) (sign_language rules y) z e in
          sym (ap (λ x. x.variants) found.2) ∙ none_replaced y.variants empty empty bare refl

-- ---- along a run

module _ (turn : LanguageIdentifier → Option LanguageIdentifier) (x : LanguageIdentifier) where
  bare_at : ((y z : LanguageIdentifier) → y.variants ≡ empty → turn y ≡ Some z → z.variants ≡ empty) → x.variants ≡ empty
      → (place : ℕ) (y : LanguageIdentifier) → at turn x place ≡ Some y → y.variants ≡ empty
  bare_at keeps bare zero y here = ap (λ w. w.variants) (sym (same_Some x y here)) ∙ bare
  bare_at keeps bare (suc place) y here =
      option_and_then_some turn (at turn x place) y here (λ w was goes. keeps w y (bare_at keeps bare place w was) goes)

  pub free_bare : ((y z : LanguageIdentifier) → y.variants ≡ empty → turn y ≡ Some z → z.variants ≡ empty) → x.variants ≡ empty → AddsNoVariants turn x
  free_bare keeps bare y (place, here) =
      IfSome-from (turn y) (λ z. z.variants ≡ empty) (λ z goes. keeps y z (bare_at keeps bare place y here) goes)
