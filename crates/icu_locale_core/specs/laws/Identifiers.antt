-- Equality of sets of texts, of identifiers and of values is told by their parts.
use Rattle.std.specs.Prelude.{◌≡◌, ℕ, Bool, true, ◌&&◌, nat_eq, List, Option, Some, None}
use Rattle.std.proofs.Common.{refl, ap, sym, ◌∙◌}
use Rattle.std.specs.Option.{option_eq}
use Rattle.std.specs.Cmp.Lexicographic.{pointwise}
use Rattle.std.proofs.lemmas.Bool.{false≢true, and_parts}
use Rattle.std.proofs.lemmas.Option.{same_Some, none-some}
use Rattle.std.proofs.lemmas.Slice.Eq.{bytes_eq-Decides, slice_eq-Decides}
use Rattle.icu_locale_core.specs.TextSet.{TextSet, rising, from_list}
use Rattle.icu_locale_core.specs.declared.langid.LanguageIdentifier.{LanguageIdentifier}
use Rattle.icu_locale_core.specs.laws.TextSets.{from_list-rising}

-- a test passes exactly where the fact holds
abbrev pub Tells : Bool → Type 0 → Type 0
Tells test fact = (test ≡ true → fact) × (fact → test ≡ true)

-- two texts have the same bytes
abbrev pub same_text : List ℕ → List ℕ → Bool
same_text = pointwise nat_eq

-- two sets have the same rising lists
abbrev pub same_texts : TextSet → TextSet → Bool
same_texts s u = pointwise same_text (rising s) (rising u)

-- two identifiers have the same parts
abbrev pub same_parts : LanguageIdentifier → LanguageIdentifier → Bool
same_parts x y =
    same_text x.language y.language
    && (option_eq same_text x.script y.script
    && (option_eq same_text x.region y.region && same_texts x.variants y.variants))

-- where a test tells equality, so does its test of values that may be absent
pub options_tell : {X : Type 0} (same : X → X → Bool) → ((x y : X) → Tells (same x y) (x ≡ y))
    → (o p : Option X) → Tells (option_eq same o p) (o ≡ p)
options_tell same tells None None = (λ e. refl, λ e. refl)
options_tell same tells None (Some y) = (λ e. absurd (false≢true e), λ e. absurd (none-some y e))
options_tell same tells (Some x) None =
    (λ e. absurd (false≢true e), λ e. absurd (none-some x (sym e)))
options_tell same tells (Some x) (Some y) =
    (λ e. ap Some ((tells x y).0 e), λ e. (tells x y).1 (same_Some x y e))

texts_tell : (o p : Option (List ℕ)) → Tells (option_eq same_text o p) (o ≡ p)
texts_tell o p = options_tell same_text (λ x y. bytes_eq-Decides x y) o p

pub sets_tell : (s u : TextSet) → Tells (same_texts s u) (s ≡ u)
sets_tell s u =
    let lists = slice_eq-Decides bytes_eq-Decides (rising s) (rising u) (same_texts s u) refl in (
      λ e. sym (from_list-rising s) ∙ ap from_list (lists.0 e) ∙ from_list-rising u,
      λ e. lists.1 (ap rising e),
    )

pub identifiers_decide : (x y : LanguageIdentifier) → Tells (same_parts x y) (x ≡ y)
identifiers_decide x y = (
  λ e.
      let l = and_parts (same_text x.language y.language) _ e in
      let s = and_parts (option_eq same_text x.script y.script) _ l.1 in
      let r = and_parts (option_eq same_text x.region y.region) _ s.1 in
      λ i. record {
        language = (bytes_eq-Decides x.language y.language).0 l.0 i;
        script = (texts_tell x.script y.script).0 s.0 i;
        region = (texts_tell x.region y.region).0 r.0 i;
        variants = (sets_tell x.variants y.variants).0 r.1 i;
      },
  λ e. λ i.
      (bytes_eq-Decides x.language y.language).1 (ap (λ (z : LanguageIdentifier). z.language) e) i
      && ((texts_tell x.script y.script).1 (ap (λ (z : LanguageIdentifier). z.script) e) i
      && ((texts_tell x.region y.region).1 (ap (λ (z : LanguageIdentifier). z.region) e) i
      && (sets_tell x.variants y.variants).1 (ap (λ (z : LanguageIdentifier). z.variants) e) i)),
)

pub values_decide : (v w : List (List ℕ)) → Tells (pointwise same_text v w) (v ≡ w)
values_decide v w =
    let decides = slice_eq-Decides bytes_eq-Decides v w (pointwise same_text v w) refl in
    (λ e. decides.0 e, λ e. decides.1 e)
