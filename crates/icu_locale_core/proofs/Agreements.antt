-- Equality, order and hash of texts, sets and identifiers agree, and what is fed to a hasher tells values apart.
use Rattle.std.proofs.Common.{◌≡◌, ℕ, List, [], ◌∷◌, ◌++◌, drop, get_or, Option, Some, None, refl, ap, sym, ◌∙◌, arith, Bool, ◌&&◌}
use Rattle.std.specs.List.{flat_map}
use Rattle.std.specs.Hash.{HashWrites, le_bytes}
use Rattle.std.specs.Cmp.Lexicographic.{pointwise, slice_cmp, texts_ties}
use Rattle.std.specs.Ordering.{is_eq, nat_cmp}
use Rattle.std.specs.declared.cmp.Ordering.{Ordering}
use Rattle.std.proofs.lemmas.Slice.Eq.{bytes_eq-Decides, slice_eq-Decides}
use Rattle.std.proofs.lemmas.Bool.{and_parts}
use Rattle.std.specs.Option.{option_eq, option_cmp}
use Rattle.std.specs.Cmp.{both_tied, Equal-is}
use Rattle.icu_locale_core.specs.Agreement.{fed_subtag, fed_variants, fed_identifier, Agree, identifier_cmp}
use Rattle.icu_locale_core.specs.TextSet.{TextSet, from_list, rising, text_cmp}
use Rattle.icu_locale_core.specs.declared.langid.LanguageIdentifier.{LanguageIdentifier}
use Rattle.icu_locale_core.specs.laws.TextSets.{from_list-rising, text_lists_ties}
use Rattle.icu_locale_core.specs.Keywords.{KeywordRows, row_eq}
use Rattle.icu_locale_core.specs.declared.locale.Locale.{Locale}
use Rattle.icu_locale_core.specs.laws.Identifiers.{Tells, same_text, same_parts, options_tell, identifiers_decide, values_decide}
use Rattle.std.specs.Hash as fed

-- the first text that was fed
abbrev first : HashWrites → List ℕ
first writes = get_or writes 0 []

pub same_subtag : (s t : List ℕ) → fed_subtag s ≡ fed_subtag t → s ≡ t
same_subtag s t e = ap first e

-- the first byte of what says whether a part is there
abbrev mark : HashWrites → ℕ
mark writes = get_or (first writes) 0 0

same_option : (o p : Option (List ℕ)) (us vs : HashWrites) → fed.option fed_subtag o ++ us ≡ fed.option fed_subtag p ++ vs → (o ≡ p) × (us ≡ vs)
unfolding le_bytes
same_option None None us vs e = (refl, ap (drop 1) e)
same_option None (Some t) us vs e = let apart : 0 ≡ 1 = ap mark e in absurd (omega (arith, apart))
same_option (Some s) None us vs e = let apart : 1 ≡ 0 = ap mark e in absurd (omega (arith, apart))
same_option (Some s) (Some t) us vs e = (ap Some (ap (λ writes. first (drop 1 writes)) e), ap (drop 3) e)

same_texts : (ts us : List (List ℕ)) → flat_map fed_subtag ts ≡ flat_map fed_subtag us → ts ≡ us
same_texts [] [] e = refl
same_texts [] (u ∷ us) e = absurd (cc)
same_texts (t ∷ ts) [] e = absurd (cc)
same_texts (t ∷ ts) (u ∷ us) e = λ i. ap first e i ∷ same_texts ts us (ap (drop 2) e) i

pub same_variants : (s u : TextSet) → fed_variants s ≡ fed_variants u → s ≡ u
same_variants s u e = sym (from_list-rising s) ∙ ap from_list (same_texts (rising s) (rising u) (ap (drop 1) e)) ∙ from_list-rising u

pub same_identifier : (x y : LanguageIdentifier) → fed_identifier x ≡ fed_identifier y → x ≡ y
same_identifier x y e =
    let script = same_option x.script y.script _ _ (ap (drop 2) e) in
    let region = same_option x.region y.region _ _ script.1 in
    λ i. record {
      language = ap first e i;
      script = script.0 i;
      region = region.0 i;
      variants = same_variants x.variants y.variants region.1 i;
    }

-- a test that tells equality agrees with an order that ties where it passes, and a hash that tells values apart
pub Agree-from_test : {X : Type 0} (eq : X → X → Bool) (cmp : X → X → Ordering) (hash : X → HashWrites)
    → ((x y : X) → Tells (eq x y) (x ≡ y)) → ((x y : X) → eq x y ≡ is_eq (cmp x y)) → ((x y : X) → hash x ≡ hash y → x ≡ y) → Agree eq cmp hash
Agree-from_test eq cmp hash tells ties apart = record {
  equal = λ x y. ((tells x y).0, (tells x y).1);
  tied = λ x y. (λ e. (tells x y).0 (ties x y ∙ ap is_eq e), λ e. (Equal-is (cmp x y)).0 (sym (ties x y) ∙ (tells x y).1 e));
  hashed = λ x y. (apart x y, ap hash);
}

pub texts_agree : Agree same_text (slice_cmp nat_cmp) fed_subtag
texts_agree = Agree-from_test same_text (slice_cmp nat_cmp) fed_subtag (λ x y. bytes_eq-Decides x y) texts_ties same_subtag

-- ---- identifiers

option_ties : (x y : Option (List ℕ)) → option_eq same_text x y ≡ is_eq (option_cmp text_cmp x y)
option_ties None None = refl
option_ties None (Some y) = refl
option_ties (Some x) None = refl
option_ties (Some x) (Some y) = texts_ties x y

pub identifiers_tie : (x y : LanguageIdentifier) → same_parts x y ≡ is_eq (identifier_cmp x y)
identifiers_tie x y =
    both_tied _ _ (text_cmp x.language y.language) _ (texts_ties x.language y.language)
    (both_tied _ _ (option_cmp text_cmp x.script y.script) _ (option_ties x.script y.script)
    (both_tied _ _ (option_cmp text_cmp x.region y.region) _ (option_ties x.region y.region) (text_lists_ties x.variants y.variants)))

-- ---- values and keywords

rows_tell : (p q : List ℕ × List (List ℕ)) → Tells (row_eq p q) (p ≡ q)
rows_tell p q = (
  λ e.
      let parts = and_parts (same_text p.0 q.0) _ e in
      λ i. ((bytes_eq-Decides p.0 q.0).0 parts.0 i, (values_decide p.1 q.1).0 parts.1 i),
  λ e. λ i. (bytes_eq-Decides p.0 q.0).1 (ap (λ (r : List ℕ × List (List ℕ)). r.0) e) i
      && (values_decide p.1 q.1).1 (ap (λ (r : List ℕ × List (List ℕ)). r.1) e) i,
)

pub keywords_tell : (k l : KeywordRows) → Tells (pointwise row_eq k l) (k ≡ l)
keywords_tell k l = slice_eq-Decides rows_tell k l (pointwise row_eq k l) refl

-- ---- locales

abbrev same_locale : Locale → Locale → Bool
same_locale x y =
    same_parts x.id y.id
    && (pointwise row_eq x.extensions.unicode.keywords y.extensions.unicode.keywords
    && option_eq same_parts x.extensions.transform.lang y.extensions.transform.lang)

pub locales_tell : (x y : Locale) → Tells (same_locale x y) (x ≡ y)
locales_tell x y =
    let languages = options_tell same_parts identifiers_decide x.extensions.transform.lang y.extensions.transform.lang in
    let keywords = keywords_tell x.extensions.unicode.keywords y.extensions.unicode.keywords in (
      λ e.
          let id = and_parts (same_parts x.id y.id) _ e in
          let rest = and_parts (pointwise row_eq x.extensions.unicode.keywords y.extensions.unicode.keywords) _ id.1 in
          λ i. record {
            id = (identifiers_decide x.id y.id).0 id.0 i;
            extensions = record { unicode = record { keywords = keywords.0 rest.0 i }; transform = record { lang = languages.0 rest.1 i } };
          },
      λ e. λ i.
          (identifiers_decide x.id y.id).1 (ap (λ (z : Locale). z.id) e) i
          && (keywords.1 (ap (λ (z : Locale). z.extensions.unicode.keywords) e) i && languages.1 (ap (λ (z : Locale). z.extensions.transform.lang) e) i),
    )
