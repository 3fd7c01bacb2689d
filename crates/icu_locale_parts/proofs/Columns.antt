-- Each column tells its part, and none has a tab.
use Rattle.std.proofs.Common.{◌≡◌, ◌≤◌, ℕ, false, ◌==◌, List, [], ◌∷◌, ◌++◌, codes, length, get_or, Option, None, Some, IfSome, refl, subst, sym, ap, ◌∙◌, arith}
use Rattle.std.specs.List.{All, Contains, join_by, slice_split}
use Rattle.std.specs.Char.{is_ascii_alphanumeric}
use Rattle.std.proofs.lemmas.Bool.{false≢true}
use Rattle.std.proofs.lemmas.List.Elements.{All-nil, All-cons, All-head, All-tail, All-append, All-from_recursion, All-weaker, All-contains}
use Rattle.std.proofs.lemmas.List.Splits.{slice_split_none, slice_split_at}
use Rattle.icu_locale_core.specs.Identifier.{IsIdentifier, subtags}
use Rattle.icu_locale_core.specs.Identifier as core
use Rattle.icu_locale_core.specs.Keywords.{IsKeyword}
use Rattle.icu_locale_core.specs.Subtag.{IsRegion, IsScript, IsSubtag, IsVariant}
use Rattle.icu_locale_core.specs.TextSet.{TextSet, from_list, rising}
use Rattle.icu_locale_core.specs.declared.langid.LanguageIdentifier.{LanguageIdentifier}
use Rattle.icu_locale_core.specs.laws.Classes.{IsPart-less, part_language, part_region, part_script, part_variant, rising_variants}
use Rattle.icu_locale_core.specs.laws.TextSets.{from_list-rising}
use Rattle.icu_locale_extensions.specs.Extensions.{ArePieces, IsField, IsOther, IsPiece}
use Rattle.icu_locale_extensions.specs.Locales.{IsLocaleIdentifier}
use Rattle.icu_locale_extensions.specs.declared.identifier.LocaleIdentifier.{LocaleIdentifier}
use Rattle.icu_locale_parts.specs.Parts.{Row, columns, if_any, joined, language_if_any, pair, pairs, pieces_if_any}
use Rattle.icu_locale_parts.proofs.Joins.{Differs, Free, free_join, free_plain, joined_once, option_once, some_append}
use Rattle.icu_locale_parts.proofs.Plain.{IsPlain, IsPlainRow, plain_field, plain_keyword, plain_other, plain_piece, plain_subtag, plain_subtags}

-- ---- rows of texts

free_text : (c : ℕ) → is_ascii_alphanumeric c ≡ false → (p : List ℕ) → IsPlain p → Free c p
free_text c outside p is = free_plain c outside p is.plain

-- by a separator that is no letter or digit
texts_once : (c : ℕ) → is_ascii_alphanumeric c ≡ false → (ps qs : List (List ℕ)) → All IsPlain ps → All IsPlain qs
    → join_by (λ p. p) (c ∷ []) ps ≡ join_by (λ p. p) (c ∷ []) qs → ps ≡ qs
texts_once c outside = joined_once c (λ p. p) IsPlain (free_text c outside) (λ p is. is.long) (λ p q is other same. same)

one : (c d : ℕ) → (d == c) ≡ false → Free c (d ∷ [])
one c d is = All-cons (Differs c) d [] is (All-nil (Differs c))

free_texts : (c d : ℕ) → is_ascii_alphanumeric c ≡ false → (d == c) ≡ false → (ps : List (List ℕ)) → All IsPlain ps
    → Free c (join_by (λ p. p) (d ∷ []) ps)
free_texts c d outside is = free_join c (λ p. p) (d ∷ []) IsPlain (one c d is) (free_text c outside)

-- ---- rows of pairs

pieces_of : (row : Row) → IsPlainRow row → All IsPlain row.1
pieces_of row is = All-tail IsPlain row.0 row.1 is

key_of : (row : Row) → IsPlainRow row → IsPlain row.0
key_of row is = All-head IsPlain row.0 row.1 is

free_pair : (c : ℕ) → is_ascii_alphanumeric c ≡ false → (45 == c) ≡ false → (61 == c) ≡ false → (row : Row)
    → IsPlainRow row → Free c (pair row)
free_pair c outside dash equals row is = All-append (Differs c) row.0 _ (free_text c outside row.0 (key_of row is))
    (All-cons (Differs c) 61 (joined row.1) equals (free_texts c 45 outside dash row.1 (pieces_of row is)))

some_pair : (row : Row) → IsPlainRow row → 1 ≤ length (pair row)
some_pair row is = some_append row.0 (codes "=" ++ joined row.1) (key_of row is).long

-- cut at `=`, a pair gives its key and its pieces
cut_pair : (row : Row) → IsPlainRow row → slice_split (λ d. d == 61) (pair row) ≡ row.0 ∷ joined row.1 ∷ []
cut_pair row is =
    slice_split_at (λ d. d == 61) row.0 61 (joined row.1) (free_text 61 refl row.0 (key_of row is)) refl
    ∙ ap (λ ps. row.0 ∷ ps) (slice_split_none (λ d. d == 61) (joined row.1) (free_texts 61 45 refl refl row.1 (pieces_of row is)))

pair_once : (p q : Row) → IsPlainRow p → IsPlainRow q → pair p ≡ pair q → p ≡ q
pair_once p q is other same =
    let cuts = sym (cut_pair p is) ∙ ap (slice_split (λ d. d == 61)) same ∙ cut_pair q other in
    λ i. (
      ap (λ l. get_or l 0 []) cuts i,
      texts_once 45 refl p.1 q.1 (pieces_of p is) (pieces_of q other) (ap (λ l. get_or l 1 []) cuts) i,
    )

pairs_once : (rows others : List Row) → All IsPlainRow rows → All IsPlainRow others → pairs rows ≡ pairs others → rows ≡ others
pairs_once = joined_once 32 pair IsPlainRow (free_pair 32 refl refl refl) some_pair pair_once

free_pairs : (rows : List Row) → All IsPlainRow rows → Free 9 (pairs rows)
free_pairs = free_join 9 pair (codes " ") IsPlainRow (one 9 32 refl) (free_pair 9 refl refl refl)

-- ---- parts that may be absent

plain_script : (t : List ℕ) → IsScript t → IsPlain t
plain_script t is = IsPart-less 1 4 (omega arith) t (part_script t is.member)

plain_region : (t : List ℕ) → IsRegion t → IsPlain t
plain_region t is = IsPart-less 1 2 (omega arith) t (part_region t is.member)

plain_variants : (x : LanguageIdentifier) → IsIdentifier x → All IsPlain (rising x.variants)
plain_variants x is = All-weaker IsVariant IsPlain (λ t v. IsPart-less 1 4 (omega arith) t (part_variant t v.member))
    (rising x.variants) (rising_variants x is)

plain_pieces : (ps : List (List ℕ)) → ArePieces 1 ps → All IsPlain ps
plain_pieces ps is = All-weaker (IsPiece 1) IsPlain (plain_piece 1 (omega arith)) ps is.each

some_pieces : (ps : List (List ℕ)) → ArePieces 1 ps → 1 ≤ length (joined ps)
some_pieces [] is = absurd (false≢true is.some)
some_pieces (p ∷ ps) is = some_append p _ (All-head IsPlain p ps (plain_pieces (p ∷ ps) is)).long

some_language : (x : LanguageIdentifier) → IsIdentifier x → 1 ≤ length (core.written x)
some_language x is = some_append x.language _ (IsPart-less 1 2 (omega arith) x.language (part_language x.language is.language.member)).long

free_if : {X : Type 0} (text : Option X → List ℕ) (P : X → Type 0) → text None ≡ [] → ((x : X) → P x → Free 9 (text (Some x)))
    → (o : Option X) → IfSome o P → Free 9 (text o)
free_if text P none free None is = subst (Free 9) (sym none) (All-nil (Differs 9))
free_if text P none free (Some x) is = free x is

free_language : (x : LanguageIdentifier) → IsIdentifier x → Free 9 (core.written x)
free_language x is = free_texts 9 45 refl refl (subtags x (rising x.variants)) (plain_subtags x is)

free_pieces : (ps : List (List ℕ)) → ArePieces 1 ps → Free 9 (joined ps)
free_pieces ps is = free_texts 9 45 refl refl ps (plain_pieces ps is)

-- ---- the columns

both : {A B : Type 0} → A → B → A × B
both a b = (a, b)

rising_once : (s u : TextSet) → rising s ≡ rising u → s ≡ u
rising_once s u same = sym (from_list-rising s) ∙ ap from_list same ∙ from_list-rising u

module _ (x : LocaleIdentifier) (is : IsLocaleIdentifier x) where
  attributes : All IsPlain x.attributes
  attributes = All-weaker IsSubtag IsPlain plain_subtag x.attributes is.attributes.each

  keywords : All IsPlainRow x.locale.extensions.unicode.keywords
  keywords = All-weaker IsKeyword IsPlainRow plain_keyword x.locale.extensions.unicode.keywords is.each_keyword

  fields : All IsPlainRow x.fields
  fields = All-weaker IsField IsPlainRow plain_field x.fields is.each_field

  others : All IsPlainRow x.others
  others = All-weaker IsOther IsPlainRow plain_other x.others is.each_other

  free_columns : All (Free 9) (columns x)
  free_columns = All-from_recursion (Free 9) (columns x)
      (both (free_plain 9 refl x.locale.id.language (part_language x.locale.id.language is.id.language.member).plain)
      (both (free_if if_any IsScript refl (λ t s. free_text 9 refl t (plain_script t s)) x.locale.id.script is.id.script)
      (both (free_if if_any IsRegion refl (λ t r. free_text 9 refl t (plain_region t r)) x.locale.id.region is.id.region)
      (both (free_texts 9 32 refl refl (rising x.locale.id.variants) (plain_variants x.locale.id is.id))
      (both (free_texts 9 32 refl refl x.attributes attributes)
      (both (free_pairs x.locale.extensions.unicode.keywords keywords)
      (both (free_if language_if_any IsIdentifier refl free_language x.locale.extensions.transform.lang is.language)
      (both (free_pairs x.fields fields)
      (both (free_pairs x.others others)
      (both (free_if pieces_if_any (ArePieces 1) refl free_pieces x.private_use is.private_use) tt))))))))))

  pub no_tab : All (λ column. ¬ (Contains column 9)) (columns x)
  no_tab = All-weaker (Free 9) (λ column. ¬ (Contains column 9))
      (λ column free has. false≢true (sym (All-contains (λ d. (d == 9) ≡ false) column 9 free has))) (columns x) free_columns

module _ (written_once : (x y : LanguageIdentifier) → IsIdentifier x → IsIdentifier y → core.written x ≡ core.written y → x ≡ y)
    (x y : LocaleIdentifier) (is : IsLocaleIdentifier x) (other : IsLocaleIdentifier y) (same : columns x ≡ columns y) where
  at : (k : ℕ) → get_or (columns x) k [] ≡ get_or (columns y) k []
  at k = ap (λ l. get_or l k []) same

  same_id : x.locale.id ≡ y.locale.id
  same_id = λ i. record {
    language = at 0 i;
    script = option_once if_any IsScript refl (λ t s. (plain_script t s).long) (λ t u s r e. e)
        x.locale.id.script y.locale.id.script is.id.script other.id.script (at 1) i;
    region = option_once if_any IsRegion refl (λ t r. (plain_region t r).long) (λ t u s r e. e)
        x.locale.id.region y.locale.id.region is.id.region other.id.region (at 2) i;
    variants = rising_once x.locale.id.variants y.locale.id.variants
        (texts_once 32 refl (rising x.locale.id.variants) (rising y.locale.id.variants)
        (plain_variants x.locale.id is.id) (plain_variants y.locale.id other.id) (at 3)) i;
  }

  same_keywords : x.locale.extensions.unicode.keywords ≡ y.locale.extensions.unicode.keywords
  same_keywords = pairs_once x.locale.extensions.unicode.keywords y.locale.extensions.unicode.keywords
      (keywords x is) (keywords y other) (at 5)

  same_language : x.locale.extensions.transform.lang ≡ y.locale.extensions.transform.lang
  same_language = option_once language_if_any IsIdentifier refl some_language written_once
      x.locale.extensions.transform.lang y.locale.extensions.transform.lang is.language other.language (at 6)

  same_private_use : x.private_use ≡ y.private_use
  same_private_use = option_once pieces_if_any (ArePieces 1) refl some_pieces
      (λ ps qs p q. texts_once 45 refl ps qs (plain_pieces ps p) (plain_pieces qs q))
      x.private_use y.private_use is.private_use other.private_use (at 9)

  pub columns_once : x ≡ y
  columns_once = λ i. record {
    locale = record {
      id = same_id i;
      extensions = record { unicode = record { keywords = same_keywords i }; transform = record { lang = same_language i } };
    };
    attributes = texts_once 32 refl x.attributes y.attributes (attributes x is) (attributes y other) (at 4) i;
    fields = pairs_once x.fields y.fields (fields x is) (fields y other) (at 7) i;
    others = pairs_once x.others y.others (others x is) (others y other) (at 8) i;
    private_use = same_private_use i;
  }
