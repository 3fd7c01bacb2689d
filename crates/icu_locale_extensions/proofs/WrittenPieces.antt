-- The text that is written falls into the pieces that were written.
use Rattle.std.proofs.Common.{◌≡◌, ℕ, true, false, ◌&&◌, List, [], ◌∷◌, ◌++◌, map, codes, Option, None, Some, IfSome, Ok, refl, ap, sym, ◌∙◌, arith, append-nil}
use Rattle.std.specs.Char.{is_ascii_alphanumeric, to_ascii_lowercase}
use Rattle.std.specs.List.{All, flat_map, join_by}
use Rattle.std.proofs.lemmas.Bool.{and_parts, false≢true}
use Rattle.std.proofs.lemmas.Bool.Decides.{nat_tests}
use Rattle.std.proofs.lemmas.List.Elements.{All-nil, All-cons, All-head, All-tail, All-append, All-weaker, All-filter}
use Rattle.std.proofs.lemmas.List.Splits.{slice_split_none, slice_split_at}
use Rattle.std.proofs.lemmas.Str.Ascii.{lowercase-lowercase}
use Rattle.icu_locale_core.specs.Identifier.{pieces, subtags, is_separator, IsIdentifier}
use Rattle.icu_locale_core.specs.Identifier as core
use Rattle.icu_locale_core.specs.Keywords.{IsKeyword}
use Rattle.icu_locale_core.specs.Readings.{read_pieces}
use Rattle.icu_locale_core.specs.Subtag.{has_length, is_alphanumeric, lowercase, IsSubtag}
use Rattle.icu_locale_core.specs.TextSet.{rising}
use Rattle.icu_locale_core.specs.declared.langid.LanguageIdentifier.{LanguageIdentifier}
use Rattle.icu_locale_core.specs.laws.Classes.{part_key, part_subtag, rising_variants, subtag_parts, IsPart}
use Rattle.icu_locale_core.specs.laws.TextSets.{from_list-rising}
use Rattle.icu_locale_core.specs.Cuts.{Block}
use Rattle.icu_locale_extensions.specs.Extensions.{is_singleton, is_tkey, IsPiece, ArePieces, IsField, IsOther}
use Rattle.icu_locale_extensions.specs.Locales.{IsLocaleIdentifier, marked, marked_if_any, lower_subtags, written_pieces, written}
use Rattle.icu_locale_extensions.specs.Rows.{flat, below_t, above_t}
use Rattle.icu_locale_extensions.specs.declared.identifier.LocaleIdentifier.{LocaleIdentifier}

-- letters and digits alone
abbrev Plain : List ℕ → Type 0
Plain p = is_alphanumeric p ≡ true

pub whole_plain : (t : List ℕ) → Plain t → All (λ c. is_separator c ≡ false) t
whole_plain [] h = All-nil (λ c. is_separator c ≡ false)
whole_plain (c ∷ t) h =
    let here : is_separator c ≡ false = grind (arith, nat_tests) in
    let rest : is_alphanumeric t ≡ true = grind (arith, nat_tests) in
    All-cons (λ c. is_separator c ≡ false) c t here (whole_plain t rest)

-- joined and cut again
pieces-join : (p : List ℕ) (ps : List (List ℕ)) → All Plain (p ∷ ps) → pieces (join_by (λ t. t) (codes "-") (p ∷ ps)) ≡ p ∷ ps
pieces-join p [] all = ap pieces (append-nil p) ∙ slice_split_none is_separator p (whole_plain p (All-head Plain p [] all))
pieces-join p (q ∷ qs) all =
    slice_split_at is_separator p 45 (q ++ flat_map (λ t. codes "-" ++ t) qs) (whole_plain p (All-head Plain p (q ∷ qs) all)) refl
    ∙ ap (λ r. p ∷ r) (pieces-join q qs (All-tail Plain p (q ∷ qs) all))

pub plain-lowercase : (t : List ℕ) → is_alphanumeric (lowercase t) ≡ is_alphanumeric t
plain-lowercase [] = refl
plain-lowercase (c ∷ t) =
    let here : is_ascii_alphanumeric (to_ascii_lowercase c) ≡ is_ascii_alphanumeric c = grind (arith, nat_tests) in
    λ i. here i && plain-lowercase t i

plain_lower : (ps : List (List ℕ)) → All Plain ps → All Plain (map lowercase ps)
plain_lower [] all = All-nil Plain
plain_lower (p ∷ ps) all = All-cons Plain (lowercase p) (map lowercase ps) (plain-lowercase p ∙ All-head Plain p ps all) (plain_lower ps (All-tail Plain p ps all))

plain_subtags : (l : LanguageIdentifier) → IsIdentifier l → All Plain (subtags l (rising l.variants))
plain_subtags l is = All-weaker (IsPart 2) Plain (λ p h. h.plain) (subtags l (rising l.variants)) (subtag_parts l is (rising l.variants) (rising_variants l is))

plain_pieces : (low : ℕ) (ps : List (List ℕ)) → All (IsPiece low) ps → All Plain ps
plain_pieces low ps all = All-weaker (IsPiece low) Plain (λ p h. (and_parts (has_length low 8 p) (is_alphanumeric p) h.member).1) ps all

pub plain_tkey : (p : List ℕ) → is_tkey p ≡ true → Plain p
plain_tkey [] is = absurd (false≢true is)
plain_tkey (c ∷ []) is = absurd (false≢true is)
plain_tkey (c ∷ d ∷ []) is = grind (arith, nat_tests)
plain_tkey (c ∷ d ∷ e ∷ t) is = absurd (false≢true is)

plain_flat : (Q : Block → Type 0) → ((row : Block) → Q row → Plain row.0 × All Plain row.1) → (rows : List Block) → All Q rows → All Plain (flat rows)
plain_flat Q f [] each = All-nil Plain
plain_flat Q f (row ∷ rows) each =
    let here = f row (All-head Q row rows each) in
    All-cons Plain row.0 (row.1 ++ flat rows) here.0 (All-append Plain row.1 (flat rows) here.1 (plain_flat Q f rows (All-tail Q row rows each)))

plain_marked : (mark : List ℕ) (ps : List (List ℕ)) → Plain mark → All Plain ps → All Plain (marked mark ps)
plain_marked mark [] is all = all
plain_marked mark (p ∷ ps) is all = All-cons Plain mark (p ∷ ps) is all

plain_others : (rows : List Block) → All IsOther rows → All Plain (flat rows)
plain_others = plain_flat IsOther (λ row is. (
  (and_parts (is_singleton row.0) (is_alphanumeric row.0) (and_parts (is_singleton row.0 && is_alphanumeric row.0) _ is.singleton.member).0).1,
  plain_pieces 2 row.1 is.pieces.each,
))

plain_language : (lang : Option LanguageIdentifier) → IfSome lang IsIdentifier → All Plain (lower_subtags lang)
plain_language None is = All-nil Plain
plain_language (Some l) is = plain_lower (subtags l (rising l.variants)) (plain_subtags l is)

plain_private : (o : Option (List (List ℕ))) → IfSome o (ArePieces 1) → All Plain (marked_if_any (codes "x") o)
plain_private None is = All-nil Plain
plain_private (Some ps) is = All-cons Plain (codes "x") ps refl (plain_pieces 1 ps is.each)

pub pieces-written : (x : LocaleIdentifier) → IsLocaleIdentifier x → pieces (written x) ≡ written_pieces x
pieces-written x is =
    let b = flat (below_t x.others) in
    let l = lower_subtags x.locale.extensions.transform.lang in
    let f = flat x.fields in
    let t = marked (codes "t") (l ++ f) in
    let k = flat x.locale.extensions.unicode.keywords in
    let u = marked (codes "u") (x.attributes ++ k) in
    let a = flat (above_t x.others) in
    let p = marked_if_any (codes "x") x.private_use in
    let parts = λ (ps : List (List ℕ)) (each : All IsSubtag ps). All-weaker IsSubtag Plain (λ p h. (part_subtag p h.member).plain) ps each in
    pieces-join x.locale.id.language _
    (All-append Plain (subtags x.locale.id (rising x.locale.id.variants)) (b ++ (t ++ (u ++ (a ++ p)))) (plain_subtags x.locale.id is.id)
    (All-append Plain b (t ++ (u ++ (a ++ p))) (plain_others (below_t x.others) (All-filter _ IsOther x.others is.each_other))
    (All-append Plain t (u ++ (a ++ p)) (plain_marked (codes "t") (l ++ f) refl (All-append Plain l f (plain_language x.locale.extensions.transform.lang is.language)
    (plain_flat IsField (λ row h. (plain_tkey row.0 h.key.member, plain_pieces 3 row.1 h.value.each)) x.fields is.each_field)))
    (All-append Plain u (a ++ p) (plain_marked (codes "u") (x.attributes ++ k) refl (All-append Plain x.attributes k (parts x.attributes is.attributes.each)
    (plain_flat IsKeyword (λ row h. ((part_key row.0 h.key.member).plain, parts row.1 h.value.each)) x.locale.extensions.unicode.keywords is.each_keyword)))
    (All-append Plain a p (plain_others (above_t x.others) (All-filter _ IsOther x.others is.each_other)) (plain_private x.private_use is.private_use))))))

-- ---- identifiers

abbrev pub Complete : Type 0
Complete = (t : List ℕ) (x : LanguageIdentifier) → IsIdentifier x → core.Spells t x → read_pieces (pieces t) ≡ Ok x

twice : (t : List ℕ) → lowercase (lowercase t) ≡ lowercase t
twice [] = refl
twice (c ∷ t) = λ i. lowercase-lowercase c i ∷ twice t i

all_twice : (ps : List (List ℕ)) → map lowercase (map lowercase ps) ≡ map lowercase ps
all_twice [] = refl
all_twice (p ∷ ps) = λ i. twice p i ∷ all_twice ps i

-- the subtags of an identifier are read as that, in lower case too
pub subtags_read : Complete → (l : LanguageIdentifier) → IsIdentifier l → read_pieces (subtags l (rising l.variants)) ≡ Ok l
subtags_read complete l is =
    let join = pieces-join l.language _ (plain_subtags l is) in
    ap read_pieces (sym join) ∙ complete (join_by (λ t. t) (codes "-") (subtags l (rising l.variants))) l is (record {
      order = rising l.variants;
      lists = record { members = from_list-rising l.variants; once = refl };
      same = ap (map lowercase) join;
    })

pub lower_read : Complete → (l : LanguageIdentifier) → IsIdentifier l → read_pieces (lower_subtags (Some l)) ≡ Ok l
lower_read complete l is =
    let join = pieces-join (lowercase l.language) _ (plain_language (Some l) is) in
    ap read_pieces (sym join) ∙ complete (join_by (λ t. t) (codes "-") (lower_subtags (Some l))) l is (record {
      order = rising l.variants;
      lists = record { members = from_list-rising l.variants; once = refl };
      same = ap (map lowercase) join ∙ all_twice (subtags l (rising l.variants));
    })
