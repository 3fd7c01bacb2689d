-- Pieces, and the text in which they are kept.
use Rattle.std.proofs.Common.{◌≡◌, ℕ, ◌<◌, Bool, true, false, cond, ◌&&◌, List, [], ◌∷◌, ◌++◌, map, length, codes, refl, ap, sym, ◌∙◌, arith, nat_eq}
use Rattle.std.specs.Char.{is_ascii_alphanumeric, to_ascii_lowercase}
use Rattle.std.specs.Cmp.Lexicographic.{pointwise}
use Rattle.std.specs.List.{All, onto_first}
use Rattle.std.specs.Str.{IsUtf8, IsAscii}
use Rattle.std.proofs.lemmas.Bool.{and_parts, false≢true}
use Rattle.std.proofs.lemmas.Bool.Decides.{nat_tests}
use Rattle.std.proofs.lemmas.List.{length-map}
use Rattle.std.proofs.lemmas.List.Elements.{All-nil, All-cons, All-head, All-tail}
use Rattle.std.proofs.lemmas.List.Splits.{slice_split-cons_yes, slice_split-cons_no}
use Rattle.std.proofs.lemmas.Slice.Eq.{bytes_eq-Decides}
use Rattle.std.proofs.lemmas.Str.{IsUtf8-from_ascii, IsUtf8-append}
use Rattle.std.proofs.lemmas.Str.Ascii.{lowercase-lowercase, IsAscii-nil, IsAscii-cons}
use Rattle.icu_locale_core.specs.Identifier.{pieces, is_separator}
use Rattle.icu_locale_core.specs.Subtag.{has_length, is_alphanumeric, lowercase}
use Rattle.icu_locale_core.specs.Value.{written_value}
use Rattle.icu_locale_core.specs.laws.Identifiers.{values_decide}
use Rattle.icu_locale_core.specs.laws.RisingLists.{same_tests}
use Rattle.icu_locale_extensions.specs.Extensions.{any_piece, is_piece, are_pieces, IsPiece}
use Rattle.icu_locale_extensions.specs.Rows.{dashed}
use Rattle.icu_locale_extensions.specs.inner.Texts.{spelled, IsPiecesText}

-- ---- lower case

pub alphanumeric-lowercase : (t : List ℕ) → is_alphanumeric (lowercase t) ≡ is_alphanumeric t
alphanumeric-lowercase [] = refl
alphanumeric-lowercase (c ∷ t) =
    let here : is_ascii_alphanumeric (to_ascii_lowercase c) ≡ is_ascii_alphanumeric c = grind (arith, nat_tests) in
    λ i. here i && alphanumeric-lowercase t i

pub lowercase-twice : (t : List ℕ) → lowercase (lowercase t) ≡ lowercase t
lowercase-twice [] = refl
lowercase-twice (c ∷ t) = λ i. lowercase-lowercase c i ∷ lowercase-twice t i

has_length-same : (low high : ℕ) (s t : List ℕ) → length s ≡ length t → has_length low high s ≡ has_length low high t
has_length-same low high s t e = cc

pub is_piece-lowercase : (low : ℕ) (p : List ℕ) → is_piece low (lowercase p) ≡ is_piece low p
is_piece-lowercase low p = λ i. has_length-same low 8 (lowercase p) p (length-map p to_ascii_lowercase) i && alphanumeric-lowercase p i

pub IsPiece-lowercase : (low : ℕ) (p : List ℕ) → is_piece low p ≡ true → IsPiece low (lowercase p)
IsPiece-lowercase low p is = record { member = is_piece-lowercase low p ∙ is; written = lowercase-twice p }

pub each_lowered : (low : ℕ) (ps : List (List ℕ)) → are_pieces low ps ≡ true → All (IsPiece low) (map lowercase ps)
each_lowered low [] is = All-nil (IsPiece low)
each_lowered low (p ∷ ps) is =
    let both = and_parts (is_piece low p) (are_pieces low ps) is in
    All-cons (IsPiece low) (lowercase p) (map lowercase ps) (IsPiece-lowercase low p both.0) (each_lowered low ps both.1)

-- ---- a text cut and joined

any_piece-onto : (c : ℕ) (ps : List (List ℕ)) → any_piece (onto_first c ps) ≡ true
any_piece-onto c [] = refl
any_piece-onto c (p ∷ ps) = refl

-- a text has a piece
pub any_piece-pieces : (t : List ℕ) → any_piece (pieces t) ≡ true
any_piece-pieces [] = refl
any_piece-pieces (c ∷ t) = by (is_separator c)
  where
    by : (b : Bool) → any_piece (cond b ([] ∷ pieces t) (onto_first c (pieces t))) ≡ true
    by true = refl
    by false = any_piece-onto c (pieces t)

separator-spelled : (c : ℕ) → is_separator (spelled c) ≡ is_separator c
separator-spelled c = grind (arith, nat_tests)

lower-spelled : (c : ℕ) → is_separator c ≡ false → spelled c ≡ to_ascii_lowercase c
lower-spelled c other = grind (arith, nat_tests)

onto_lower : (c d : ℕ) (ps : List (List ℕ)) → d ≡ to_ascii_lowercase c → onto_first d (map lowercase ps) ≡ map lowercase (onto_first c ps)
onto_lower c d [] e = λ i. (e i ∷ []) ∷ []
onto_lower c d (p ∷ ps) e = λ i. (e i ∷ lowercase p) ∷ map lowercase ps

-- the pieces of a text in lower case
pub pieces-spelled : (t : List ℕ) → pieces (map spelled t) ≡ map lowercase (pieces t)
pieces-spelled [] = refl
pieces-spelled (c ∷ t) = by (is_separator c) refl (pieces-spelled t)
  where
    by : (b : Bool) → is_separator c ≡ b → pieces (map spelled t) ≡ map lowercase (pieces t)
        → pieces (spelled c ∷ map spelled t) ≡ map lowercase (pieces (c ∷ t))
    by true e rest =
        slice_split-cons_yes is_separator (spelled c) (map spelled t) (separator-spelled c ∙ e)
        ∙ ap (λ ps. [] ∷ ps) rest ∙ ap (map lowercase) (sym (slice_split-cons_yes is_separator c t e))
    by false e rest =
        slice_split-cons_no is_separator (spelled c) (map spelled t) (separator-spelled c ∙ e)
        ∙ ap (onto_first (spelled c)) rest ∙ onto_lower c (spelled c) (pieces t) (lower-spelled c e)
        ∙ ap (map lowercase) (sym (slice_split-cons_no is_separator c t e))

-- pieces with `-` before each
pub dashed_some : (ps : List (List ℕ)) → any_piece ps ≡ true → dashed ps ≡ 45 ∷ written_value ps
dashed_some [] some = absurd (false≢true some)
dashed_some (p ∷ ps) some = refl

written_onto : (c : ℕ) (ps : List (List ℕ)) → written_value (onto_first c ps) ≡ c ∷ written_value ps
written_onto c [] = refl
written_onto c (p ∷ ps) = refl

dash-spelled : (c : ℕ) → is_separator c ≡ true → spelled c ≡ 45
dash-spelled c e = grind (arith, nat_tests)

-- its pieces, joined, are the text
pub joined-spelled : (t : List ℕ) → written_value (pieces (map spelled t)) ≡ map spelled t
joined-spelled [] = refl
joined-spelled (c ∷ t) = by (is_separator c) refl (joined-spelled t)
  where
    by : (b : Bool) → is_separator c ≡ b → written_value (pieces (map spelled t)) ≡ map spelled t
        → written_value (pieces (spelled c ∷ map spelled t)) ≡ spelled c ∷ map spelled t
    by true e rest =
        ap written_value (slice_split-cons_yes is_separator (spelled c) (map spelled t) (separator-spelled c ∙ e))
        ∙ dashed_some (pieces (map spelled t)) (any_piece-pieces (map spelled t))
        ∙ (λ i. sym (dash-spelled c e) i ∷ rest i)
    by false e rest =
        ap written_value (slice_split-cons_no is_separator (spelled c) (map spelled t) (separator-spelled c ∙ e))
        ∙ written_onto (spelled c) (pieces (map spelled t)) ∙ ap (λ u. spelled c ∷ u) rest

-- a text whose pieces were told is kept in lower case
pub IsPiecesText-spelled : (low : ℕ) (t : List ℕ) → are_pieces low (pieces t) ≡ true → IsPiecesText low (map spelled t)
IsPiecesText-spelled low t is = record {
  each = rw (pieces-spelled t) (each_lowered low (pieces t) is);
  joined = joined-spelled t;
}

-- ---- UTF-8

pub IsAscii-plain : (t : List ℕ) → is_alphanumeric t ≡ true → IsAscii t
IsAscii-plain [] h = IsAscii-nil
IsAscii-plain (c ∷ t) h =
    let small : c < 128 = grind (arith, nat_tests) in
    let rest : is_alphanumeric t ≡ true = grind (arith, nat_tests) in
    IsAscii-cons c t small (IsAscii-plain t rest)

pub IsUtf8-plain : (t : List ℕ) → is_alphanumeric t ≡ true → IsUtf8 t
IsUtf8-plain t h = IsUtf8-from_ascii t (IsAscii-plain t h)

pub plain_piece : (low : ℕ) (p : List ℕ) → IsPiece low p → is_alphanumeric p ≡ true
plain_piece low p is = (and_parts (has_length low 8 p) (is_alphanumeric p) is.member).1

utf8_dash : IsUtf8 (codes "-")
utf8_dash = IsUtf8-from_ascii (codes "-") (IsAscii-cons 45 [] (omega arith) IsAscii-nil)

utf8_dashed : (low : ℕ) (ps : List (List ℕ)) → All (IsPiece low) ps → IsUtf8 (dashed ps)
utf8_dashed low [] all = IsUtf8-from_ascii [] IsAscii-nil
utf8_dashed low (p ∷ ps) all =
    IsUtf8-append (codes "-" ++ p) (dashed ps)
    (IsUtf8-append (codes "-") p utf8_dash (IsUtf8-plain p (plain_piece low p (All-head (IsPiece low) p ps all))))
    (utf8_dashed low ps (All-tail (IsPiece low) p ps all))

pub utf8_joined : (low : ℕ) (ps : List (List ℕ)) → All (IsPiece low) ps → IsUtf8 (written_value ps)
utf8_joined low [] all = IsUtf8-from_ascii [] IsAscii-nil
utf8_joined low (p ∷ ps) all =
    IsUtf8-append p (dashed ps) (IsUtf8-plain p (plain_piece low p (All-head (IsPiece low) p ps all)))
    (utf8_dashed low ps (All-tail (IsPiece low) p ps all))

-- ---- equality

-- texts are equal where their pieces are
pub texts_tell : (low : ℕ) (t u : List ℕ) → IsPiecesText low t → IsPiecesText low u
    → pointwise nat_eq t u ≡ pointwise (pointwise nat_eq) (pieces t) (pieces u)
texts_tell low t u of_t of_u =
    same_tests (pointwise nat_eq t u) (pointwise (pointwise nat_eq) (pieces t) (pieces u))
    (λ e. (values_decide (pieces t) (pieces u)).1 (ap pieces ((bytes_eq-Decides t u).0 e)))
    (λ e. (bytes_eq-Decides t u).1 (sym of_t.joined ∙ ap written_value ((values_decide (pieces t) (pieces u)).0 e) ∙ of_u.joined))

-- ---- rows
