-- How far the pieces of a name are written, how long their text is, and what their report says.
use Rattle.std.proofs.Common.{◌≡◌, ◌∙◌, refl, ap, ℕ, ◌+◌, List, [], ◌∷◌, ◌++◌, length, length-append, take, ◌≢◌, sym, subst, false, Option}
use Rattle.std.proofs.Common.{append_assoc, append-nil, ◌↔◌, true, ◌||◌, if◌then◌else◌}
use Rattle.std.proofs.lemmas.List.{take_at}
use Rattle.std.specs.Io.KnownBytes.{Appends}
use Rattle.std.proofs.KnownBytes.{Appends-nil, Appends-trans}
use Rattle.std.proofs.lemmas.Bool.{false≢true}
use Rattle.icu_locale_core.specs.Sinks.{AppendsPart}
use Rattle.icu_locale_names.specs.Pieces.{Piece, text_of, spans, spans_from, has_raw}

-- the bytes of pieces, the first and then the others
abbrev pub byte_count : List Piece → ℕ
byte_count [] = 0
byte_count (p ∷ pieces) = length p.text + byte_count pieces

-- those are the bytes of the text
pub text_length : (pieces : List Piece) → length (text_of pieces) ≡ byte_count pieces
text_length [] = refl
text_length (p ∷ pieces) = length-append p.text (text_of pieces) ∙ ap (λ n. length p.text + n) (text_length pieces)

-- the front of a list
pub take_front : (old more : List (ℕ × ℕ)) → take (length old) (old ++ more) ≡ old
take_front old more = take_at old more (length old) refl

-- a list in front of another is empty where both are
front_is_empty : (xs ys : List ℕ) → xs ++ ys ≡ [] → xs ≡ []
front_is_empty [] ys is = refl
front_is_empty (x ∷ xs) ys is = absurd (cc)

-- the text up to what is left is written
pub record Written (text : List ℕ) (old new : Option (List ℕ)) (left : List Piece) : Type 0 where
  pub written : List ℕ
  pub parted : text ≡ written ++ text_of left
  pub appended : Appends old new written

pub Written-none : (pieces : List Piece) (old : Option (List ℕ)) → Written (text_of pieces) old old pieces
Written-none pieces old = record { written = []; parted = refl; appended = Appends-nil old }

module _ (text : List ℕ) (old mid new : Option (List ℕ)) (p : Piece) (left : List Piece) (before : Written text old mid (p ∷ left)) where
  -- one more piece
  pub Written-more : Appends mid new p.text → Written text old new left
  Written-more appended = record {
    written = before.written ++ p.text;
    parted = before.parted ∙ sym (append_assoc before.written p.text (text_of left));
    appended = Appends-trans old mid new before.written p.text before.appended appended;
  }

  -- a beginning of the next piece is a beginning of the text
  pub AppendsPart-behind : AppendsPart mid new p.text → AppendsPart old new text
  AppendsPart-behind part = record {
    written = before.written ++ part.written;
    left = part.left ++ text_of left;
    parted = before.parted ∙ ap (λ t. before.written ++ (t ++ text_of left)) part.parted
        ∙ ap (λ t. before.written ++ t) (append_assoc part.written part.left (text_of left))
        ∙ sym (append_assoc before.written part.written (part.left ++ text_of left));
    short = λ is. part.short (front_is_empty part.left (text_of left) is);
    appended = Appends-trans old mid new before.written part.written before.appended part.appended;
  }

-- where no piece is left the text is written
pub Written-all : (text : List ℕ) (old new : Option (List ℕ)) → Written text old new [] → Appends old new text
Written-all text old new all = subst (Appends old new) (sym (all.parted ∙ append-nil all.written)) all.appended

-- where some piece is raw there is a span
raw_has_span : (start : ℕ) (pieces : List Piece) → has_raw pieces ≡ true → spans_from start pieces ≢ []
raw_has_span start [] raw none = false≢true raw
raw_has_span start (p ∷ pieces) raw none =
    let behind = start + length p.text in
    (elim p.raw as (λ v. (v || has_raw pieces) ≡ true → (if v then (start, behind) ∷ spans_from behind pieces else spans_from behind pieces) ≡ [] → ⊥) [
      | true ↦ λ some is. absurd (cc)
      | false ↦ λ some is. raw_has_span behind pieces some is
    ]) raw none

-- where there is a span some piece is raw
span_has_raw : (start : ℕ) (pieces : List Piece) → spans_from start pieces ≢ [] → has_raw pieces ≡ true
span_has_raw start [] some = absurd (some refl)
span_has_raw start (p ∷ pieces) some =
    let behind = start + length p.text in
    (elim p.raw as (λ v. ((if v then (start, behind) ∷ spans_from behind pieces else spans_from behind pieces) ≢ []) → (v || has_raw pieces) ≡ true) [
      | true ↦ λ is. refl
      | false ↦ λ is. span_has_raw behind pieces is
    ]) some

pub spans_where_raw : (pieces : List Piece) → (has_raw pieces ≡ true) ↔ (spans pieces ≢ [])
spans_where_raw pieces = (raw_has_span 0 pieces, span_has_raw 0 pieces)

-- where no piece is raw there is no span, and a list with the spans after it is that list
no_spans : (start : ℕ) (pieces : List Piece) → has_raw pieces ≡ false → spans_from start pieces ≡ []
no_spans start [] plain = refl
no_spans start (p ∷ pieces) plain =
    let behind = start + length p.text in
    (elim p.raw as (λ v. (v || has_raw pieces) ≡ false → (if v then (start, behind) ∷ spans_from behind pieces else spans_from behind pieces) ≡ []) [
      | true ↦ λ none. absurd (cc)
      | false ↦ λ none. no_spans behind pieces none
    ]) plain

pub nothing_marked : (before : List (ℕ × ℕ)) (pieces : List Piece) → has_raw pieces ≡ false → before ≡ before ++ spans pieces
nothing_marked before pieces plain = sym (append-nil before) ∙ ap (λ marks. before ++ marks) (sym (no_spans 0 pieces plain))
