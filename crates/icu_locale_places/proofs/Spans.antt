-- The bytes of a piece, counted, are where it lies in the text.
use Rattle.std.proofs.Common.{◌≡◌, ℕ, ◌<◌, ◌≤◌, ◌+◌, ◌-◌, suc, List, [], ◌++◌, length, take, drop, get_or, inl, inr, refl, ap, sym, ◌∙◌, append-nil, append_assoc, arith}
use Rattle.std.proofs.lemmas.Bool.{cases_lt}
use Rattle.std.proofs.lemmas.List.{drop-drop, length-append, length-take-le, take-append-drop, take_at}
use Rattle.icu_locale_core.specs.Identifier.{pieces}
use Rattle.icu_locale_places.specs.Places.{IsSpan}
use Rattle.icu_locale_places.specs.inner.Spans.{HasBytes, spaced}
use Rattle.icu_locale_places.proofs.Bytes.{spaced_more, spaced_pieces, span_bytes, span_front, span_within}

module _ (t : List ℕ) (n start stop : ℕ) where
  at_piece : n < length (pieces t) → HasBytes t n start stop → IsSpan t n start stop
  at_piece inside bytes =
      let own = get_or (pieces t) n [] in
      let long = (bytes.piece inside).1 in
      let within = span_within t n start stop inside bytes in
      let sum : start + (stop - start) ≡ stop = omega (arith, long) in
      let rest : drop (stop - start) (drop start t) ≡ drop stop t = drop-drop (stop - start) start t ∙ ap (λ m. drop m t) sum in
      let cut : drop start t ≡ own ++ drop stop t =
      sym (take-append-drop (stop - start) (drop start t)) ∙ (λ i. span_bytes t n start stop inside bytes i ++ rest i) in
      let text : t ≡ take start t ++ (own ++ drop stop t) = sym (take-append-drop start t) ∙ ap (λ r. take start t ++ r) cut in
      let front : length (take start t) ≡ start = length-take-le start t (omega (arith, within, long)) in
      let both : length (take start t ++ own) ≡ stop = length-append (take start t) own ∙ omega (arith, front, long) in
      let up_to : take stop t ≡ take start t ++ own =
      ap (take stop) (text ∙ sym (append_assoc (take start t) own (drop stop t))) ∙ take_at (take start t ++ own) (drop stop t) stop both in
      record {
        before = take start t;
        own = own;
        behind = drop stop t;
        text = text;
        begins = sym front;
        ends = long;
        piece = λ _. (refl, ap pieces (sym up_to) ∙ span_front t n start stop inside bytes);
        ending = λ last. absurd (omega (arith, inside, last));
      }

  at_end : n ≡ length (pieces t) → HasBytes t n start stop → IsSpan t n start stop
  at_end last bytes =
      let there = bytes.ending last in
      record {
        before = t;
        own = [];
        behind = [];
        text = sym (append-nil t);
        begins = there.0;
        ends = omega (arith, there.0, there.1);
        piece = λ inside. absurd (omega (arith, inside, last));
        ending = λ _. (refl, refl);
      }

  pub to_span : n ≤ length (pieces t) → HasBytes t n start stop → IsSpan t n start stop
  to_span within bytes = elim (cases_lt n (length (pieces t))) [
    | inl inside ↦ at_piece inside bytes
    | inr after ↦ at_end (omega (arith, within, after)) bytes
  ]

  pub from_span : IsSpan t n start stop → HasBytes t n start stop
  from_span span = record {
    piece = λ inside.
        let is = span.piece inside in
        let long : length span.own ≡ length (get_or (pieces t) n []) = ap length is.0 in
        let count : spaced (take (suc n) (pieces t)) ≡ suc (length (span.before ++ span.own)) =
        ap spaced (sym is.1) ∙ spaced_pieces (span.before ++ span.own) in
        let more = spaced_more (pieces t) n inside in
        (omega (arith, count, more, long, length-append span.before span.own, span.begins), span.ends ∙ ap (λ m. start + m) long);
    ending = λ last.
        let none = span.ending last in
        let whole : length t ≡ length span.before = ap length (span.text ∙ (λ i. span.before ++ (none.0 i ++ none.1 i)) ∙ append-nil span.before) in
        (span.begins ∙ sym whole, omega (arith, span.ends, ap length none.0, span.begins, whole));
  }
