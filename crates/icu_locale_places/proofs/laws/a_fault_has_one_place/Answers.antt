use Rattle.std.proofs.Common.{arith, ◌≡◌, ◌≤◌, ◌+◌, ℕ, List, [], length, inl, inr, sym, ap, subst, ◌∙◌}
use Rattle.std.specs.Prelude.{slice_index_or}
use Rattle.std.proofs.lemmas.Bool.{cases_lt}
use Rattle.icu_locale_core.specs.Identifier.{pieces}
use Rattle.icu_locale_places.specs.inner.Spans.{HasBytes}
use Rattle.icu_locale_places.proofs.Spans.{from_span}
use Rattle.icu_locale_places.proofs.laws.a_fault_has_one_place.Goals as goal

-- a piece, or the end, has one span
span_one : (t : List ℕ) (n from to from' to' : ℕ) → n ≤ length (pieces t) → HasBytes t n from to → HasBytes t n from' to' → (from ≡ from') × (to ≡ to')
span_one t n from to from' to' within one two = elim (cases_lt n (length (pieces t))) [
  | inl before ↦ let a = one.piece before in let b = two.piece before in (a.0 ∙ sym b.0, a.1 ∙ ap (λ f. f + length (slice_index_or (pieces t) n [])) (a.0 ∙ sym b.0) ∙ sym b.1)
  | inr after ↦ let last : n ≡ length (pieces t) = omega (arith, within, after) in
      let a = one.ending last in let b = two.ending last in (a.0 ∙ sym b.0, a.1 ∙ sym b.1)
]

pub returns : goal.returns
returns c = λ t from to from' to' one two.
    let same = c.places_are_one.ensures.one (pieces t) one.piece two.piece one.place two.place in
    span_one t one.piece from to from' to' one.place.within (from_span t one.piece from to one.span)
    (subst (λ n. HasBytes t n from' to') (sym same) (from_span t two.piece from' to' two.span))
