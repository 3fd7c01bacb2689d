-- The text of pieces with others after them, and where the raw ones are.
use Rattle.std.proofs.Common.{◌≡◌, ◌∙◌, refl, ap, sym, ℕ, ◌+◌, true, false, List, [], ◌∷◌, ◌++◌, length, length-append, append_assoc, arith, if◌then◌else◌}
use Rattle.icu_locale_names.specs.Pieces.{Piece, text_of, spans_from}

pub text_of-append : (ps qs : List Piece) → text_of (ps ++ qs) ≡ text_of ps ++ text_of qs
text_of-append [] qs = refl
text_of-append (p ∷ ps) qs =
    ap (λ t. p.text ++ t) (text_of-append ps qs) ∙ sym (append_assoc p.text (text_of ps) (text_of qs))

-- what follows begins where the text of the first ends
starts_behind : (start : ℕ) (p : Piece) (ps : List Piece)
    → (start + length p.text) + length (text_of ps) ≡ start + length (text_of (p ∷ ps))
starts_behind start p ps = omega (arith, length-append p.text (text_of ps))

pub spans_from-append : (start : ℕ) (ps qs : List Piece)
    → spans_from start (ps ++ qs) ≡ spans_from start ps ++ spans_from (start + length (text_of ps)) qs
spans_from-append start [] qs = ap (λ at. spans_from at qs) (omega arith)
spans_from-append start (p ∷ ps) qs =
    let behind = start + length p.text in
    let later : spans_from behind (ps ++ qs) ≡ spans_from behind ps ++ spans_from (start + length (text_of (p ∷ ps))) qs =
    spans_from-append behind ps qs
    ∙ ap (λ at. spans_from behind ps ++ spans_from at qs) (starts_behind start p ps) in
    (elim p.raw as (λ raw. (if raw then (start, behind) ∷ spans_from behind (ps ++ qs) else spans_from behind (ps ++ qs))
    ≡ (if raw then (start, behind) ∷ spans_from behind ps else spans_from behind ps)
    ++ spans_from (start + length (text_of (p ∷ ps))) qs) [
      | true ↦ ap (λ more. (start, behind) ∷ more) later
      | false ↦ later
    ])
