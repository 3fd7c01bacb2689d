-- The bytes of the pieces of a text.
use Rattle.std.proofs.Common.{◌≡◌, ℕ, ◌<◌, ◌≤◌, ◌+◌, ◌-◌, suc, zero, Bool, true, false, cond, List, [], ◌∷◌, ◌++◌, length, take, drop, get_or, count_by, refl, ap, sym, ◌∙◌, add-zero, add-one, arith}
use Rattle.std.specs.List.{onto_first}
use Rattle.std.proofs.lemmas.List.{drop-drop, get_or-drop}
use Rattle.std.proofs.lemmas.List.Splits.{length-slice_split}
use Rattle.icu_locale_core.specs.Identifier.{is_separator, pieces}
use Rattle.icu_locale_places.specs.inner.Spans.{HasBytes, spaced}

-- the last byte of a piece, and one more
abbrev pub stop_of : List (List ℕ) → ℕ → ℕ
stop_of [] n = 0
stop_of (p ∷ ps) zero = length p
stop_of (p ∷ ps) (suc n) = suc (length p + stop_of ps n)

pub stops : (ps : List (List ℕ)) (n : ℕ) → n < length ps → stop_of ps n ≡ spaced (take n ps) + length (get_or ps n [])
stops [] n inside = absurd (omega arith)
stops (p ∷ ps) zero inside = omega arith
stops (p ∷ ps) (suc n) inside = omega (arith, stops ps n (omega arith))

-- a piece follows each separator, and the first one
pub record HasFirst (ps : List (List ℕ)) : Type 0 where
  pub first : List ℕ
  pub others : List (List ℕ)
  pub parts : ps ≡ first ∷ others

onto : (c : ℕ) (ps : List (List ℕ)) → HasFirst ps → HasFirst (onto_first c ps)
onto c [] has = record { first = c ∷ []; others = []; parts = refl }
onto c (p ∷ ps) has = record { first = c ∷ p; others = ps; parts = refl }

pub has_first : (t : List ℕ) → HasFirst (pieces t)
has_first [] = record { first = []; others = []; parts = refl }
has_first (c ∷ t) = by (is_separator c) (has_first t)
  where
    by : (b : Bool) → HasFirst (pieces t) → HasFirst (cond b ([] ∷ pieces t) (onto_first c (pieces t)))
    by true has = record { first = []; others = pieces t; parts = refl }
    by false has = onto c (pieces t) has

-- all pieces with a separator after each have a byte more than the text
pub spaced_pieces : (t : List ℕ) → spaced (pieces t) ≡ suc (length t)
spaced_pieces [] = refl
spaced_pieces (c ∷ t) = by (is_separator c) (spaced_pieces t) (has_first t)
  where
    longer : (ps : List (List ℕ)) → HasFirst ps → spaced (onto_first c ps) ≡ suc (spaced ps)
    longer [] has = absurd (cc has.parts)
    longer (p ∷ ps) has = omega arith

    by : (b : Bool) → spaced (pieces t) ≡ suc (length t) → HasFirst (pieces t) → spaced (cond b ([] ∷ pieces t) (onto_first c (pieces t))) ≡ suc (length (c ∷ t))
    by true ih has = omega (arith, ih)
    by false ih has = longer (pieces t) has ∙ ap suc ih

pub stop_within : (ps : List (List ℕ)) (n : ℕ) → n < length ps → suc (stop_of ps n) ≤ spaced ps
stop_within [] n inside = absurd (omega arith)
stop_within (p ∷ ps) zero inside = omega arith
stop_within (p ∷ ps) (suc n) inside = omega (arith, stop_within ps n (omega arith))

abbrev FrontsAre : List ℕ → Type 0
FrontsAre t = (k : ℕ) → k < length (pieces t) → pieces (take (stop_of (pieces t) k) t) ≡ take (suc k) (pieces t)

-- what is before the end of a piece has the pieces up to it
pub front_pieces : (t : List ℕ) (n : ℕ) → n < length (pieces t) → pieces (take (stop_of (pieces t) n) t) ≡ take (suc n) (pieces t)
front_pieces [] zero inside = refl
front_pieces [] (suc n) inside = absurd (omega arith)
front_pieces (c ∷ t) n inside = by (is_separator c) refl (λ k. front_pieces t k) n inside
  where
    onto_one : is_separator c ≡ false → FrontsAre t → (ps : List (List ℕ)) → pieces t ≡ ps → (n : ℕ) → n < length (onto_first c ps)
        → pieces (take (stop_of (onto_first c ps) n) (c ∷ t)) ≡ take (suc n) (onto_first c ps)
    onto_one e ih [] is n less = absurd (none (has_first t) is)
      where
        none : HasFirst (pieces t) → pieces t ≡ [] → ⊥
        none has is = cc (sym is ∙ has.parts)
    onto_one e ih (p ∷ ps) is zero less =
        rw e (ap (onto_first c) (ap (λ rs. pieces (take (stop_of rs zero) t)) (sym is) ∙ ih zero (rw is (omega arith)) ∙ ap (take (suc zero)) is))
    onto_one e ih (p ∷ ps) is (suc n) less =
        let same : suc (length p) + stop_of ps n ≡ suc (length p + stop_of ps n) = omega arith in
        rw e (ap (λ m. onto_first c (pieces (take m t))) same ∙ ap (onto_first c) (ap (λ rs. pieces (take (stop_of rs (suc n)) t)) (sym is) ∙ ih (suc n) (rw is (omega arith)) ∙ ap (take (suc (suc n))) is))

    by : (b : Bool) → is_separator c ≡ b → FrontsAre t → (n : ℕ) → n < length (cond b ([] ∷ pieces t) (onto_first c (pieces t)))
        → pieces (take (stop_of (cond b ([] ∷ pieces t) (onto_first c (pieces t))) n) (c ∷ t)) ≡ take (suc n) (cond b ([] ∷ pieces t) (onto_first c (pieces t)))
    by true e ih zero in_range = refl
    by true e ih (suc n) in_range =
        let same : 0 + stop_of (pieces t) n ≡ stop_of (pieces t) n = omega arith in
        rw e (ap (λ m. [] ∷ pieces (take m t)) same ∙ ap (λ ps. [] ∷ ps) (ih n (omega arith)))
    by false e ih n in_range = onto_one e ih (pieces t) refl n in_range

-- a text after another, with a separator between them
pub joined_pieces : (s t : List ℕ) → pieces (s ++ 45 ∷ t) ≡ pieces s ++ pieces t
joined_pieces [] t = refl
joined_pieces (c ∷ s) t = by (is_separator c) (joined_pieces s t) (has_first s)
  where
    longer : (ps qs : List (List ℕ)) → HasFirst ps → onto_first c (ps ++ qs) ≡ onto_first c ps ++ qs
    longer [] qs has = absurd (cc has.parts)
    longer (p ∷ ps) qs has = refl

    by : (b : Bool) → pieces (s ++ 45 ∷ t) ≡ pieces s ++ pieces t → HasFirst (pieces s)
        → cond b ([] ∷ pieces (s ++ 45 ∷ t)) (onto_first c (pieces (s ++ 45 ∷ t))) ≡ cond b ([] ∷ pieces s) (onto_first c (pieces s)) ++ pieces t
    by true ih has = ap (λ ps. [] ∷ ps) ih
    by false ih has = ap (onto_first c) ih ∙ longer (pieces s) (pieces t) has

-- ---- one piece after another

pub spaced_more : (ps : List (List ℕ)) (n : ℕ) → n < length ps → spaced (take (suc n) ps) ≡ spaced (take n ps) + (length (get_or ps n []) + 1)
spaced_more [] n inside = absurd (omega arith)
spaced_more (p ∷ ps) zero inside = omega arith
spaced_more (p ∷ ps) (suc n) inside = omega (arith, spaced_more ps n (omega arith))

next_stop : (ps : List (List ℕ)) (n : ℕ) → suc n < length ps → suc (stop_of ps n) ≤ stop_of ps (suc n)
next_stop [] n inside = absurd (omega arith)
next_stop (p ∷ []) n inside = absurd (omega arith)
next_stop (p ∷ q ∷ ps) zero inside = omega arith
next_stop (p ∷ q ∷ ps) (suc n) inside = omega (arith, next_stop (q ∷ ps) n (omega arith))

pub within_text : (t : List ℕ) (n : ℕ) → n < length (pieces t) → spaced (take n (pieces t)) + length (get_or (pieces t) n []) ≤ length t
within_text t n inside = omega (arith, stops (pieces t) n inside, stop_within (pieces t) n inside, spaced_pieces t)

-- a separator follows each piece but the last
pub separator_within : (t : List ℕ) (n : ℕ) → suc n < length (pieces t) → spaced (take n (pieces t)) + (length (get_or (pieces t) n []) + 1) ≤ length t
separator_within t n inside =
    omega (arith, stops (pieces t) n (omega arith), next_stop (pieces t) n inside, stop_within (pieces t) (suc n) inside, spaced_pieces t)

-- the first of the pieces that are left
pub next_long : (ps left : List (List ℕ)) (n long : ℕ) → left ≡ drop n ps → long ≡ length (get_or left 0 []) → long ≡ length (get_or ps n [])
next_long ps left n long is same =
    same ∙ ap (λ qs. length (get_or qs 0 [])) is ∙ ap length (get_or-drop n ps 0 [] ∙ ap (λ m. get_or ps m []) (add-zero n))

pub next_left : (ps left more : List (List ℕ)) (n : ℕ) → left ≡ drop n ps → more ≡ drop 1 left → more ≡ drop (n + 1) ps
next_left ps left more n is same = same ∙ ap (drop 1) is ∙ drop-drop 1 n ps

-- ---- the bytes of a piece

abbrev PieceIs : List ℕ → List (List ℕ) → Type 0
PieceIs t ps = (n : ℕ) → n < length ps → take (length (get_or ps n [])) (drop (spaced (take n ps)) t) ≡ get_or ps n []

piece_bytes : (t : List ℕ) → PieceIs t (pieces t)
piece_bytes [] zero inside = refl
piece_bytes [] (suc n) inside = absurd (omega arith)
piece_bytes (c ∷ t) n inside = by (is_separator c) (piece_bytes t) n inside
  where
    onto_one : (ps : List (List ℕ)) → PieceIs t ps → HasFirst ps → PieceIs (c ∷ t) (onto_first c ps)
    onto_one [] ih has n less = absurd (cc has.parts)
    onto_one (p ∷ ps) ih has zero less = ap (λ q. c ∷ q) (ih zero (omega arith))
    onto_one (p ∷ ps) ih has (suc n) less =
        let same : suc (length p) + spaced (take n ps) ≡ suc (length p + spaced (take n ps)) = omega arith in
        ap (λ m. take (length (get_or ps n [])) (drop m t)) same ∙ ih (suc n) (omega arith)

    by : (b : Bool) → PieceIs t (pieces t) → PieceIs (c ∷ t) (cond b ([] ∷ pieces t) (onto_first c (pieces t)))
    by true ih zero less = refl
    by true ih (suc n) less =
        let same : 0 + spaced (take n (pieces t)) ≡ spaced (take n (pieces t)) = omega arith in
        ap (λ m. take (length (get_or (pieces t) n [])) (drop m t)) same ∙ ih n (omega arith)
    by false ih n less = onto_one (pieces t) ih (has_first t) n less

pub span_bytes : (t : List ℕ) (n start stop : ℕ) → n < length (pieces t) → HasBytes t n start stop → take (stop - start) (drop start t) ≡ get_or (pieces t) n []
span_bytes t n start stop inside span =
    let bytes = span.piece inside in
    let long : stop - start ≡ length (get_or (pieces t) n []) = omega (arith, bytes.1) in
    (λ i. take (long i) (drop (bytes.0 i) t)) ∙ piece_bytes t n inside

-- ---- the text up to the end of a piece

span_stop : (t : List ℕ) (n start stop : ℕ) → n < length (pieces t) → HasBytes t n start stop → stop ≡ stop_of (pieces t) n
span_stop t n start stop inside span =
    let bytes = span.piece inside in
    bytes.1 ∙ ap (λ m. m + length (get_or (pieces t) n [])) bytes.0 ∙ sym (stops (pieces t) n inside)

pub span_within : (t : List ℕ) (n start stop : ℕ) → n < length (pieces t) → HasBytes t n start stop → stop ≤ length t
span_within t n start stop inside span = omega (arith, span_stop t n start stop inside span, stop_within (pieces t) n inside, spaced_pieces t)

pub span_front : (t : List ℕ) (n start stop : ℕ) → n < length (pieces t) → HasBytes t n start stop → pieces (take stop t) ≡ take (suc n) (pieces t)
span_front t n start stop inside span = ap (λ m. pieces (take m t)) (span_stop t n start stop inside span) ∙ front_pieces t n inside

-- one piece more than separators
pub pieces_length : (t : List ℕ) → length (pieces t) ≡ suc (count_by is_separator t)
pieces_length t = length-slice_split is_separator t ∙ add-one (count_by is_separator t)

pub some_piece : (t : List ℕ) → 0 < length (pieces t)
some_piece t = omega (arith, pieces_length t)
