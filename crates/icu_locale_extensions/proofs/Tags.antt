-- Legacy tags: texts with the same pieces, and rows of tags.
use Rattle.std.specs.Prelude.{◌≡◌, ℕ, ◌<◌, Bool, true, false, if◌then◌else◌, zero, suc, codes, List, [], ◌∷◌, ◌++◌, map, length, get_or, unwrap_or}
use Rattle.std.specs.Prelude.{Option, Some, None, IfSome, ◌&&◌, ◌==◌}
use denote.Ref.{Bor}
use Rattle.std.proofs.Common.{refl, ap, sym, ◌∙◌, arith}
use Rattle.std.specs.List.{after_first, list_all}
use Rattle.std.specs.Cmp.Lexicographic.{pointwise}
use Rattle.std.proofs.lemmas.Bool.{and_parts, false_from_ne_true, false≢true}
use Rattle.std.proofs.lemmas.Bool.Decides.{nat_tests}
use Rattle.std.proofs.Math.Bool.{and-false}
use Rattle.std.proofs.lemmas.List.{length-map}
use Rattle.std.proofs.lemmas.Slice.Eq.{bytes_eq-Decides}
use Rattle.icu_locale_core.specs.Identifier.{is_separator, pieces, pieces_if_any}
use Rattle.icu_locale_core.specs.Subtag.{lowercase}
use Rattle.icu_locale_core.specs.Value.{written_value}
use Rattle.icu_locale_core.specs.laws.Identifiers.{same_text, values_decide}
use Rattle.icu_locale_extensions.specs.Extensions.{any_piece, is_singleton, is_x}
use Rattle.icu_locale_extensions.specs.Syntaxes.{is_extended, is_private, is_root, legacy, preferred, root_text, same_pieces, tag_text, value_of}
use Rattle.icu_locale_extensions.specs.laws.Reader.{first_is}
use Rattle.icu_locale_extensions.specs.inner.Lent.{und_before}
use Rattle.icu_locale_extensions.specs.inner.Texts.{spelled}
use Rattle.icu_locale_extensions.proofs.Spellings.{any_piece-pieces, joined-spelled, pieces-spelled}

-- ---- the same pieces

-- texts have the same pieces where they are spelled alike
pub alike_pieces : (t u : List ℕ) → map spelled t ≡ map spelled u → same_pieces (pieces t) (pieces u) ≡ true
alike_pieces t u e = (values_decide _ _).1 (sym (pieces-spelled t) ∙ ap pieces e ∙ pieces-spelled u)

pieces_alike : (t u : List ℕ) → same_pieces (pieces t) (pieces u) ≡ true → map spelled t ≡ map spelled u
pieces_alike t u same =
    sym (joined-spelled t) ∙ ap written_value (pieces-spelled t ∙ (values_decide _ _).0 same ∙ sym (pieces-spelled u)) ∙ joined-spelled u

-- each byte alike
pub all_alike : (t u : List ℕ) → length t ≡ length u → ((k : ℕ) → k < length t → spelled (get_or t k 0) ≡ spelled (get_or u k 0))
    → map spelled t ≡ map spelled u
all_alike [] [] size each = refl
all_alike [] (d ∷ u) size each = absurd (omega arith)
all_alike (c ∷ t) [] size each = absurd (omega arith)
all_alike (c ∷ t) (d ∷ u) size each =
    let first : spelled c ≡ spelled d = each 0 (omega arith) in
    let rest = all_alike t u (omega arith) (λ k low. each (suc k) (omega arith)) in
    λ i. first i ∷ rest i

alike_at : (t u : List ℕ) (k : ℕ) → map spelled t ≡ map spelled u → spelled (get_or t k 0) ≡ spelled (get_or u k 0)
alike_at [] [] k e = refl
alike_at [] (d ∷ u) k e = absurd (cc e)
alike_at (c ∷ t) [] k e = absurd (cc e)
alike_at (c ∷ t) (d ∷ u) zero e = cc e
alike_at (c ∷ t) (d ∷ u) (suc k) e = let rest : map spelled t ≡ map spelled u = cc e in alike_at t u k rest

-- one byte that differs, or another length
pub differ_at : (t u : List ℕ) (k : ℕ) → ¬ (spelled (get_or t k 0) ≡ spelled (get_or u k 0)) → same_pieces (pieces t) (pieces u) ≡ false
differ_at t u k other = false_from_ne_true _ (λ same. other (alike_at t u k (pieces_alike t u same)))

pub lengths_differ : (t u : List ℕ) → ¬ (length t ≡ length u) → same_pieces (pieces t) (pieces u) ≡ false
lengths_differ t u other = false_from_ne_true _ (λ same. other (sym (length-map t spelled) ∙ ap length (pieces_alike t u same) ∙ length-map u spelled))

-- ---- rows

-- no value where a test that each row passes rules its tag out
pub value_none : (q : List ℕ × List ℕ → Bool) (rows : List (List ℕ × List ℕ)) (ps : List (List ℕ)) → list_all q rows ≡ true
    → ((row : List ℕ × List ℕ) → q row ≡ true → same_pieces ps (pieces row.0) ≡ false) → value_of rows ps ≡ None
value_none q [] ps all out = refl
value_none q (row ∷ rows) ps all out =
    let both = and_parts (q row) (list_all q rows) all in
    ap (λ b. if b then Some row.1 else value_of rows ps) (out row both.0) ∙ value_none q rows ps both.1 out

-- the value of pieces in lower case
abbrev pub value_lower : List (List ℕ × List ℕ) → List (List ℕ) → Option (List ℕ)
value_lower [] ps = None
value_lower (row ∷ rows) ps = if pointwise same_text ps (map lowercase (pieces row.0)) then Some row.1 else value_lower rows ps

pub lowered : (rows : List (List ℕ × List ℕ)) (ps : List (List ℕ)) → value_of rows ps ≡ value_lower rows (map lowercase ps)
lowered [] ps = refl
lowered (row ∷ rows) ps = ap (λ v. if same_pieces ps (pieces row.0) then Some row.1 else v) (lowered rows ps)

-- the value after a first piece in lower case
abbrev pub value_behind : List ℕ → List (List ℕ) → Option (List ℕ)
value_behind l ps = value_lower legacy (l ∷ map lowercase ps)

pub preferred-named : (f l : List ℕ) (ps : List (List ℕ)) → same_text (lowercase f) l ≡ true → preferred (f ∷ ps) ≡ value_behind l ps
unfolding preferred
preferred-named f l ps e = lowered legacy (f ∷ ps) ∙ ap (λ k. value_behind k ps) ((bytes_eq-Decides (lowercase f) l).0 e)

-- the first piece begins no legacy tag
pub preferred-other : (f : List ℕ) (ps : List (List ℕ)) → same_text (lowercase f) (codes "i") ≡ false → same_text (lowercase f) (codes "en") ≡ false
    → same_text (lowercase f) (codes "sgn") ≡ false → same_text (lowercase f) (codes "no") ≡ false → same_text (lowercase f) (codes "zh") ≡ false
    → preferred (f ∷ ps) ≡ None
unfolding preferred
preferred-other f ps i en sgn norse zh = rw (i, en, sgn, norse, zh) refl

-- one piece is no legacy tag
abbrev more_than_one : List (List ℕ) → Bool
more_than_one (p ∷ q ∷ ps) = true
more_than_one ps = false

one_of_more : (f : List ℕ) (qs : List (List ℕ)) → more_than_one qs ≡ true → same_pieces (f ∷ []) qs ≡ false
one_of_more f [] more = absurd (false≢true more)
one_of_more f (p ∷ []) more = absurd (false≢true more)
one_of_more f (p ∷ q ∷ qs) more = and-false (same_text (lowercase f) (lowercase p))

pub preferred-one : (f : List ℕ) → preferred (f ∷ []) ≡ None
unfolding preferred
preferred-one f = value_none (λ row. more_than_one (pieces row.0)) legacy (f ∷ []) refl (λ row more. one_of_more f (pieces row.0) more)

-- ---- what a tag stands for

-- root is alone, or a singleton is next
pub root_before : (p : List ℕ) (ps : List (List ℕ)) → any_piece ps ≡ true
    → is_root (p ∷ ps) ≡ (same_text (lowercase p) (codes "root") && first_is is_singleton ps)
root_before p [] some = absurd (false≢true some)
root_before p (q ∷ ps) some = refl

pub root_marks : (p : List ℕ) (behind : Option (Bor (List ℕ))) → is_root (p ∷ pieces_if_any behind) ≡ true
    → IfSome behind (λ rest. first_is is_singleton (pieces rest.now) ≡ true)
root_marks p None root = tt
root_marks p (Some r) root =
    let marks = first_is is_singleton (pieces r.now) in
    (and_parts (same_text (lowercase p) (codes "root")) marks (sym (root_before p (pieces r.now) (any_piece-pieces r.now)) ∙ root)).1

two : (p : List ℕ) (ps : List (List ℕ)) → any_piece ps ≡ true → (length (p ∷ ps) == 1) ≡ false
two p [] some = absurd (false≢true some)
two p (q ∷ ps) some = grind (arith, nat_tests)

-- what it stands for by its pieces
tag_cut : (t : List ℕ) (ps : List (List ℕ)) → pieces t ≡ ps → tag_text t ≡ unwrap_or (preferred ps) (if is_private ps then codes "und-" ++ t
    else (if is_root ps then root_text t else (if is_extended ps then after_first is_separator t else t)))
tag_cut t ps cut = λ i. unwrap_or (preferred (cut i)) (if is_private (cut i) then codes "und-" ++ t
    else (if is_root (cut i) then root_text t else (if is_extended (cut i) then after_first is_separator t else t)))

-- und in the place of the first piece
und_first : (t first : List ℕ) (behind : Option (Bor (List ℕ))) → pieces t ≡ first ∷ pieces_if_any behind
    → IfSome behind (λ rest. rest.now ≡ after_first is_separator t) → root_text t ≡ und_before behind
und_first t first None cut rest =
    ap (λ ps. if length ps == 1 then codes "und" else codes "und-" ++ after_first is_separator t) cut
und_first t first (Some r) cut rest =
    let more : (length (first ∷ pieces r.now) == 1) ≡ false = two first (pieces r.now) (any_piece-pieces r.now) in
    ap (λ ps. if length ps == 1 then codes "und" else codes "und-" ++ after_first is_separator t) cut
    ∙ ap (λ b. if b then codes "und" else codes "und-" ++ after_first is_separator t) more
    ∙ ap (λ u. codes "und-" ++ u) (sym rest)

-- without a legacy tag, private use and root it is the tag, or what follows the prefix
pub tag_extended : (t first : List ℕ) (ps : List (List ℕ)) → pieces t ≡ first ∷ ps → preferred (first ∷ ps) ≡ None → is_x first ≡ false
    → is_root (first ∷ ps) ≡ false → is_extended (first ∷ ps) ≡ true
    → after_first is_separator t ≡ tag_text t
tag_extended t first ps cut none other no_root extended =
    sym (tag_cut t (first ∷ ps) cut
    ∙ (λ i. unwrap_or (none i) (if other i then codes "und-" ++ t else (if no_root i then root_text t else (if extended i then after_first is_separator t else t)))))

-- root stands for und, alone or before what follows it
pub tag_root : (t first : List ℕ) (behind : Option (Bor (List ℕ))) → pieces t ≡ first ∷ pieces_if_any behind
    → IfSome behind (λ rest. rest.now ≡ after_first is_separator t) → preferred (first ∷ pieces_if_any behind) ≡ None
    → is_x first ≡ false → is_root (first ∷ pieces_if_any behind) ≡ true → und_before behind ≡ tag_text t
tag_root t first behind cut rest none other root =
    sym (tag_cut t (first ∷ pieces_if_any behind) cut
    ∙ (λ i. unwrap_or (none i) (if other i then codes "und-" ++ t
    else (if root i then root_text t else (if is_extended (first ∷ pieces_if_any behind) then after_first is_separator t else t))))
    ∙ und_first t first behind cut rest)
