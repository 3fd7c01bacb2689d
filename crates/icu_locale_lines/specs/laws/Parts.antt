-- A text that is cut after a line feed, its parts answered apart: what they give, joined in order,
-- is an output of the whole. So runs over parts may go side by side.
use Rattle.std.specs.Prelude.{◌≡◌, ◌↔◌, ℕ, Bool, true, false, ◌&&◌, cond, List, [], ◌∷◌, ◌++◌}
use Rattle.std.specs.List.{AllZip, slice_split, onto_first}
use Rattle.std.proofs.Common.{refl, ap, sym, subst, ◌∙◌, append-nil}
use Rattle.std.proofs.lemmas.Bool.{false≢true}
use Rattle.std.proofs.lemmas.List.Folds.{list_all-append}
use Rattle.icu_locale_lines.specs.declared.runs.Status.{Status}
use Rattle.icu_locale_lines.specs.declared.runs.Status.TheVariants.{Accepted}
use Rattle.icu_locale_lines.specs.declared.work.Work.{Work}
use Rattle.icu_locale_lines.specs.Answers.{IsAnswer}
use Rattle.icu_locale_lines.specs.Lines.{is_line_feed, without_empty_last, lines}
use Rattle.icu_locale_lines.specs.Runs.{AreAnswers, all_accepted}

-- the pieces of a text
abbrev pieces : List ℕ → List (List ℕ)
pieces t = slice_split is_line_feed t

-- pieces never run out
pub record HasPieces (ps : List (List ℕ)) : Type 0 where
  pub first : List ℕ
  pub others : List (List ℕ)
  pub are : ps ≡ first ∷ others

pub has_pieces : (t : List ℕ) → HasPieces (slice_split is_line_feed t)
has_pieces [] = record { first = []; others = []; are = refl }
has_pieces (c ∷ t) = elim (is_line_feed c)
    as (λ b. HasPieces (cond b ([] ∷ pieces t) (onto_first c (pieces t)))) [
      | true ↦ record { first = []; others = pieces t; are = refl }
      | false ↦ let more = has_pieces t in
          record { first = c ∷ more.first; others = more.others; are = ap (onto_first c) more.are }
    ]

-- a piece that others follow is a line
pub without_empty_last-more : (x y : List ℕ) (ys : List (List ℕ))
    → without_empty_last (x ∷ y ∷ ys) ≡ x ∷ without_empty_last (y ∷ ys)
without_empty_last-more [] y ys = refl
without_empty_last-more (c ∷ x) y ys = refl

-- pieces that others follow are lines
lines_before : (x : List ℕ) (xs ps : List (List ℕ)) → HasPieces ps
    → without_empty_last ((x ∷ xs) ++ ps) ≡ (x ∷ xs) ++ without_empty_last ps
lines_before x [] ps more =
    ap (λ ps. without_empty_last (x ∷ ps)) more.are
    ∙ without_empty_last-more x more.first more.others
    ∙ ap (λ ps. x ∷ without_empty_last ps) (sym more.are)
lines_before x (y ∷ ys) ps more =
    without_empty_last-more x y (ys ++ ps) ∙ ap (λ ls. x ∷ ls) (lines_before y ys ps more)

-- some pieces come before those of a text, whatever that is
record HasFront (all : List ℕ → List (List ℕ)) : Type 0 where
  first : List ℕ
  others : List (List ℕ)
  are : (b : List ℕ) → all b ≡ (first ∷ others) ++ pieces b

-- the pieces up to a line feed are the same, whatever follows it
has_lines : (a : List ℕ) → HasFront (λ b. slice_split is_line_feed (a ++ 10 ∷ b))
has_lines [] = record { first = []; others = []; are = λ b. refl }
has_lines (c ∷ a) = let more = has_lines a in elim (is_line_feed c)
    as (λ f. HasFront (λ b. let ps = pieces (a ++ 10 ∷ b) in cond f ([] ∷ ps) (onto_first c ps))) [
      | true ↦ record {
        first = [];
        others = more.first ∷ more.others;
        are = λ b. ap (λ ps. [] ∷ ps) (more.are b);
      }
      | false ↦ record {
        first = c ∷ more.first;
        others = more.others;
        are = λ b. ap (onto_first c) (more.are b);
      }
    ]

-- the lines of a text that is cut after a line feed are those of its parts
pub lines_of_parts : (a b : List ℕ) → lines (a ++ 10 ∷ b) ≡ lines (a ++ 10 ∷ []) ++ lines b
lines_of_parts a b =
    let of_a = has_lines a in
    ap without_empty_last (of_a.are b)
    ∙ lines_before of_a.first of_a.others (pieces b) (has_pieces b)
    ∙ ap (λ ls. ls ++ lines b) (sym (ap without_empty_last (of_a.are [])
    ∙ lines_before of_a.first of_a.others (pieces []) (has_pieces [])
    ∙ append-nil (of_a.first ∷ of_a.others)))

-- pairs of two lists, and then those of two others
pub AllZip-append : {A B : Type 0} (P : A → B → Type 0) (xs us : List A) (ys vs : List B)
    → AllZip P xs ys → AllZip P us vs → AllZip P (xs ++ us) (ys ++ vs)
AllZip-append P [] us [] vs none more = more
AllZip-append P [] us (y ∷ ys) vs each more = absurd each
AllZip-append P (x ∷ xs) us [] vs each more = absurd each
AllZip-append P (x ∷ xs) us (y ∷ ys) vs each more =
    (each.0, AllZip-append P xs us ys vs each.1 more)

-- what the answers to both parts tell of all lines
pub all_accepted_of_parts : (p q : Bool) → ((p && q) ≡ true) ↔ ((p ≡ true) × (q ≡ true))
all_accepted_of_parts true q = (λ e. (refl, e), λ both. both.1)
all_accepted_of_parts false q = (λ e. absurd (false≢true e), λ both. absurd (false≢true both.0))

-- the answers to both parts are those to the whole
pub answers_of_parts : (work : Work) (a b : List ℕ) (xs ys : List (List ℕ × Bool))
    → AreAnswers work (lines (a ++ 10 ∷ [])) xs → AreAnswers work (lines b) ys
    → AreAnswers work (lines (a ++ 10 ∷ b)) (xs ++ ys)
answers_of_parts work a b xs ys first second = subst (λ ls. AreAnswers work ls (xs ++ ys))
    (sym (lines_of_parts a b))
    (AllZip-append (λ line t. IsAnswer work line t.0 t.1) (lines (a ++ 10 ∷ [])) (lines b)
    xs ys first second)

-- the status of both
pub status_of_parts : (xs ys : List (List ℕ × Bool)) (one two both : Status)
    → (one ≡ Accepted) ↔ (all_accepted xs ≡ true)
    → (two ≡ Accepted) ↔ (all_accepted ys ≡ true)
    → (both ≡ Accepted) ↔ ((one ≡ Accepted) × (two ≡ Accepted))
    → (both ≡ Accepted) ↔ (all_accepted (xs ++ ys) ≡ true)
status_of_parts xs ys one two both of_one of_two are =
    let all = list_all-append (λ (t : List ℕ × Bool). t.1) xs ys in
    let each = all_accepted_of_parts (all_accepted xs) (all_accepted ys) in (
      λ e. let at = are.0 e in all ∙ each.1 (of_one.0 at.0, of_two.0 at.1),
      λ e. let at = each.0 (sym all ∙ e) in are.1 (of_one.1 at.0, of_two.1 at.1),
    )
