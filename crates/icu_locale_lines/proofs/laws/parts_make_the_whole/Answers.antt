use Rattle.std.proofs.Common.{◌≡◌, ◌++◌, ◌∷◌, [], ℕ, Bool, List, refl, ap, sym, ◌∙◌}
use Rattle.std.proofs.lemmas.Grind.{flat_map-append}
use Rattle.icu_locale_lines.specs.Answers.{IsAnswer}
use Rattle.icu_locale_lines.specs.Lines.{lines}
use Rattle.icu_locale_lines.specs.Runs.{AreAnswers, text_of_lines}
use Rattle.icu_locale_lines.specs.declared.work.Work.{Work}
use Rattle.icu_locale_lines.specs.laws.Parts.{answers_of_parts}
use Rattle.icu_locale_lines.proofs.laws.parts_make_the_whole.Goals as goal

-- lines have one list of answers
answers_one : (work : Work) → ((line one two : List ℕ) (a b : Bool) → IsAnswer work line one a → IsAnswer work line two b → (one ≡ two) × (a ≡ b))
    → (ls : List (List ℕ)) (xs ys : List (List ℕ × Bool)) → AreAnswers work ls xs → AreAnswers work ls ys → xs ≡ ys
answers_one work one [] [] [] p q = refl
answers_one work one [] [] (y ∷ ys) p q = absurd q
answers_one work one [] (x ∷ xs) ys p q = absurd p
answers_one work one (l ∷ ls) [] ys p q = absurd p
answers_one work one (l ∷ ls) (x ∷ xs) [] p q = absurd q
answers_one work one (l ∷ ls) (x ∷ xs) (y ∷ ys) p q =
    let e = one l x.0 y.0 x.1 y.1 p.0 q.0 in
    let others = answers_one work one ls xs ys p.1 q.1 in
    λ i. (e.0 i, e.1 i) ∷ others i

pub returns : goal.returns
returns c = λ work front rest one two all of_one of_two of_all first second whole.
    let parts = answers_of_parts work front rest first.answers second.answers first.each second.each in
    let answers = answers_one work (c.a_line_has_one_answer.ensures work) (lines (front ++ 10 ∷ rest)) whole.answers
    (first.answers ++ second.answers) whole.each parts in
    whole.written ∙ ap text_of_lines answers ∙ flat_map-append (λ (t : List ℕ × Bool). t.0) first.answers second.answers
    ∙ (λ i. sym first.written i ++ sym second.written i)
