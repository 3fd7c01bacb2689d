use Rattle.std.proofs.Common.{◌≡◌, IfOk, arith, length, subst, take, ◌∙◌}
use Rattle.std.proofs.lemmas.List.{take-append-le, take_all}
use Rattle.icu_locale_lines.specs.Answers.{AddsLine, IsAnswer, IsPlaceOf}
use Rattle.icu_locale_lines.proofs.LineAnswers.{if_adds}
use Rattle.icu_locale_lines.proofs.PlacedAnswers.{placed_answer}
use Rattle.icu_locale_lines.proofs.work.Work.add.Goals as goal

-- the plain line of the refusal is let go, and that with its place stands behind the others
pub returns-in-Some-clause-answer : goal.returns-in-Some-clause-answer
returns-in-Some-clause-answer c =
    let work = c.args.self.now in
    let old = c.args.text.now.items in
    let plain = c.in_ok-accepted.ensures.answer in
    let front : c.truncate.new.self.items ≡ old =
    c.truncate.ensures.items ∙ (λ i. take (length (c.as_slice-before.ensures.value i)) (plain.added i))
    ∙ take-append-le (length old) old plain.line (omega arith) ∙ take_all (length old) old (omega arith) in
    subst (λ t. IfOk c.add_placed.result (AddsLine (IsAnswer work c.args.line.now) t c.add_placed.new.text.items)) front
    (if_adds _ _ (λ t a h. placed_answer work.places work.syntax work.tools c.args.line.now plain.line t c.in_ok-accepted.accepted a c.in-Some.place
    c.if-not-self.false plain.is c.if-accepted.false
    (subst (IsPlaceOf c.args.line.now) c.in-Some.is c.in_ok-place_of.ensures.place) h.0 h.1) _ _ c.add_placed.result c.add_placed.ensures.answer)
