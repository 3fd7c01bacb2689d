use Rattle.std.proofs.Common.{◌≡◌, ◌<◌, ◌≤◌, ◌++◌, true, List, [], ◌∷◌, length, get_or, refl, sym, ap, subst, arith, ◌∙◌, append_assoc}
use Rattle.std.specs.Prelude.{codes}
use Rattle.std.specs.Fmt.{decimal}
use Rattle.icu_locale.specs.LikelyTable.{likely}
use Rattle.icu_locale_lines.specs.Answers.{AddsLine}
use Rattle.icu_locale_lines.specs.Serving.{IsDistanceLine, distance_line}
use Rattle.icu_locale_lines.proofs.work.serve.add_distance_of.Goals as goal

-- a list of two items
two_items : {X : Type 0} (xs : List X) (a b : X) → 2 ≤ length xs → length xs < 3 → a ≡ get_or xs 0 a → b ≡ get_or xs 1 b → xs ≡ a ∷ b ∷ []
two_items [] a b low high first second = absurd (omega (arith, low))
two_items (x ∷ []) a b low high first second = absurd (omega (arith, low))
two_items (x ∷ y ∷ []) a b low high first second = λ i. sym first i ∷ sym second i ∷ []
two_items (x ∷ y ∷ z ∷ xs) a b low high first second = absurd (omega (arith, high))

pub returns-in_ok-add_text-in-len2-clause-answer : goal.returns-in_ok-add_text-in-len2-clause-answer
returns-in_ok-add_text-in-len2-clause-answer c =
    let d = c.desired-item.result in
    let s = c.supported-item.result in
    let two = two_items c.args.identifiers.now d s c.in-len2.len_at_least c.in-len2.len_below c.desired-item.is c.supported-item.is in
    subst (λ xs. AddsLine (IsDistanceLine c.args.matching.now (likely c.args.expander.now) xs) c.args.text.now.items c.add_text.new.text.items true)
    (sym two) (record {
      line = distance_line c.distance_of-far.result;
      added = c.in_ok-add_text-in-len2.ensures.added ∙ (ap (λ t. t ++ codes "\n") c.in_ok-add_number-in-len2.ensures.added
          ∙ append_assoc c.args.text.now.items (decimal c.distance_of-far.result) (codes "\n"));
      is = (ap distance_line c.distance_of-far.ensures, refl);
    })
