use Rattle.std.proofs.Common.{◌≡◌, ◌<◌, ℕ, Option, IfSome, true, length, sym, subst}
use Rattle.icu_locale_lines.specs.Serving.{TellsServed, place_or_first}
use Rattle.icu_locale_lines.proofs.LineAnswers.{if_adds}
use Rattle.icu_locale_lines.proofs.work.serve.add_place.Goals as goal

-- the place is one of what is available
pub add_match-requires : goal.add_match-requires
add_match-requires c = subst (λ (o : Option ℕ). IfSome o (λ p. p < length c.args.available.now)) c.in-Some.is c.requires

-- the line of what is at the place
pub returns-in-Some-clause-answer : goal.returns-in-Some-clause-answer
returns-in-Some-clause-answer c =
    if_adds _ _ (λ t a h. subst (λ (o : Option ℕ). TellsServed c.args.available.now c.args.offered.now.wholes.items
    (place_or_first c.args.how c.args.available.now o) t × (a ≡ true)) (sym c.in-Some.is) h) _ _
    c.add_match.result c.add_match.ensures.answer
