use Rattle.std.proofs.Common.{◌<◌, length, sym, subst}
use Rattle.icu_locale_lines.proofs.LineAnswers.{if_adds, negotiated_from_line, negotiated_within}
use Rattle.icu_locale_lines.specs.Lists.{TellsPlace}
use Rattle.icu_locale_lines.proofs.work.list.add_negotiated.Goals as goal

-- what meets the request is available
pub add_match-requires : goal.add_match-requires
add_match-requires c = subst (λ xs. c.in-Some.found < length xs) (sym c.available.ensures)
    (negotiated_within c.args.negotiator.now c.args.requests.now c.in-Some.asked c.in-Some.found c.in-Some.ensures)

-- the line of the match that was negotiated
pub returns-in-Some-clause-answer : goal.returns-in-Some-clause-answer
returns-in-Some-clause-answer c =
    if_adds _ _ (λ t a h. negotiated_from_line c.args.negotiator.now c.args.offered.now.wholes.items c.args.requests.now c.in-Some.asked c.in-Some.found
    c.in-Some.ensures t a (subst (λ xs. TellsPlace xs c.args.offered.now.wholes.items c.in-Some.asked c.in-Some.found t) c.available.ensures h.0, h.1))
    _ _ c.add_match.result c.add_match.ensures.answer
