use Rattle.std.proofs.Common.{List, sym, ◌∙◌, subst, length}
use Rattle.std.specs.List.{filter}
use Rattle.icu_locale.specs.LikelyTable.{likely}
use Rattle.icu_locale_matching.specs.inner.Made.{has_language}
use Rattle.icu_locale_matching.specs.inner.Asked.{asked_of, BeatsEach, BeatsThere}
use Rattle.icu_locale_matching.specs.declared.candidates.Candidate.{Candidate}
use Rattle.icu_locale_matching.proofs.Groups.{group_known}
use Rattle.icu_locale_matching.proofs.Ranks.{there_kept}
use Rattle.icu_locale_matching.proofs.Standing.{all_shown, leading_part, leaders_enough}
use Rattle.icu_locale_matching.proofs.search.Search.best_own.Goals as goal

pub best_among-requires-clause-part : goal.best_among-requires-clause-part
best_among-requires-clause-part c =
    let m = c.args.self.now in
    group_known (likely m.expander) m.matching.now m.candidates.now.identifiers.items m.candidates.now.forms.items c.of_language-own.result.now
    c.args.asked.now.form.language c.requires.made.forms c.of_language-own.ensures

pub returns-then-is_some-clause-own : goal.returns-then-is_some-clause-own
returns-then-is_some-clause-own c =
    let q = asked_of c.args.self.now c.args.asked.now.requests.now in
    subst (λ (part : List Candidate). BeatsEach q c.args.asked.now.place part c.best_among.result) c.of_language-own.ensures c.best_among.ensures.beats

pub best_in_region-near-requires-clause-part : goal.best_in_region-near-requires-clause-part
best_in_region-near-requires-clause-part c =
    let m = c.args.self.now in
    group_known (likely m.expander) m.matching.now m.candidates.now.identifiers.items m.candidates.now.forms.items c.of_language-own.result.now
    c.args.asked.now.form.language c.requires.made.forms c.of_language-own.ensures

pub best_among-requires-2-clause-part : goal.best_among-requires-2-clause-part
best_among-requires-2-clause-part c =
    let m = c.args.self.now in
    leading_part (likely m.expander) m.matching.now m.candidates.now.identifiers.items m.candidates.now.forms.items c.requires.made.leading
    c.leaders_of.result.now c.args.asked.now.form.language c.requires.made.forms c.requires.made.leads
    (c.leaders_of.ensures c.requires.made.leading c.requires.made.leaders)

-- those that lead, and those with the region of the request, are enough
pub returns-clause-own : goal.returns-clause-own
returns-clause-own c =
    let m = c.args.self.now in
    let a = c.args.asked.now in
    let q = asked_of m a.requests.now in
    let made = c.requires.made in
    let leading = c.leaders_of.ensures made.leading made.leaders in
    let beaten = subst (λ (part : List Candidate). BeatsEach q a.place part c.best_among-2.result) leading c.best_among-2.ensures.beats in
    let near = subst (λ (part : List Candidate). BeatsThere q a.place a.form.region part (length part) c.best_in_region-near.result) c.of_language-own.ensures
    c.best_in_region-near.ensures.beats in
    let part = filter (has_language a.form.language) m.candidates.now.forms.items in
    let there = there_kept q a.place a.form.region part (length part) c.best_in_region-near.result c.best_among-2.result c.best_among-2.ensures.improves near in
    leaders_enough m a c.requires.asked (all_shown m.may (sym c.is_some.ensures ∙ c.if-is_some.false)) made.forms made.leading made.leads
    c.best_among-2.result beaten there
