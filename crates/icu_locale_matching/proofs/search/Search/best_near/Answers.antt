use Rattle.std.proofs.Common.{◌≡◌, List, refl, sym, ap, ◌∙◌, subst, length, arith, ⊎_elim}
use Rattle.std.specs.List.{filter, slice_get}
use Rattle.std.proofs.lemmas.Bool.{cases_lt}
use Rattle.std.proofs.lemmas.Option.{slice_get_read, slice_get_within, same_Some}
use Rattle.icu_locale.specs.LikelyTable.{likely}
use Rattle.icu_locale_matching.specs.inner.Made.{has_language}
use Rattle.icu_locale_matching.specs.inner.Asked.{asked_of, BeatsEach}
use Rattle.icu_locale_matching.specs.declared.candidates.Candidate.{Candidate}
use Rattle.icu_provider.specs.declared.matching.MatchRule.{MatchRule}
use Rattle.icu_locale_matching.proofs.Groups.{group_known}
use Rattle.icu_locale_matching.proofs.Ranks.{improves_through, within_improved, beats_kept}
use Rattle.icu_locale_matching.proofs.search.Search.best_near.Goals as goal

pub loop-rule-init : goal.loop-rule-init
loop-rule-init c =
    record {
      improves = c.best_own-near.ensures.improves;
      own = c.best_own-near.ensures.own;
      named = λ k r within. absurd (omega (arith, within));
    }

pub best_among-near-requires-clause-part : goal.best_among-near-requires-clause-part
best_among-near-requires-clause-part c =
    let m = c.args.self.now in
    group_known (likely m.expander) m.matching.now m.candidates.now.identifiers.items m.candidates.now.forms.items c.of_language-named.result.now
    c.rule-item.result.language c.requires.made.forms c.of_language-named.ensures

pub best_among-near-requires-clause-best : goal.best_among-near-requires-clause-best
best_among-near-requires-clause-best c = within_improved (asked_of c.args.self.now c.args.asked.now.requests.now) c.args.asked.now.place c.args.best
    c.loop-rule.near c.requires.best c.loop-rule.invariant.improves

-- one more rule
pub loop-rule-preserved : goal.loop-rule-preserved
loop-rule-preserved c =
    let q = asked_of c.args.self.now c.args.asked.now.requests.now in
    let i = c.args.asked.now.place in
    let forms = c.args.self.now.candidates.now.forms.items in
    let rules = c.args.asked.now.levels.language.rules.now in
    let n = c.loop-rule.rule-index in
    let item = c.rule-item.result in
    let old = c.loop-rule.near in
    let new = c.best_among-near.result in
    let better = c.best_among-near.ensures.improves in
    let stands = slice_get_read rules (length rules) n item refl c.loop-rule-test.true c.rule-item.is in
    let here = subst (λ (part : List Candidate). BeatsEach q i part new) c.of_language-named.ensures c.best_among-near.ensures.beats in
    record {
      improves = improves_through q i c.args.best old new c.loop-rule.invariant.improves better;
      own = beats_kept q i (filter (has_language c.args.asked.now.form.language) forms) _ old new better c.loop-rule.invariant.own;
      named = λ k r upto is. ⊎_elim
          (λ earlier. beats_kept q i (filter (has_language r.language) forms) _ old new better (c.loop-rule.invariant.named k r earlier is))
          (λ later.
          let same : k ≡ n = omega (arith, upto, later) in
          let one : item ≡ r = same_Some _ _ (sym stands ∙ ap (slice_get rules) (sym same) ∙ is) in
          subst (λ (t : MatchRule). BeatsEach q i (filter (has_language t.language) forms) new) one here)
          (cases_lt k n);
    }

pub returns-clause-within : goal.returns-clause-within
returns-clause-within c = within_improved (asked_of c.args.self.now c.args.asked.now.requests.now) c.args.asked.now.place c.args.best
    c.loop-rule.near c.requires.best c.loop-rule.invariant.improves

pub returns-clause-named : goal.returns-clause-named
returns-clause-named c = λ k r is. c.loop-rule.invariant.named k r
    (let within = slice_get_within c.args.asked.now.levels.language.rules.now k r is in omega (arith, within)) is
