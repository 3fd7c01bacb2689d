use Rattle.std.proofs.Common.{◌≡◌, ◌<◌, refl, sym, ap, ◌∙◌, subst, length, arith, ⊎_elim}
use Rattle.std.specs.List.{slice_get}
use Rattle.std.proofs.lemmas.Bool.{cases_lt}
use Rattle.std.proofs.lemmas.Option.{slice_get_read, slice_get-get_or, same_Some}
use Rattle.icu_provider.specs.declared.matching.MatchRule.{MatchRule}
use Rattle.icu_locale_matching.proofs.telling.are_apart.Goals as goal

pub loop-rule-preserved : goal.loop-rule-preserved
loop-rule-preserved c = λ k r upto is. ⊎_elim
    (λ earlier. c.loop-rule.invariant k r earlier is)
    (λ later.
    let rows = c.args.rules.now in
    let n = c.loop-rule.rule-index in
    let item = c.rule-item.result in
    let stands = slice_get_read rows (length rows) n item refl c.loop-rule-test.true c.rule-item.is in
    let same : k ≡ n = omega (arith, upto, later) in
    let one : item ≡ r = same_Some _ _ (sym stands ∙ ap (slice_get rows) (sym same) ∙ is) in
    subst (λ (r : MatchRule). 0 < r.distance) one (c.is_apart.ensures c.if-not-is_apart.false))
    (cases_lt k c.loop-rule.rule-index)

pub returns : goal.returns
returns c = λ _ k d within. c.loop-rule.invariant k _ (omega (arith, within)) (slice_get-get_or c.args.rules.now k d within)
