use Rattle.std.proofs.Common.{◌≡◌, refl, sym, ap, ◌∙◌, subst, length, arith, ⊎_elim}
use Rattle.std.specs.List.{slice_get}
use Rattle.std.proofs.lemmas.Bool.{cases_lt}
use Rattle.std.proofs.lemmas.Option.{slice_get_read, slice_get_within, same_Some}
use Rattle.icu_provider.specs.declared.matching.MatchRule.{MatchRule}
use Rattle.icu_locale_matching.specs.Distance.{fits_pattern}
use Rattle.icu_locale_matching.proofs.leading.are_alike.Goals as goal

-- one more rule
pub loop-rule-preserved : goal.loop-rule-preserved
loop-rule-preserved c = λ k r upto is. ⊎_elim
    (λ earlier. c.loop-rule.invariant k r earlier is)
    (λ later.
    let rules = c.args.rules.now in
    let n = c.loop-rule.rule-index in
    let item = c.rule-item.result in
    let stands = slice_get_read rules (length rules) n item refl c.loop-rule-test.true c.rule-item.is in
    let same : k ≡ n = omega (arith, upto, later) in
    let one : item ≡ r = same_Some _ _ (sym stands ∙ ap (slice_get rules) (sym same) ∙ is) in
    subst (λ (t : MatchRule). fits_pattern t.supported c.args.one.now ≡ fits_pattern t.supported c.args.other.now) one
    (c.is_alike.ensures c.if-not-is_alike.false))
    (cases_lt k c.loop-rule.rule-index)

pub returns : goal.returns
returns c = λ _ k r is. c.loop-rule.invariant k r
    (let within = slice_get_within c.args.rules.now k r is in omega (arith, within)) is
