use Rattle.std.proofs.Common.{◌≡◌, ℕ, List, refl, sym, ap, ◌∙◌, subst, length, arith, ⊎_elim}
use Rattle.std.specs.List.{slice_get}
use Rattle.std.proofs.lemmas.Bool.{cases_lt}
use Rattle.std.proofs.lemmas.Option.{slice_get_read, slice_get-get_or, same_Some}
use Rattle.icu_provider.specs.declared.matching.MatchRules.{MatchRules}
use Rattle.icu_locale_matching.specs.Distance.{HasApart}
use Rattle.icu_locale_matching.proofs.telling.each_has_apart.Goals as goal

pub loop-row-preserved : goal.loop-row-preserved
loop-row-preserved c = λ k r upto is. ⊎_elim
    (λ earlier. c.loop-row.invariant k r earlier is)
    (λ later.
    let rows = c.args.rows.now in
    let n = c.loop-row.row-index in
    let item = c.row-item.result in
    let stands = slice_get_read rows (length rows) n item refl c.loop-row-test.true c.row-item.is in
    let same : k ≡ n = omega (arith, upto, later) in
    let one : item ≡ r = same_Some _ _ (sym stands ∙ ap (slice_get rows) (sym same) ∙ is) in
    subst (λ (r : List ℕ × MatchRules). HasApart r.1) one (c.has_apart.ensures c.if-not-has_apart.false))
    (cases_lt k c.loop-row.row-index)

pub returns : goal.returns
returns c = λ _ k d within. c.loop-row.invariant k _ (omega (arith, within)) (slice_get-get_or c.args.rows.now k d within)
