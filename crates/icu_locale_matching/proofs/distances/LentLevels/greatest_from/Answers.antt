use Rattle.std.proofs.Common.{Some, max, ap, refl, ◌∙◌, sym, length}
use Rattle.std.proofs.lemmas.Option.{slice_get_read}
use Rattle.icu_locale_matching.specs.Distance.{greatest_to, with_region}
use Rattle.icu_locale_matching.specs.inner.Levels.{shown}
use Rattle.icu_locale_matching.proofs.Greatest.{greatest_more}
use Rattle.icu_locale_matching.proofs.distances.LentLevels.greatest_from.Goals as goal

pub loop-region-preserved : goal.loop-region-preserved
loop-region-preserved c =
    let row = c.args.row.now in
    let levels = shown c.args.self.now in
    let d = c.args.desired.now in
    let s = c.args.supported.now in
    let i = c.loop-region.region-index in
    let stands = slice_get_read row (length row) i c.region-item.result refl c.loop-region-test.true c.region-item.is in
    let here = c.greatest_to.ensures ∙ ap (λ x. greatest_to levels x s) c.at_region-desired.ensures in
    c.greater-most.ensures ∙ (λ k. max (c.loop-region.invariant k) (here k))
    ∙ sym (greatest_more (λ r. greatest_to levels (with_region d (Some r)) s) row i c.region-item.result c.loop-region-test.true stands)
