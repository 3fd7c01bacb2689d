use Rattle.std.proofs.Common.{Some, max, ap, refl, ◌∙◌, sym, length}
use Rattle.std.proofs.lemmas.Option.{slice_get_read}
use Rattle.icu_locale_matching.specs.Distance.{level_distance, with_region}
use Rattle.icu_locale_matching.specs.inner.Levels.{shown_level}
use Rattle.icu_locale_matching.proofs.Greatest.{greatest_more}
use Rattle.icu_locale_matching.proofs.distances.LentLevels.greatest_over.Goals as goal

pub loop-region-preserved : goal.loop-region-preserved
loop-region-preserved c =
    let row = c.args.row.now in
    let level = shown_level c.args.self.now.region in
    let d = c.args.desired.now in
    let s = c.args.supported.now in
    let i = c.loop-region.region-index in
    let stands = slice_get_read row (length row) i c.region-item.result refl c.loop-region-test.true c.region-item.is in
    let here = c.distance.ensures ∙ ap (level_distance level d) c.at_region-supported.ensures in
    c.greater-most.ensures ∙ (λ k. max (c.loop-region.invariant k) (here k))
    ∙ sym (greatest_more (λ r. level_distance level d (with_region s (Some r))) row i c.region-item.result c.loop-region-test.true stands)
