use Rattle.std.proofs.Common.{◌∙◌, ap, sym}
use Rattle.icu_provider.proofs.Spans.{halved}
use Rattle.icu_provider.proofs.sorted_map.nearest.Goals as goal

-- the row in the middle tells in which half the key is
pub loop-size-preserved : goal.loop-size-preserved
loop-size-preserved g c =
    let compares = g.met.K.Numbered.ordered _ _ _ _ c.number-wanted.ensures c.number.ensures in
    halved g.met.K.Ord.total _ _ c.loop-size.place c.loop-size.size c.not_above.result c.number-wanted.result c.number.result
    c.index-rows-place.result c.requires c.loop-size.invariant c.loop-size-test.true c.index-rows-place.is
    (compares ∙ ap (λ row. g.K.Ord.cmp c.args.key.now row.0) (sym c.index-rows-place.is)) c.not_above.ensures.not_above c.not_above.ensures.above
