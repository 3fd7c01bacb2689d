use Rattle.std.specs.Prelude.{slice_index_or}
use Rattle.std.proofs.lemmas.Option.{slice_get-get_or}
use Rattle.icu_locale_matching.proofs.Firsts.{if_known, if_serving}
use Rattle.icu_locale_matching.proofs.distances.LentLevel.distance_known.Goals as goal

pub fits_known-fits-requires-clause-known : goal.fits_known-fits-requires-clause-known
fits_known-fits-requires-clause-known c =
    let rules = c.args.self.now.rules.now in
    let k = c.loop-place.place in
    if_known rules c.args.desired.now c.args.known.now k (slice_index_or rules k c.index-self-place.result) c.mark_at.result c.requires.known
    (slice_get-get_or rules k c.index-self-place.result c.loop-place-test.true) c.mark_at.ensures

pub fits_known-fits-requires-clause-serving : goal.fits_known-fits-requires-clause-serving
fits_known-fits-requires-clause-serving c =
    let rules = c.args.self.now.rules.now in
    let k = c.loop-place.place in
    if_serving rules c.args.supported.now c.args.serving.now k (slice_index_or rules k c.index-self-place.result) c.mark_at-in-loop-place.result
    c.requires.serving (slice_get-get_or rules k c.index-self-place.result c.loop-place-test.true) c.mark_at-in-loop-place.ensures
