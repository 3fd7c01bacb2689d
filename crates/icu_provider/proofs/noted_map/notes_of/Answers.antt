use Rattle.icu_provider.proofs.Notes.{noted_next}
use Rattle.icu_provider.proofs.noted_map.notes_of.Goals as goal

-- the next row's key is noted too
pub loop-place-preserved : goal.loop-place-preserved
loop-place-preserved g c =
    noted_next g.K.Ord.cmp g.K.Marked.IsMark c.args.rows.now c.loop-place.notes.items g.met.K.Marked.shared _ c.loop-place.place c.mark.result
    c.index-rows-place.result c.loop-place.invariant c.loop-place-test.true c.mark.ensures
    c.note.ensures.length c.note.ensures.noted c.note.ensures.again c.note.ensures.others
