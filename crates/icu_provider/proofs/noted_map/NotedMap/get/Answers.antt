use Rattle.std.proofs.Common.{◌≡◌, ◌≢◌, get_or, ◌-◌, sym, ◌∙◌}
use Rattle.std.specs.declared.cmp.Ordering.TheVariants.{Equal}
use Rattle.icu_provider.specs.laws.SortedMaps.{by_answer, lookup_nearest}
use Rattle.icu_provider.specs.laws.Requests.{not_less, not_greater}
use Rattle.icu_provider.proofs.Notes.{lookup_unnoted, lookup_noted}
use Rattle.icu_provider.proofs.noted_map.NotedMap.get.Goals as goal

-- nothing is noted at the bucket, so no row has the key
pub returns-then-note-eq0 : goal.returns-then-note-eq0
returns-then-note-eq0 g c =
    let none = lookup_unnoted g.K.Ord.cmp g.K.Marked.IsMark c.self.inside.rows c.as_slice-notes.result.now c.args.key.now
    c.mark.result c.bucket-bucket.result (rw c.as_slice-notes.ensures.value c.self.invariant) c.mark.ensures
    c.bucket-bucket.ensures c.if-bucket-notes.true c.if-note-eq0.true in
    rw (← c.self.view_is) (sym none)

-- the row that is noted has the key, or none has it
pub returns-then-bucket-notes : goal.returns-then-bucket-notes
returns-then-bucket-notes g c =
    let read = c.in-Some.ensures.lookup in
    let row = c.in-Some.row.now in
    let by_place = λ (tied : g.K.Ord.cmp c.args.key.now row.0 ≡ Equal). lookup_nearest g.met.K.Ord.total c.self.inside.rows c.args.key.now
    (get_or c.as_slice-notes.result.now c.bucket-bucket.result 0 - 1) row c.as_slice.ensures.sorted (rw (← c.as_slice.ensures.rows) read.3.0)
    (rw (← c.as_slice.ensures.rows) read.1) tied in
    let by_note = λ (other : g.K.Ord.cmp c.args.key.now row.0 ≢ Equal). lookup_noted g.K.Ord.cmp g.K.Marked.IsMark c.self.inside.rows
    c.as_slice-notes.result.now c.args.key.now c.mark.result c.bucket-bucket.result (rw c.as_slice-notes.ensures.value c.self.invariant) c.mark.ensures
    c.bucket-bucket.ensures c.if-bucket-notes.true row c.if-note.true (rw (← c.as_slice.ensures.rows) read.1) other in
    rw (← c.self.view_is) (
    by_answer (g.K.Ord.cmp c.args.key.now row.0)
    (λ less. c.value_of.ensures.other (λ tied. not_less (sym less ∙ tied)) ∙ sym (by_note (λ tied. not_less (sym less ∙ tied))))
    (λ tied. c.value_of.ensures.tied tied ∙ sym (by_place tied))
    (λ greater. c.value_of.ensures.other (λ tied. not_greater (sym greater ∙ tied)) ∙ sym (by_note (λ tied. not_greater (sym greater ∙ tied))))
    )
