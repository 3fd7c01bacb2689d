use Rattle.std.proofs.Common.{◌∷◌, sym, subst}
use Rattle.std.proofs.lemmas.Result.{err_from_is_err_and}
use Rattle.icu_locale_runs.specs.Run.{IsLaterEnd}
use Rattle.icu_locale_runs.specs.laws.Counts.{decided}
use Rattle.icu_locale_values.specs.Aliases.{preferred}
use Rattle.icu_locale_values.specs.inner.Counted.{CountsRun, IsCountedWalk}
use Rattle.icu_locale_values.specs.inner.Walked.{next_at, IsWalked, IsRunRefusal}
use Rattle.icu_locale_values.proofs.Counting.{run_has, IsCountedWalk-more, CountsValues-end, CountsValues-stopped}
use Rattle.icu_locale_values.proofs.Walks.{IsWalked-more, IsWalkRefusal-here}
use Rattle.icu_locale_values.proofs.walk.later_ends.Goals as goal

pub returns-in_err-end-clause-refused : goal.returns-in_err-end-clause-refused
returns-in_err-end-clause-refused g c =
    let key = c.in-Some.key.now in
    let value = c.in-Some.value.now in
    let order = g.K.Ord.cmp in
    let next = next_at g.K.AliasKey.ruled order g.V.Ord.cmp c.args.table.now in
    let walked = subst (λ left. IsWalked order next c.args.rows left c.loop-key.ends.items) {y = (key, value) ∷ c.next.new.self} c.in-Some.ensures.steps c.loop-key.invariant.walked in
    let refused = subst (λ rows. IsRunRefusal (preferred g.V.Ord.cmp rows) key value c.in_err-end.field-0.0) c.rows_at.ensures c.in_err-end.ensures.refused in
    let here = IsWalkRefusal-here order next c.args.rows g.met.K.Ord.total g.met.K.AliasKey.key_exact (key, value) c.next.new.self c.loop-key.ends.items walked
    c.in_err-end.field-0.0 refused in
    let passed_on = err_from_is_err_and c.from_residual.result c.from_residual.ensures.1 in
    rw (passed_on.1, passed_on.2) here

pub loop-key-preserved : goal.loop-key-preserved
loop-key-preserved g c =
    let key = c.in-Some.key.now in
    let value = c.in-Some.value.now in
    let order = g.K.Ord.cmp in
    let next = next_at g.K.AliasKey.ruled order g.V.Ord.cmp c.args.table.now in
    let so = subst (λ left. IsCountedWalk order next c.args.rows left c.loop-key.ends.items c.args.turns.now c.loop-key.turns)
    {y = (key, value) ∷ c.next.new.self} c.in-Some.ensures.steps c.loop-key.invariant in
    let later = subst (λ rows. IsLaterEnd (preferred g.V.Ord.cmp rows) value c.in_ok-end.end) c.rows_at.ensures c.in_ok-end.ensures.end in
    let counts = subst (λ rows. CountsRun (preferred g.V.Ord.cmp rows) value c.loop-key.turns c.later_end.new.turns) c.rows_at.ensures c.in_ok-end.ensures.count in
    subst (λ ends. IsCountedWalk order next c.args.rows c.next.new.self ends c.args.turns.now c.later_end.new.turns) (sym c.in_ok-add_end.ensures.added)
    (IsCountedWalk-more order next c.args.rows (key, value) c.next.new.self c.loop-key.ends.items _ c.args.turns.now c.loop-key.turns c.later_end.new.turns
    so counts
    (IsWalked-more order next c.args.rows g.met.K.Ord.total g.met.K.AliasKey.key_exact (key, value) c.next.new.self c.loop-key.ends.items so.walked
    c.in_ok-end.end later))

-- the searches up to a refusal, and those up to the end
pub returns-in_err-end-clause-count : goal.returns-in_err-end-clause-count
returns-in_err-end-clause-count g c =
    let key = c.in-Some.key.now in
    let value = c.in-Some.value.now in
    let order = g.K.Ord.cmp in
    let next = next_at g.K.AliasKey.ruled order g.V.Ord.cmp c.args.table.now in
    let so = subst (λ left. IsCountedWalk order next c.args.rows left c.loop-key.ends.items c.args.turns.now c.loop-key.turns)
    {y = (key, value) ∷ c.next.new.self} c.in-Some.ensures.steps c.loop-key.invariant in
    let counts = subst (λ rows. CountsRun (preferred g.V.Ord.cmp rows) value c.loop-key.turns c.later_end.new.turns) c.rows_at.ensures c.in_err-end.ensures.count in
    let same = decided _ g.met.V.Eq.laws g.met.V.AliasValue.value_exact in
    CountsValues-stopped order next c.args.rows (λ k v. run_has same g.V.Ord.cmp _ v) (key, value) c.next.new.self c.loop-key.ends.items
    c.args.turns.now c.loop-key.turns c.later_end.new.turns so counts

pub returns-in_err-add_end-clause-count : goal.returns-in_err-add_end-clause-count
returns-in_err-add_end-clause-count g c =
    let key = c.in-Some.key.now in
    let value = c.in-Some.value.now in
    let order = g.K.Ord.cmp in
    let next = next_at g.K.AliasKey.ruled order g.V.Ord.cmp c.args.table.now in
    let so = subst (λ left. IsCountedWalk order next c.args.rows left c.loop-key.ends.items c.args.turns.now c.loop-key.turns)
    {y = (key, value) ∷ c.next.new.self} c.in-Some.ensures.steps c.loop-key.invariant in
    let counts = subst (λ rows. CountsRun (preferred g.V.Ord.cmp rows) value c.loop-key.turns c.later_end.new.turns) c.rows_at.ensures c.in_ok-end.ensures.count in
    let same = decided _ g.met.V.Eq.laws g.met.V.AliasValue.value_exact in
    CountsValues-stopped order next c.args.rows (λ k v. run_has same g.V.Ord.cmp _ v) (key, value) c.next.new.self c.loop-key.ends.items
    c.args.turns.now c.loop-key.turns c.later_end.new.turns so counts

pub returns-clause-count : goal.returns-clause-count
returns-clause-count g c =
    let order = g.K.Ord.cmp in
    let next = next_at g.K.AliasKey.ruled order g.V.Ord.cmp c.args.table.now in
    CountsValues-end order next c.args.rows c.loop-key.ends.items c.args.turns.now c.loop-key.turns
    (subst (λ left. IsCountedWalk order next c.args.rows left c.loop-key.ends.items c.args.turns.now c.loop-key.turns)
    c.in-None.ensures.steps.0 c.loop-key.invariant)
