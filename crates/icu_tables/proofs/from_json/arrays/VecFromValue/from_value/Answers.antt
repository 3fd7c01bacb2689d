use Rattle.std.proofs.Common.{arith}
use Rattle.std.proofs.lemmas.Result.{err_from_is_err_and}
use Rattle.icu_tables.proofs.Items.{read_all, read_more, read_refused}
use Rattle.icu_tables.proofs.from_json.arrays.VecFromValue.from_value.Goals as goal

pub returns-in_err-from_value : goal.returns-in_err-from_value
returns-in_err-from_value g c =
    let passed_on = err_from_is_err_and c.from_residual.result c.from_residual.ensures.1 in
    rw (passed_on.1, passed_on.2, ← c.in-Some.ensures, ← c.deref-item-items.ensures.value)
    (read_refused g.T.FromValue.seen g.T.FromValue.shape _ _ c.loop-item.item-index c.loop-item.list.items c.item-item.result
    c.loop-item-test.true c.item-item.is c.in_err-from_value.ensures c.loop-item.invariant)

pub loop-item-preserved : goal.loop-item-preserved
loop-item-preserved g c =
    rw c.in_ok-push.ensures.items (read_more g.T.FromValue.seen g.T.FromValue.shape c.deref-item-items.result.now c.loop-item.item-index
    c.loop-item.list.items c.item-item.result c.in_ok-from_value.field-0 c.loop-item-test.true c.item-item.is c.in_ok-from_value.ensures
    c.loop-item.invariant)

pub returns : goal.returns
returns g c =
    rw (← c.in-Some.ensures, ← c.deref-item-items.ensures.value) (read_all g.T.FromValue.seen g.T.FromValue.shape _
    c.loop-item.item-index c.loop-item.list.items (omega arith) c.loop-item.invariant)
