use Rattle.std.proofs.Common.{subst}
use Rattle.icu_locale_values.specs.inner.Walked.{IsPutting}
use Rattle.icu_locale_values.proofs.Putting.{last_there, IsPutting-more}
use Rattle.icu_locale_values.proofs.puts.put_ends.Goals as goal

pub put-requires : goal.put-requires
put-requires g c =
    let order = g.K.Ord.cmp in
    let rows = g.M.PutsValues.rows in
    let putting = subst (λ left. IsPutting order c.args.ends.items (rows c.args.map.now) left (rows c.rows.map) c.args.answer c.rows.told)
    c.in-Some.ensures.items c.rows.invariant in
    last_there order c.args.ends.items (rows c.args.map.now) c.args.answer g.met.K.Ord.total g.met.K.AliasKey.key_exact c.pop.new.self.items _ _
    (rows c.rows.map) c.rows.told putting

pub rows-preserved : goal.rows-preserved
rows-preserved g c =
    let order = g.K.Ord.cmp in
    let rows = g.M.PutsValues.rows in
    let putting = subst (λ left. IsPutting order c.args.ends.items (rows c.args.map.now) left (rows c.rows.map) c.args.answer c.rows.told)
    c.in-Some.ensures.items c.rows.invariant in
    IsPutting-more order c.args.ends.items (rows c.args.map.now) c.args.answer g.met.K.Ord.total g.met.K.AliasKey.key_exact c.pop.new.self.items _ _
    (rows c.rows.map) c.rows.told putting (rows c.put.new.self) c.put.ensures
