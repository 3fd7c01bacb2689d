use Rattle.icu_tables.proofs.laws.is_in_order.Goals as goal

pub returns : goal.returns
returns g c = g.met.K.Ord.total
