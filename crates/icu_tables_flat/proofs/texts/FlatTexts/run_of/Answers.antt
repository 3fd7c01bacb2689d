use Rattle.icu_tables_flat.specs.inner.Views.{parts_of}
use Rattle.icu_tables_flat.proofs.Forms.{formed}
use Rattle.icu_tables_flat.proofs.texts.FlatTexts.run_of.Goals as goal

pub run_at_name-requires-clause-pieces : goal.run_at_name-requires-clause-pieces
run_at_name-requires-clause-pieces c = (formed (parts_of c.self.inside) c.self.invariant).groups

pub run_at_name-requires-clause-rise : goal.run_at_name-requires-clause-rise
run_at_name-requires-clause-rise c = (formed (parts_of c.self.inside) c.self.invariant).names
