use Rattle.icu_locale.proofs.Directions.{disjoint_exactly}
use Rattle.icu_locale.proofs.directionality.LocaleDirectionality.is_disjoint.Goals as goal

pub returns : goal.returns
returns g c =
    disjoint_exactly c.args.self.now.script_direction.now c.shares_none.result (rw c.iter.ensures.rows at c.shares_none.ensures)
