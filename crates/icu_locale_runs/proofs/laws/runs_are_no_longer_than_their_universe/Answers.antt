use Rattle.icu_locale_runs.specs.laws.Counts.{decided, HasDistinct-universe}
use Rattle.icu_locale_runs.proofs.laws.runs_are_no_longer_than_their_universe.Goals as goal

pub returns : goal.returns
returns g c = λ x universe. HasDistinct-universe _ x (decided _ g.met.R.State.Eq.laws g.met.R.Rewriting.exact) _ universe
