use Rattle.std.proofs.Common.{sym, ◌∙◌}
use Rattle.icu_locale_matching.specs.Distance.{level_distance}
use Rattle.icu_locale_matching.specs.inner.Levels.{shown_level}
use Rattle.icu_locale_matching.proofs.Greatest.{greatest_at}
use Rattle.icu_locale_matching.proofs.distances.LentLevels.greatest_to.Goals as goal

pub returns-in-Some : goal.returns-in-Some
returns-in-Some c =
    c.greatest_over.ensures
    ∙ sym (greatest_at (level_distance (shown_level c.args.self.now.region) c.args.desired.now) c.args.self.now.macros.now c.args.supported.now
    c.in-Some.row.now (sym c.in-Some.ensures))
