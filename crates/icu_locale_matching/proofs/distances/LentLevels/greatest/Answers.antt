use Rattle.std.proofs.Common.{sym, ◌∙◌}
use Rattle.icu_locale_matching.specs.Distance.{greatest_to}
use Rattle.icu_locale_matching.specs.inner.Levels.{shown}
use Rattle.icu_locale_matching.proofs.Greatest.{greatest_at}
use Rattle.icu_locale_matching.proofs.distances.LentLevels.greatest.Goals as goal

pub returns-in-Some : goal.returns-in-Some
returns-in-Some c =
    c.greatest_from.ensures
    ∙ sym (greatest_at (λ x. greatest_to (shown c.args.self.now) x c.args.supported.now) c.args.self.now.macros.now c.args.desired.now
    c.in-Some.row.now (sym c.in-Some.ensures))
