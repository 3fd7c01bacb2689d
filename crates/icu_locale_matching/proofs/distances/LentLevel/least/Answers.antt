use Rattle.std.proofs.Common.{arith}
use Rattle.std.proofs.lemmas.Option.{slice_get_within}
use Rattle.icu_locale_matching.specs.inner.Levels.{shown_level}
use Rattle.icu_locale_matching.proofs.Firsts.{level_upto}
use Rattle.icu_locale_matching.proofs.distances.LentLevel.least.Goals as goal

pub returns : goal.returns
returns c = λ d s.
    let rules = c.args.self.now.rules.now in
    level_upto (shown_level c.args.self.now) c.loop-rule.least d s c.loop-rule.invariant.0
    (λ k r is. c.loop-rule.invariant.1 k r (omega (arith, slice_get_within rules k r is, c.loop-rule-test.false)) is)
