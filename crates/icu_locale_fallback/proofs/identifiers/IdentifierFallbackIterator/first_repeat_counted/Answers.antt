use Rattle.std.proofs.Common.{subst}
use Rattle.icu_locale_fallback.specs.Chains.{inheritance, CountsSteps}
use Rattle.icu_locale_fallback.proofs.Variants.{circle_at}
use Rattle.icu_locale_fallback.proofs.identifiers.IdentifierFallbackIterator.first_repeat_counted.Goals as goal

pub returns-clause-first : goal.returns-clause-first
returns-clause-first c =
    circle_at (inheritance c.args.self.now.fallbacker c.args.self.now.config.priority) c.args.self.now.current c.subtags_of-start.result _
    c.subtags_of-start.ensures c.first_repeat_from.ensures.first

pub returns-clause-count : goal.returns-clause-count
returns-clause-count c =
    subst (λ x. CountsSteps (inheritance c.args.self.now.fallbacker c.args.self.now.config.priority) x c.args.turns.now c.first_repeat_from.new.turns)
    c.subtags_of-start.ensures c.first_repeat_from.ensures.count
