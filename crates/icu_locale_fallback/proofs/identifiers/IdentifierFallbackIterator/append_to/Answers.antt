use Rattle.std.proofs.Common.{Some, subst}
use Rattle.icu_locale_fallback.specs.Chains.{inheritance, IsCircle}
use Rattle.icu_locale_fallback.proofs.Variants.{circle_at, memory_at}
use Rattle.icu_locale_fallback.proofs.identifiers.IdentifierFallbackIterator.append_to.Goals as goal

pub returns-in-Some-clause-refused : goal.returns-in-Some-clause-refused
returns-in-Some-clause-refused c =
    let by = inheritance c.args.self.now.fallbacker c.args.self.now.config.priority in
    circle_at by c.args.self.now.current c.subtags_of-start.result (Some c.in-Some.first) c.subtags_of-start.ensures
    (subst (IsCircle by c.subtags_of-start.result) c.in-Some.is c.first_repeat_from-repeat.ensures.first)

pub returns-in-Err-clause-refused : goal.returns-in-Err-clause-refused
returns-in-Err-clause-refused c =
    let by = inheritance c.args.self.now.fallbacker c.args.self.now.config.priority in
    memory_at by c.args.self.now.current c.subtags_of-start.result c.in-Err.refusal c.subtags_of-start.ensures
    (subst (IsCircle by c.subtags_of-start.result) c.in_default.is c.first_repeat_from-repeat.ensures.first) c.in-Err.ensures.refused
