use Rattle.std.proofs.Common.{◌≡◌, ◌∙◌, ap, Some}
use Rattle.std.specs.Option.{option_map}
use Rattle.std.specs.List.{find}
use Rattle.icu_locale.specs.RuleSet.{lent}
use Rattle.icu_locale.specs.Kinds.{rules_for}
use Rattle.icu_locale.specs.Rules.{replaced, matches}
use Rattle.icu_locale.proofs.canonicalizer.kinds.by_rule.Goals as goal

pub returns : goal.returns
returns c =
    let x = c.args.x.now in
    let rule = c.in_ok-first_match.field-0.now in
    let found : Some rule ≡ find (λ r. matches x r.source) (rules_for (lent c.args.rules.now) x) = c.in_ok-first_match.ensures
    ∙ ap (find (λ r. matches x r.source)) c.rules_for.ensures in
    ap (option_map (λ r. replaced x r.source r.replacement)) found
