use Rattle.std.proofs.Common.{sym, ◌∙◌}
use Rattle.icu_locale.specs.LikelyTable.{likely}
use Rattle.icu_locale.specs.RuleSet.{lent}
use Rattle.icu_locale_key.proofs.keys.keys_are_stable.Goals as goal

pub returns-clause-left : goal.returns-clause-left
returns-clause-left c told =
    c.filled_subtags_stay_unmatched.ensures.tables (lent c.args.canonicalizer.now.rules) c.args.canonicalizer.now.expander (sym c.leaves_tables.ensures ∙ told)

pub returns-clause-keys : goal.returns-clause-keys
returns-clause-keys c told favor x a k ends stable is_k =
    let rules = lent c.args.canonicalizer.now.rules in
    let expander = c.args.canonicalizer.now.expander in
    let leaves = c.filled_subtags_stay_unmatched.ensures.tables rules expander (sym c.leaves_tables.ensures ∙ told) in
    c.filled_subtags_stay_unmatched.ensures.own favor (likely expander) rules leaves x a k ends stable is_k
