use Rattle.icu_locale_values.specs.Whole.{whole_rules}
use Rattle.icu_locale_key.proofs.AtOnce.{if_whole_at_once, if_whole_told}
use Rattle.icu_locale_key.proofs.whole.bring_whole_at_once.Goals as goal

pub returns-then-has_no_values-clause-key : goal.returns-then-has_no_values-clause-key
returns-then-has_no_values-clause-key c =
    if_whole_at_once (whole_rules c.args.canonicalizer.now) c.args.locale.now (c.has_no_values.ensures c.if-has_no_values.true)
    c.bring_at_once.new.id c.bring_at_once.result c.bring_at_once.ensures.canonical c.bring_at_once.ensures.key

pub returns-then-has_no_values-clause-told : goal.returns-then-has_no_values-clause-told
returns-then-has_no_values-clause-told c =
    if_whole_told c.args.locale.now c.bring_at_once.new.id c.bring_at_once.result c.bring_at_once.ensures.told
