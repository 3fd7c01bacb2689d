use Rattle.icu_locale.proofs.Least.{IsMinimalForm-trials}
use Rattle.icu_locale.proofs.expander.LocaleExpander.minimize_favoring.Goals as goal

-- the first trial that leads to the maximal form is the least of the class
pub returns-clause-minimal : goal.returns-clause-minimal
returns-clause-minimal c = IsMinimalForm-trials c.args.favor _ c.args.id.now c.set_locale.new.id c.locale_of-given.result
    c.minimal_locale-minimal.result c.locale_of-given.ensures c.minimal_locale-minimal.ensures c.set_locale.ensures.value
