use Rattle.std.proofs.Common.{ap}
use Rattle.icu_locale.specs.LikelyTable.{likely}
use Rattle.icu_locale.specs.RuleSet.{lent}
use Rattle.icu_locale_core.specs.declared.locale.Locale.{Locale}
use Rattle.icu_locale_matching.proofs.Brought.{brought}
use Rattle.icu_locale_matching.proofs.requests.bring.Goals as goal

pub returns-in-Err-clause-brought : goal.returns-in-Err-clause-brought
returns-in-Err-clause-brought c = brought (likely c.args.rules.now.expander) (lent c.args.rules.now.rules) c.args.id.now c.canonicalize_identifier.new.id
    c.in-Err.error c.in-Err.ensures.ends (ap (λ (l : Locale). l.id) c.in-Err.ensures.unchanged) c.no_end.result c.no_end.ensures.told
