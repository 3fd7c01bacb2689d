use Rattle.std.proofs.Common.{sym, subst}
use Rattle.icu_locale_values.specs.Whole.{whole_rules}
use Rattle.icu_locale_key.specs.Whole.{IsWholeKey}
use Rattle.icu_locale_key.proofs.whole.bring_whole_to_key.Goals as goal

-- where the key is not seen at once, it is that of a copy
pub returns-in-Err-clause-there : goal.returns-in-Err-clause-there
returns-in-Err-clause-there c k is =
    c.in-Err.ensures.there k
    (subst (λ x. IsWholeKey (whole_rules c.args.canonicalizer.now) x k) (sym (c.bring_whole_at_once.ensures.unchanged c.in_default.is)) is)

pub returns-clause-key : goal.returns-clause-key
returns-clause-key c =
    subst (λ x. IsWholeKey (whole_rules c.args.canonicalizer.now) x c.in-Ok.key) (c.bring_whole_at_once.ensures.unchanged c.in_default.is)
    c.in-Ok.ensures.key
