use Rattle.std.proofs.Common.{sym, subst}
use Rattle.icu_locale.specs.Kinds.{next}
use Rattle.icu_locale_extensions.specs.Built.{bare}
use Rattle.icu_locale_runs.specs.laws.LaterEnds.{alone}
use Rattle.icu_locale_values.specs.Whole.{whole_rules}
use Rattle.icu_locale_key.specs.Whole.{IsWholeKey}
use Rattle.icu_locale_key.proofs.AtOnce.{bare_key}
use Rattle.icu_locale_key.proofs.whole.bring_identifier_to_key.Goals as goal

-- the key is seen at once
pub returns-in-Some-clause-key : goal.returns-in-Some-clause-key
returns-in-Some-clause-key c =
    let by = whole_rules c.args.canonicalizer.now in
    bare_key by c.args.id.now c.args.id.now c.bring_at_once.new.id (alone (next by.likely by.rules) c.args.id.now c.in-Some.ensures.canonical)
    c.in-Some.ensures.key

-- or else it is that of a copy
pub returns-in-Err-clause-there : goal.returns-in-Err-clause-there
returns-in-Err-clause-there c k is =
    let by = whole_rules c.args.canonicalizer.now in
    c.in-Err.ensures.there k (subst (λ x. IsWholeKey by (bare x) k) (sym (c.bring_at_once.ensures.unchanged c.in_default.is)) is)

pub returns-clause-key : goal.returns-clause-key
returns-clause-key c =
    let by = whole_rules c.args.canonicalizer.now in
    subst (λ x. IsWholeKey by (bare x) (bare c.in-Ok.key)) (c.bring_at_once.ensures.unchanged c.in_default.is) c.in-Ok.ensures.key
