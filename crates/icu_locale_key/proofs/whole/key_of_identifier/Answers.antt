use Rattle.std.proofs.Common.{inr, sym, subst}
use Rattle.icu_locale_extensions.specs.Built.{bare}
use Rattle.icu_locale_values.specs.Whole.{whole_rules}
use Rattle.icu_locale_key.specs.Whole.{IsWholeKeyRefusal}
use Rattle.icu_locale_key.proofs.AtOnce.{bare_key, bare_whole, refusal_of_bare, refusal_of_canonical}
use Rattle.icu_locale_key.proofs.whole.key_of_identifier.Goals as goal

-- the rules come to no end
pub returns-in-Err-clause-refused : goal.returns-in-Err-clause-refused
returns-in-Err-clause-refused c =
    let by = whole_rules c.args.canonicalizer.now in
    subst (IsWholeKeyRefusal by (bare c.args.id.now)) (sym c.of_rules.ensures) (refusal_of_bare by c.args.id.now c.in-Err.refusal c.in-Err.ensures.refused)

pub returns-in-Err-clause-there : goal.returns-in-Err-clause-there
returns-in-Err-clause-there c k is =
    let by = whole_rules c.args.canonicalizer.now in
    let why = subst (IsWholeKeyRefusal by (bare c.args.id.now)) (sym c.of_rules.ensures)
    (refusal_of_bare by c.args.id.now c.in-Err.refusal c.in-Err.ensures.refused) in
    inr (c.whole_key_is_one.ensures.not_both by (bare c.args.id.now) k c.of_rules.result is why)

-- with the key that stays
pub returns-in-Ok-bring_canonical_to_stable_key-clause-key : goal.returns-in-Ok-bring_canonical_to_stable_key-clause-key
returns-in-Ok-bring_canonical_to_stable_key-clause-key c =
    bare_key (whole_rules c.args.canonicalizer.now) c.args.id.now c.in-Ok.key c.bring_canonical_to_stable_key.new.id c.in-Ok.ensures.end
    c.in-Ok-bring_canonical_to_stable_key.ensures.key

-- where none stays
pub returns-in-Err-bring_canonical_to_stable_key-clause-refused : goal.returns-in-Err-bring_canonical_to_stable_key-clause-refused
returns-in-Err-bring_canonical_to_stable_key-clause-refused c =
    let by = whole_rules c.args.canonicalizer.now in
    let x = c.args.id.now in
    let form = c.in-Ok.key in
    subst (IsWholeKeyRefusal by (bare x)) (sym c.of_rules-in-Err-bring_canonical_to_stable_key.ensures)
    (refusal_of_canonical by (bare x) c.in-Err-bring_canonical_to_stable_key.refusal (bare form) (bare_whole by x form c.in-Ok.ensures.end)
    c.in-Err-bring_canonical_to_stable_key.ensures.refused)

pub returns-in-Err-bring_canonical_to_stable_key-clause-there : goal.returns-in-Err-bring_canonical_to_stable_key-clause-there
returns-in-Err-bring_canonical_to_stable_key-clause-there c k is =
    let by = whole_rules c.args.canonicalizer.now in
    let x = c.args.id.now in
    let form = c.in-Ok.key in
    let why = subst (IsWholeKeyRefusal by (bare x)) (sym c.of_rules-in-Err-bring_canonical_to_stable_key.ensures)
    (refusal_of_canonical by (bare x) c.in-Err-bring_canonical_to_stable_key.refusal (bare form) (bare_whole by x form c.in-Ok.ensures.end)
    c.in-Err-bring_canonical_to_stable_key.ensures.refused) in
    inr (c.whole_key_is_one.ensures.not_both by (bare x) k c.of_rules-in-Err-bring_canonical_to_stable_key.result is why)
