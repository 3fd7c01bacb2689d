use Rattle.std.proofs.Common.{◌≡◌, sym, subst}
use Rattle.icu_locale_validity.specs.Parts.{IsValid}
use Rattle.icu_locale_values.specs.Whole.{whole_rules}
use Rattle.uses.specs.Aliased.{with_identifier, with_transform}
use Rattle.uses.proofs.valid.canonicalize_if_valid.Goals as goal

-- the canonical form is the one that is valid, since there is one
pub returns-clause-valid : goal.returns-clause-valid
returns-clause-valid c = λ aliased signs told.
    let v = c.args.validity.now in
    let by = whole_rules c.args.canonicalizer.now in
    let old = c.args.locale.now in
    let new = c.canonicalize.new.locale in
    let one = c.whole_form_is_one.ensures in
    let form = c.valid_is_whole.ensures.valid v by old (one.maps old c.known.ensures) aliased signs (c.is_valid.ensures.each.0 c.if-not-is_valid.false) in
    let same : new ≡ with_identifier (with_transform old form.1.0) form.0 =
    one.one by old new (with_identifier (with_transform old form.1.0) form.0) c.in_ok-canonicalize.ensures.canonical form.1.1 in
    subst (IsValid v) (sym same) form.1.2
