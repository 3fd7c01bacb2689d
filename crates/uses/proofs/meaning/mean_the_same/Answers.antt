use Rattle.std.proofs.Common.{sym, ◌∙◌}
use Rattle.icu_locale.specs.LikelyTable.{likely}
use Rattle.icu_locale.specs.declared.expander.Favor.TheVariants.{RegionFirst}
use Rattle.icu_locale_core.specs.laws.Identifiers.{identifiers_decide}
use Rattle.uses.proofs.meaning.mean_the_same.Goals as goal

-- minimal forms tell maximal forms apart
pub returns : goal.returns
returns c =
    let table = likely c.args.expander.now in
    let one = c.minimize.new.id in
    let other = c.minimize-2.new.id in
    let settled_one = c.requires c.args.one c.known.ensures in
    let settled_other = c.requires c.args.other c.known-2.ensures in
    let forms = c.minimal_forms_are_canonical.ensures.equal RegionFirst table c.args.one c.args.other in
    let tells = forms one other settled_one settled_other c.minimize.ensures.minimal c.minimize-2.ensures.minimal in
    let equal = identifiers_decide one other in
    (λ told. tells.0 (equal.0 (sym c.eq.ensures ∙ told)), λ same. c.eq.ensures ∙ equal.1 (tells.1 same))
