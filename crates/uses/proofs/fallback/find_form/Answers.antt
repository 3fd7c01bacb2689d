use Rattle.icu_locale.specs.LikelyTable.{likely}
use Rattle.icu_locale.specs.declared.expander.Favor.TheVariants.{RegionFirst}
use Rattle.uses.proofs.Forms.{form_at}
use Rattle.uses.proofs.fallback.find_form.Goals as goal

-- minimal forms tell maximal forms apart
pub returns : goal.returns
returns c =
    let id = c.args.id in
    let minimal = c.minimize.new.id in
    form_at (likely c.args.expander.now) c.args.forms.now id minimal
    (λ form own. c.minimal_forms_are_canonical.ensures.equal RegionFirst (likely c.args.expander.now) id form minimal form
    (c.requires.settled id c.known.ensures) (c.requires.settled form own.known) c.minimize.ensures.minimal own.minimal)
    c.requires.minimal c.position_of.result c.position_of.ensures
