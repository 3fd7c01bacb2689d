use Rattle.std.proofs.Common.{refl, subst}
use Rattle.icu_locale_places.specs.Places.{IsFault}
use Rattle.icu_locale_extensions.specs.declared.syntax.Syntax.TheVariants.{Unicode}
use Rattle.icu_locale_c.proofs.place.put_place.Goals as goal

-- what is read is derived
pub returns-in-Ok : goal.returns-in-Ok
returns-in-Ok c = ((c.in-Ok._identifier, c.in-Ok.ensures.read.1), refl)

-- what is refused is not
pub returns-in-At : goal.returns-in-At
returns-in-At c =
    let fault = subst (IsFault c.args.text.now) c.in-At.is c.in-Err.ensures.refused in
    (λ x derived. c.refusals_are_faults.ensures.nothing Unicode c.args.text.now _ x fault.0 derived, fault.1)
