use Rattle.std.proofs.Common.{List, subst}
use Rattle.icu_locale.specs.declared.negotiator.available.Row.{Row}
use Rattle.icu_locale.specs.inner.Index.{IsPartOf}
use Rattle.icu_locale.proofs.Negotiating.{places_in_range, IsFirstPlace-row}
use Rattle.icu_locale.proofs.negotiator.lending.NegotiatorRef.find.Goals as goal

pub first_row-requires : goal.first_row-requires
first_row-requires c =
    let part = subst (λ (rows : List Row). IsPartOf rows c.plain_form-minimal.result c.rows_with-part.result.now) c.deref.ensures.value
    c.rows_with-part.ensures in
    rw c.deref-2.ensures.value (places_in_range _ _ _ _ _ c.self.invariant.index part)

-- the first row with the variants of the request has the first place with its maximal form
pub returns : goal.returns
returns c =
    let part = subst (λ (rows : List Row). IsPartOf rows c.plain_form-minimal.result c.rows_with-part.result.now) c.deref.ensures.value
    c.rows_with-part.ensures in
    rw (← c.self.view_is) (IsFirstPlace-row c.minimal_forms_are_canonical.ensures.equal c.maximal_forms_by_parts.ensures _
    c.self.invariant.settled _ _ c.self.invariant.index c.args.request.now c.plain_form-minimal.ensures.known _
    c.plain_form-minimal.ensures.form _ part _ (rw c.deref-2.ensures.value at c.first_row.ensures))
