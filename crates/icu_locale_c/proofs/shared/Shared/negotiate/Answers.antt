use Rattle.std.proofs.Common.{subst}
use Rattle.std.proofs.lemmas.Result.{err_from_is_err_and}
use Rattle.icu_locale_lines.specs.Held.{IsNegotiationOf, held_in}
use Rattle.icu_locale_c.specs.Asked.{HasNoNegotiation}
use Rattle.icu_locale_c.proofs.Negotiating.{no_places, refused_requests}
use Rattle.icu_locale_c.proofs.shared.Shared.negotiate.Goals as goal

-- the negotiator is over what is held
pub returns-clause-met : goal.returns-clause-met
returns-clause-met c =
    let n = c.in_ok-negotiator.negotiator in
    let here = subst (λ t. IsNegotiationOf (held_in t c.self.inside.session) n) c.deref.ensures c.in_ok-negotiator.ensures.over in
    c.negotiate.ensures.met c.args.self.now (subst (λ h. IsNegotiationOf h n) c.self.view_is here)

pub returns-clause-refused : goal.returns-clause-refused
returns-clause-refused c =
    let n = c.in_ok-negotiator.negotiator in
    let here = subst (λ t. IsNegotiationOf (held_in t c.self.inside.session) n) c.deref.ensures c.in_ok-negotiator.ensures.over in
    let over = subst (λ h. IsNegotiationOf h n) c.self.view_is here in
    refused_requests c.args.syntax c.args.self.now n c.args.line.now c.negotiate.result over c.negotiate.ensures.refused

-- there is none
pub returns-in_err-negotiator-clause-refused : goal.returns-in_err-negotiator-clause-refused
returns-in_err-negotiator-clause-refused c =
    let e = c.in_err-negotiator in
    let why = e.field-0.0 in
    let passed_on = err_from_is_err_and c.from_residual.result c.from_residual.ensures.1 in
    let here = subst (λ t. HasNoNegotiation (held_in t c.self.inside.session) why) c.deref.ensures e.ensures.refused in
    rw (passed_on.1, passed_on.2) (no_places c.args.syntax c.args.self.now c.args.line.now why
    (subst (λ h. HasNoNegotiation h why) c.self.view_is here))
