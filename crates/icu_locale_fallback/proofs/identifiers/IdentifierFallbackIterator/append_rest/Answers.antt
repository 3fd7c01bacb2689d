use Rattle.std.proofs.Common.{◌≡◌, Some, arith, sym, ◌∙◌, subst}
use Rattle.icu_locale.specs.LikelyTable.{likely}
use Rattle.icu_locale_fallback.specs.Fallback.{next}
use Rattle.icu_locale_fallback.specs.Chains.{inheritance}
use Rattle.icu_locale_fallback.specs.inner.Listing.{HasRest}
use Rattle.icu_locale_fallback.proofs.Listings.{HasRest-more, IsRestWritten-end, rest_room}
use Rattle.icu_locale_fallback.proofs.identifiers.IdentifierFallbackIterator.append_rest.Goals as goal

-- the chain has no more locales than its universe
pub steps-smaller : goal.steps-smaller
steps-smaller c =
    let f = c.args.self.now.fallbacker in
    let p = c.args.self.now.config.priority in
    let follows : next (inheritance f p) c.steps.locale ≡ Some c.in-Some.parent = sym c.next.ensures ∙ c.in-Some.is in
    let inside = rest_room p (likely f.expander) f.parents.now c.args.start.now c.steps.locale c.in-Some.parent _ c.args.text.now.items
    c.steps.text.items c.steps.passed c.requires c.steps.invariant follows in
    omega (arith, inside, c.take.ensures)

pub steps-preserved : goal.steps-preserved
steps-preserved c =
    let by = inheritance c.args.self.now.fallbacker c.args.self.now.config.priority in
    let follows : next by c.steps.locale ≡ Some c.in-Some.parent = sym c.next.ensures ∙ c.in-Some.is in
    subst (λ n. HasRest by c.args.start.now c.args.text.now.items c.append_locale.new.text.items n c.in-Some.parent) (sym c.take.ensures)
    (HasRest-more by c.args.start.now c.args.text.now.items c.steps.text.items c.append_locale.new.text.items c.steps.passed c.steps.locale
    c.in-Some.parent c.steps.invariant follows c.in_ok-append_locale.ensures.appended)

pub returns-clause-appended : goal.returns-clause-appended
returns-clause-appended c =
    let by = inheritance c.args.self.now.fallbacker c.args.self.now.config.priority in
    IsRestWritten-end by c.args.start.now c.args.text.now.items c.steps.text.items c.steps.passed c.steps.locale c.steps.invariant
    (sym c.next.ensures ∙ c.in_default.is)
