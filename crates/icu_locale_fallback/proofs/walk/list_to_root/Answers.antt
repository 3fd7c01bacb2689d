use Rattle.std.proofs.Common.{◌≡◌, ◌+◌, ◌∷◌, [], ◌++◌, length, Some, arith, ap, sym, ◌∙◌, subst}
use Rattle.std.proofs.lemmas.List.{length-append}
use Rattle.icu_locale.specs.LikelyTable.{likely}
use Rattle.icu_locale_fallback.specs.Fallback.{next}
use Rattle.icu_locale_fallback.specs.Chains.{inheritance}
use Rattle.icu_locale_fallback.specs.inner.Listing.{HasListed}
use Rattle.icu_locale_fallback.proofs.Listings.{HasListed-more, IsChain-listed, room}
use Rattle.icu_locale_fallback.proofs.walk.list_to_root.Goals as goal

-- the list grows, and the chain has no more locales than its universe
pub steps-smaller : goal.steps-smaller
steps-smaller c =
    let f = c.args.fallbacker.now in
    let follows : next (inheritance f c.args.priority) c.steps.locale ≡ Some c.in-Some.parent = sym c.next.ensures ∙ c.in-Some.is in
    let inside = room c.args.priority (likely f.expander) f.parents.now c.args.start.now c.steps.locale c.in-Some.parent _ c.steps.list.items
    c.requires c.steps.invariant follows in
    let longer : length c.push-in-Some.new.self.items ≡ length c.steps.list.items + 1 =
    omega (arith, ap length c.in_ok-push-2.ensures.items, length-append c.steps.list.items (c.copy_of-in-Some.result ∷ [])) in
    omega (arith, inside, longer)

pub steps-preserved : goal.steps-preserved
steps-preserved c =
    let by = inheritance c.args.fallbacker.now c.args.priority in
    let follows : next by c.steps.locale ≡ Some c.in-Some.parent = sym c.next.ensures ∙ c.in-Some.is in
    subst (λ items. HasListed by c.args.start.now items c.in-Some.parent)
    (sym (c.in_ok-push-2.ensures.items ∙ ap (λ y. c.steps.list.items ++ y ∷ []) c.copy_of-in-Some.ensures))
    (HasListed-more by c.args.start.now c.steps.list.items c.steps.locale c.in-Some.parent c.steps.invariant follows)

pub returns-clause-found : goal.returns-clause-found
returns-clause-found c =
    let by = inheritance c.args.fallbacker.now c.args.priority in
    IsChain-listed by c.args.start.now c.steps.list.items c.steps.locale c.steps.invariant (sym c.next.ensures ∙ c.in_default.is)
