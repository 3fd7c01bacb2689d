use Rattle.std.proofs.Common.{◌≡◌, ap, sym, ◌∙◌, subst}
use Rattle.std.specs.List.{Contains}
use Rattle.icu_locale.specs.LikelyTable.{likely}
use Rattle.icu_locale_fallback.specs.Fallback.{normal}
use Rattle.icu_locale_fallback.specs.Chains.{inheritance, inheritance_of, IsChain}
use Rattle.icu_locale_fallback.specs.declared.fallbacker.LocaleFallbackPriority.TheVariants.{Language}
use Rattle.uses.proofs.inherits.inherits_from.Goals as goal

-- the list has each locale of the chain, and no other
pub returns-in-Ok-clause-told : goal.returns-in-Ok-clause-told
returns-in-Ok-clause-told c =
    let f = c.args.fallbacker.now in
    let by = inheritance f Language in
    let start = normal Language (likely f.expander) c.args.locale in
    let place = c.fallback_for-place.result in
    let items = c.in-Ok.chain.items in
    let by_is : inheritance_of place ≡ by =
    c.fallback_for-place.ensures.by ∙ (λ i. inheritance (c.for_config.ensures.fallbacker i) (c.for_config.ensures.config i).priority) in
    let start_is : place.current ≡ start = c.fallback_for-place.ensures.current
    ∙ (λ i. normal (c.for_config.ensures.config i).priority (likely (c.for_config.ensures.fallbacker i).expander) c.args.locale) in
    let chain : IsChain by start items = subst (λ x. IsChain by x items) start_is (subst (λ b. IsChain b place.current items) by_is c.in-Ok.ensures.found) in
    let each = c.lists_have_each_once.ensures.locales by start items chain in (
      λ yes. each.no_other c.args.other (subst (λ l. Contains l c.args.other) c.as_slice.ensures.value (c.stands_in.ensures.0 yes)),
      λ stands. c.stands_in.ensures.1 (subst (λ l. Contains l c.args.other) (sym c.as_slice.ensures.value) (each.each c.args.other stands)),
    )
