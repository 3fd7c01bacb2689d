use Rattle.std.proofs.Common.{◌≡◌, ◌==◌, ◌++◌, [], ◌∷◌, map, ap, sym, ◌∙◌, subst, if◌then◌else◌}
use Rattle.icu_locale_core.specs.TextSet.{len}
use Rattle.icu_locale_fallback.specs.Chains.{inheritance, IsChain}
use Rattle.icu_locale_fallback.specs.Identifiers.{plain, IsIdentifierChain}
use Rattle.icu_locale_fallback.specs.inner.Listing.{listed}
use Rattle.icu_locale_fallback.proofs.Texts.{IsIdentifierChain-listed}
use Rattle.icu_locale_fallback.proofs.identifiers.IdentifierFallbackIterator.list_all.Goals as goal

pub returns-clause-found : goal.returns-clause-found
returns-clause-found c =
    let by = inheritance c.args.self.now.fallbacker c.args.self.now.config.priority in
    let x = c.args.self.now.current in
    let ys = c.in_ok-locales.locales.items in
    let whole : c.add_plain.new.list.items ≡ listed x ys =
    c.in_ok-add_plain.ensures.added ∙ (ap (λ l. l ++ map plain c.as_slice.result.now) c.in_ok-list.ensures.found
    ∙ ap (λ l. (if len x.variants == 0 then [] else x ∷ []) ++ map plain l) c.as_slice.ensures.value) in
    subst (IsIdentifierChain by x) (sym whole) (IsIdentifierChain-listed by x ys (subst (λ y. IsChain by y ys) c.requires.start c.in_ok-locales.ensures.found))
