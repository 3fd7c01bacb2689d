use Rattle.std.proofs.Common.{rules, ◌∙◌, string_bytes}
use Rattle.std.proofs.lemmas.Fn.{always_returns_same}
use Rattle.icu_locale_core.specs.TextSet.{text_cmp}
use Rattle.icu_provider.proofs.StringSets.{is_ok-search}
use Rattle.icu_provider.proofs.exemplars.strings.ExemplarStrings.contains.Goals as goal

-- a search in a sorted list finds exactly what the list has
pub returns : goal.returns
returns c =
    let texts = c.deref.result.now in
    let by_text = c.binary_search_by-found.ensures.position (λ t. text_cmp (string_bytes t) c.args.text.now)
    (always_returns_same _ _ _ (λ a r f called. search rules)) in
    let found = is_ok-search texts c.args.text.now c.binary_search_by-found.result
    (rw c.deref.ensures.value c.self.invariant) c.binary_search_by-found.ensures.bound by_text in
    rw (← c.self.view_is, ← c.deref.ensures.value) (c.is_ok.ensures.value ∙ found)
