use Rattle.std.proofs.Common.{ap, ◌∙◌, ◌∷◌, ◌++◌, []}
use Rattle.icu_locale_core.specs.TextSet.{difference, from_list, union}
use Rattle.icu_locale_extensions.proofs.Modifiers.{IfOk-map, difference_none}
use Rattle.icu_locale_extensions.proofs.posix.with_valencia.Goals as goal

pub returns-clause-same : goal.returns-clause-same
returns-clause-same c =
    let list = c.in_ok-push.ensures.items ∙ ap (λ vs. vs ++ c.in_ok-try_from_str.field-0 ∷ []) c.new-list.ensures.items
    ∙ ap (λ v. v ∷ []) c.in_ok-try_from_str.ensures.read in
    let members = c.in_ok-try_from_list.ensures.members ∙ ap from_list list in
    let kept = ap (difference c.args.variants.now) c.new.ensures ∙ difference_none c.args.variants.now in
    IfOk-map (λ s e. e ∙ (λ i. union (kept i) (members i))) c.try_replaced-3.result c.try_replaced-3.ensures.members
