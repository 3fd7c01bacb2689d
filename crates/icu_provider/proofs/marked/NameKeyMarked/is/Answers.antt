use Rattle.std.proofs.Common.{◌≡◌, sym, ◌∙◌, subst}
use Rattle.std.specs.declared.cmp.Ordering.TheVariants.{Equal}
use Rattle.icu_provider.specs.Requests.{key_order}
use Rattle.icu_provider.specs.laws.Requests.{same_key, key_itself}
use Rattle.icu_provider.proofs.marked.NameKeyMarked.is.Goals as goal

-- keys that tie are one
pub returns : goal.returns
returns c =
    let x = c.args.self.now in
    let y = c.args.other.now in
    let told = c.equality_is_told.ensures.keys x y in
    let compares = c.requests_in_order.ensures.keys x y in (
      λ same. compares ∙ subst (λ z. key_order x z ≡ Equal) (told.0 (sym c.eq.ensures ∙ same)) (key_itself x),
      λ tied. c.eq.ensures ∙ told.1 (same_key x y (sym compares ∙ tied)),
    )
