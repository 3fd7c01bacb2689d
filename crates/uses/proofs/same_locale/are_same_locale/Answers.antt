use Rattle.std.proofs.Common.{◌≡◌, sym, ◌∙◌, subst}
use Rattle.icu_locale_extensions.specs.Grammar.{Spells}
use Rattle.icu_locale_extensions.specs.declared.identifier.LocaleIdentifier.{LocaleIdentifier}
use Rattle.uses.proofs.same_locale.are_same_locale.Goals as goal

pub returns : goal.returns
returns c =
    let x : LocaleIdentifier = c.in_ok-x.x in
    let y : LocaleIdentifier = c.in_ok-y.y in
    let of_x = c.in_ok-x.ensures.found in
    let of_y = c.in_ok-y.ensures.found in
    let tells = c.equality_is_told.ensures.whole x y in (
      λ passed.
          let same : x ≡ y = tells.0 (sym c.eq.ensures ∙ passed) in
          (x, of_x.0, of_x.1, subst (Spells c.args.second.now) (sym same) of_y.1),
      λ z.
          let first : x ≡ z.0 = c.spelled_once.ensures c.args.first.now x z.0 of_x.1 z.2 in
          let second : y ≡ z.0 = c.spelled_once.ensures c.args.second.now y z.0 of_y.1 z.3 in
          c.eq.ensures ∙ tells.1 (first ∙ sym second),
    )
