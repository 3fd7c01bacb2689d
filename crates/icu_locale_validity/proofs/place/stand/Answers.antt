use Rattle.std.proofs.Common.{◌+◌, sym, ap, ◌∙◌}
use Rattle.std.specs.Option.{option_map}
use Rattle.icu_locale_core.specs.Identifier.{pieces}
use Rattle.icu_locale_validity.specs.Places.{stand}
use Rattle.icu_locale_validity.specs.inner.Marks.{marks, pieces_left}
use Rattle.icu_locale_validity.proofs.Stands.{found_here}
use Rattle.icu_locale_validity.proofs.place.stand.Goals as goal

pub returns-then-stands_here-clause-place : goal.returns-then-stands_here-clause-place
returns-then-stands_here-clause-place c =
    let kind = c.args.kind in
    let ms = marks c.pieces.singleton c.pieces.language in
    let ws = pieces c.args.wanted.now in
    sym (c.pieces.invariant.same ∙ ap (λ t. option_map (λ n. c.pieces.from + n) (stand kind ms ws (pieces_left t))) c.in-Some.is
    ∙ found_here kind ms ws c.in-Some.rest.now c.pieces.from (sym c.stands_here.ensures ∙ c.if-stands_here.true))
