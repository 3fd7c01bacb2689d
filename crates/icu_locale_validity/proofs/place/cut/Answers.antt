use Rattle.std.proofs.Common.{◌∙◌, sym, ◌∷◌, ap, take}
use Rattle.std.proofs.lemmas.List.{drop-drop}
use Rattle.icu_locale_core.specs.Identifier.{is_separator, pieces}
use Rattle.icu_locale_core.specs.laws.Cuts.{slice_split-position, slice_split-no_position}
use Rattle.icu_locale_validity.proofs.place.cut.Goals as goal

pub returns-in-Some-clause-pieces : goal.returns-in-Some-clause-pieces
returns-in-Some-clause-pieces c =
    let text = c.args.text.now in
    let place = c.in-Some.place in
    slice_split-position is_separator text place (sym c.in-Some.ensures)
    ∙ rw (c.split_at.ensures.front, c.split_at-in-Some.ensures.back, c.split_at.ensures.back)
    (ap (λ r. take place text ∷ pieces r) (sym (drop-drop 1 place text)))

pub returns-in-None-clause-pieces : goal.returns-in-None-clause-pieces
returns-in-None-clause-pieces c = slice_split-no_position is_separator c.args.text.now (sym c.in-None.ensures)
