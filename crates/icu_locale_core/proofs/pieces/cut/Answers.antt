use Rattle.std.proofs.Common.{◌∙◌, sym, ◌∷◌, ap, take}
use Rattle.std.proofs.lemmas.List.{drop-drop}
use Rattle.icu_locale_core.specs.Identifier.{is_separator, pieces}
use Rattle.icu_locale_core.specs.laws.Cuts.{slice_split-position, slice_split-no_position, after_some}
use Rattle.icu_locale_core.proofs.pieces.cut.Goals as goal

pub returns-in-Some : goal.returns-in-Some
returns-in-Some c =
    let text = c.args.text.now in
    let place = c.in-Some.place in
    let at = sym c.in-Some.ensures in
    record {
      pieces = slice_split-position is_separator text place at
          ∙ rw (c.split_at.ensures.front, c.split_at-in-Some.ensures.back, c.split_at.ensures.back)
          (ap (λ r. take place text ∷ pieces r) (sym (drop-drop 1 place text)));
      behind = rw (c.split_at-in-Some.ensures.back, c.split_at.ensures.back, drop-drop 1 place text) (after_some is_separator text place at);
    }

pub returns-in-None-clause-pieces : goal.returns-in-None-clause-pieces
returns-in-None-clause-pieces c = slice_split-no_position is_separator c.args.text.now (sym c.in-None.ensures)
