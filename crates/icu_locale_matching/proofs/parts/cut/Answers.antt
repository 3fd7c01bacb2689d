use Rattle.std.proofs.Common.{◌==◌, ◌∙◌, sym, ◌∷◌, ap, take, Bool, ℕ}
use Rattle.std.specs.List.{slice_split}
use Rattle.std.proofs.lemmas.List.{drop-drop}
use Rattle.icu_locale_core.specs.laws.Cuts.{slice_split-position, slice_split-no_position}
use Rattle.icu_locale_matching.proofs.parts.cut.Goals as goal

pub returns-in-Some-clause-parts : goal.returns-in-Some-clause-parts
returns-in-Some-clause-parts c =
    let text = c.args.text.now in
    let place = c.in-Some.place in
    let is_byte : ℕ → Bool = λ b. b == c.args.byte in
    slice_split-position is_byte text place (sym c.in-Some.ensures)
    ∙ rw (c.split_at.ensures.front, c.split_at-in-Some.ensures.back, c.split_at.ensures.back)
    (ap (λ r. take place text ∷ slice_split is_byte r) (sym (drop-drop 1 place text)))

pub returns-in-None-clause-parts : goal.returns-in-None-clause-parts
returns-in-None-clause-parts c = slice_split-no_position (λ b. b == c.args.byte) c.args.text.now (sym c.in-None.ensures)
