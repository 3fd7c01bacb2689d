use Rattle.std.proofs.Common.{ap, sym, ◌∙◌, inl, inr}
use Rattle.icu_locale.specs.LikelySubtags.{maximal}
use Rattle.icu_locale_key.proofs.Forms.{stable_has_class, maximal_of_minimal, same_minimal_form}
use Rattle.icu_locale_key.proofs.laws.minimal_forms_tell_apart.Goals as goal

pub returns-clause-equal : goal.returns-clause-equal
returns-clause-equal c favor likely x y k l stable_x stable_y of_x of_y =
    let max_x = maximal_of_minimal favor likely x k (stable_has_class likely x stable_x) of_x in
    let max_y = maximal_of_minimal favor likely y l (stable_has_class likely y stable_y) of_y in (
      λ same. sym max_x ∙ ap (maximal likely) same ∙ max_y,
      λ same. c.minimal_form_is_one.ensures.one favor likely y k l (same_minimal_form favor likely x y k same of_x) of_y,
    )

pub returns-clause-least : goal.returns-clause-least
returns-clause-least c favor likely x k stable (inl least) = least
returns-clause-least c favor likely x k stable (inr none) =
    let has = stable_has_class likely x stable in
    absurd (none.0 has.0 has.1)
