use Rattle.std.proofs.Common.{◌≡◌, ◌∙◌, ◌++◌, ap, refl, codes, Bool, List, ℕ, append_assoc, not, length, ◌==◌}
use Rattle.icu_locale_names.specs.Pieces.{text_of, has_raw}
use Rattle.icu_locale_lines.specs.Texts.{raw_mark}
use Rattle.icu_locale_lines.proofs.work.name.add_full_name.Goals as goal

-- the text of the pieces, and whether one of them is raw
pub returns-clause-answer : goal.returns-clause-answer
returns-clause-answer c = λ pieces is.
    let old = c.args.text.now.items in
    let text = c.in-Ok.ensures.text ∙ ap (λ name. old ++ name.text) is in
    let raw : c.in-Ok.is_raw ≡ has_raw pieces =
    c.in-Ok.ensures.raw ∙ ap (λ name. not (length name.raw_spans == 0)) is ∙ c.raw_parts_have_spans.ensures pieces in
    let behind : Bool → List ℕ = λ mark. codes "\t" ++ (raw_mark mark ++ codes "\n") in
    record {
      line = text_of pieces ++ behind (has_raw pieces);
      added = c.in_ok-add_mark.ensures.added ∙ (λ i. text i ++ behind (raw i)) ∙ append_assoc old (text_of pieces) (behind (has_raw pieces));
      is = (refl, refl);
    }
