use Rattle.std.proofs.Common.{◌≡◌, true, false, ◌++◌, ◌∷◌, ap, sym, ◌∙◌, subst, length, rules}
use Rattle.std.specs.List.{list_any}
use Rattle.icu_locale_lines.specs.Lines.{is_line_feed, first_line, exceeds}
use Rattle.icu_locale_lines.proofs.FirstLines.{whole_by_length, cut_by_length, first_line-behind}
use Rattle.icu_locale_lines.proofs.runs.input.take_line.Goals as goal

-- what was read of the line is too long
pub returns-then-is_too_long-clause-long : goal.returns-then-is_too_long-clause-long
returns-then-is_too_long-clause-long c = λ refused.
    let longest = c.args.longest in
    let line = c.args.line.now.items in
    let read : c.deref.result.now ≡ line ++ first_line c.args.part.now =
    c.deref.ensures.value ∙ c.in_ok-extend_from_slice.ensures.items ∙ ap (λ x. line ++ x) c.cut.ensures.first in
    let long : exceeds longest c.deref.result.now ≡ true = sym c.is_too_long.ensures ∙ search rules in
    ap (exceeds longest) (first_line-behind line c.args.part.now c.requires ∙ sym read) ∙ long

-- the part has no line feed
pub returns-then-front-part-clause-taken : goal.returns-then-front-part-clause-taken
returns-then-front-part-clause-taken c =
    let whole = whole_by_length c.args.part.now (ap length (sym c.cut.ensures.first) ∙ c.if-front-part.true) in
    (c.in_ok-extend_from_slice.ensures.items ∙ ap (λ x. c.args.line.now.items ++ x) (c.cut.ensures.first ∙ whole.0), whole.1)

-- the part is cut at its first line feed
pub returns-clause-taken : goal.returns-clause-taken
returns-clause-taken c =
    let cut = cut_by_length c.args.part.now (λ same. c.if-front-part.false (ap length c.cut.ensures.first ∙ same)) in (
      c.cut.result.0.now,
      cut.0 ∙ (λ i. sym c.cut.ensures.first i ++ 10 ∷ (sym c.cut.ensures.rest ∙ sym behind) i),
      subst (λ x. list_any is_line_feed x ≡ false) (sym c.cut.ensures.first) cut.1,
      c.in_ok-extend_from_slice.ensures.items,
    )
  where
    behind : c.extend_from_slice-2.new.self.items ≡ c.cut.result.1.now
    behind = c.in_ok-extend_from_slice-2.ensures.items ∙ ap (λ x. x ++ c.cut.result.1.now) c.new-rest.ensures.items
