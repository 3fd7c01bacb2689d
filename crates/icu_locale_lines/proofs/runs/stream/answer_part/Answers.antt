use Rattle.std.proofs.Common.{◌≡◌, ◌++◌, [], true, refl, ap, sym, ◌∙◌, append_assoc, rules}
use Rattle.std.proofs.lemmas.Result.{err_from_is_err_and}
use Rattle.icu_locale_lines.specs.Lines.{exceeds}
use Rattle.icu_locale_lines.proofs.Bounds.{exceeds-unended}
use Rattle.icu_locale_lines.proofs.FirstLines.{none_left}
use Rattle.icu_locale_lines.proofs.Ended.{up_to_more, stops_more}
use Rattle.icu_locale_lines.proofs.runs.stream.answer_part.Goals as goal

-- the lines that the part ends were refused
pub returns-in_err-status-clause-refused : goal.returns-in_err-status-clause-refused
returns-in_err-status-clause-refused g c =
    let carry = c.args.carry.now.items in
    let cut = c.cut_behind_lines in
    let passed_on = err_from_is_err_and c.from_residual.result c.from_residual.ensures.1 in
    rw (passed_on.1, passed_on.2, cut.ensures.parted, ← append_assoc carry cut.result.0.now cut.result.1.now) (stops_more (carry ++ cut.result.0.now)
    cut.result.1.now c.in_err-status.ensures.refused)

-- there was no memory for what follows the last line feed
pub returns-in_err-keep-clause-refused : goal.returns-in_err-keep-clause-refused
returns-in_err-keep-clause-refused g c =
    let carry = c.args.carry.now.items in
    let cut = c.cut_behind_lines in
    let front = cut.result.0.now in
    let rest = cut.result.1.now in
    let held = c.answer_front.new.carry.items in
    let refused = c.in_err-keep.ensures.refused in
    let passed_on = err_from_is_err_and c.from_residual-in_err-keep.result c.from_residual-in_err-keep.ensures.1 in
    rw (passed_on.1, passed_on.2, refused.0, cut.ensures.parted, ← append_assoc carry front rest) (record {
      left = held ++ rest;
      pending = [];
      status = c.in_ok-status.status;
      answered = up_to_more (carry ++ front) rest c.in_ok-status.ensures.whole;
      why = (refl, λ none. refused.1 (none_left held rest none));
    })

-- the line that has not ended is too long
pub returns-then-is_too_long-clause-refused : goal.returns-then-is_too_long-clause-refused
returns-then-is_too_long-clause-refused g c =
    let carry = c.args.carry.now.items in
    let cut = c.cut_behind_lines in
    let front = cut.result.0.now in
    let rest = cut.result.1.now in
    let held = c.answer_front.new.carry.items in
    let left = c.keep.new.carry.items in
    let is : left ≡ held ++ rest = c.in_ok-keep.ensures.kept in
    let long : exceeds c.args.longest left ≡ true = ap (exceeds c.args.longest) (sym c.deref.ensures.value) ∙ sym c.is_too_long.ensures ∙ search rules in
    rw (cut.ensures.parted, ← append_assoc carry front rest) (record {
      left = left;
      pending = [];
      status = c.in_ok-status.status;
      answered = rw is (up_to_more (carry ++ front) rest c.in_ok-status.ensures.whole);
      why = (refl, exceeds-unended c.args.longest held rest left is c.in_ok-status.ensures.alone cut.ensures.rest long);
    })

pub returns-clause-whole : goal.returns-clause-whole
returns-clause-whole g c =
    let carry = c.args.carry.now.items in
    let cut = c.cut_behind_lines in
    let front = cut.result.0.now in
    let rest = cut.result.1.now in
    rw (c.in_ok-keep.ensures.kept, cut.ensures.parted, ← append_assoc carry front rest) (up_to_more (carry ++ front) rest
    c.in_ok-status.ensures.whole)
