use Rattle.std.proofs.Common.{◌++◌, [], refl, ◌∙◌, append-nil, rules}
use Rattle.std.proofs.lemmas.Result.{err_from_is_err_and}
use Rattle.icu_locale_lines.specs.declared.runs.Status.TheVariants.{Accepted}
use Rattle.icu_locale_lines.proofs.Bounds.{not_empty}
use Rattle.icu_locale_lines.proofs.FirstLines.{none_left}
use Rattle.icu_locale_lines.proofs.Ended.{up_to_none, up_to_more, up_to_later, stops_more, stops_later, carried_ends, carried_all, nothing_left}
use Rattle.icu_locale_lines.proofs.runs.stream.answer_front.Goals as goal

-- no line ends
pub returns-then-is_empty-clause-whole : goal.returns-then-is_empty-clause-whole
returns-then-is_empty-clause-whole g c = rw (nothing_left c.args.front.now (search rules), append-nil c.args.carry.now.items) up_to_none

-- nothing was carried
pub returns-then-is_empty-2-clause-refused : goal.returns-then-is_empty-2-clause-refused
returns-then-is_empty-2-clause-refused g c = rw (nothing_left c.args.carry.now.items (search rules)) c.answer_lines.ensures.refused

-- there was no memory for the end of the line that was carried
pub returns-in_err-keep-clause-refused : goal.returns-in_err-keep-clause-refused
returns-in_err-keep-clause-refused g c =
    let text = c.args.carry.now.items ++ c.args.front.now in
    let some = not_empty c.args.front.now c.if-is_empty.ensures in
    let passed_on = err_from_is_err_and c.from_residual.result c.from_residual.ensures.1 in
    rw (passed_on.1, passed_on.2, c.in_err-keep.ensures.refused.0) (record {
      left = text;
      pending = [];
      status = Accepted;
      answered = up_to_none;
      why = (refl, λ none. some (none_left c.args.carry.now.items c.args.front.now none));
    })

-- the line that was carried is whole
pub answer_lines-requires-2 : goal.answer_lines-requires-2
answer_lines-requires-2 g c =
    let split = c.split_first_line in
    carried_ends c.args.carry.now.items split.result.0.now c.as_slice.result.now (c.as_slice.ensures.value ∙ c.in_ok-keep.ensures.kept)
    (split.ensures.some (not_empty c.args.front.now c.if-is_empty.ensures)) (split.ensures.whole c.requires.whole).0

-- that line was refused
pub returns-in_err-first-clause-refused : goal.returns-in_err-first-clause-refused
returns-in_err-first-clause-refused g c =
    let split = c.split_first_line in
    let held = c.as_slice.result.now in
    let all = carried_all c.args.carry.now.items split.result.0.now held (c.as_slice.ensures.value ∙ c.in_ok-keep.ensures.kept)
    c.args.front.now split.result.1.now split.ensures.parted in
    let passed_on = err_from_is_err_and c.from_residual-in_err-first.result c.from_residual-in_err-first.ensures.1 in
    rw (passed_on.1, passed_on.2, ← all) (stops_more held split.result.1.now c.in_err-first.ensures.refused)

-- those behind it were
pub returns-in_err-later-clause-refused : goal.returns-in_err-later-clause-refused
returns-in_err-later-clause-refused g c =
    let split = c.split_first_line in
    let held = c.as_slice.result.now in
    let all = carried_all c.args.carry.now.items split.result.0.now held (c.as_slice.ensures.value ∙ c.in_ok-keep.ensures.kept)
    c.args.front.now split.result.1.now split.ensures.parted in
    let passed_on = err_from_is_err_and c.from_residual-in_err-later.result c.from_residual-in_err-later.ensures.1 in
    rw (passed_on.1, passed_on.2, ← all) (stops_later (up_to_more held split.result.1.now c.in_ok-first.ensures.whole) c.in_err-later.ensures.refused)

-- all were answered
pub returns-clause-whole : goal.returns-clause-whole
returns-clause-whole g c =
    let split = c.split_first_line in
    let held = c.as_slice.result.now in
    let all = carried_all c.args.carry.now.items split.result.0.now held (c.as_slice.ensures.value ∙ c.in_ok-keep.ensures.kept)
    c.args.front.now split.result.1.now split.ensures.parted in
    rw (← all, c.clear.ensures.items) (up_to_later (up_to_more held split.result.1.now c.in_ok-first.ensures.whole) c.in_ok-later.ensures.whole c.and.ensures)
