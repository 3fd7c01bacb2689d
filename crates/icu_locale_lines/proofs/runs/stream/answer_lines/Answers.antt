use Rattle.std.proofs.Common.{[], Err, inl, refl, ap, append-nil, rules}
use Rattle.std.proofs.lemmas.Result.{err_from_is_err_and}
use Rattle.icu_locale_lines.proofs.Ended.{up_to_whole, up_to_more, stops_written, stops_more, long_left, nothing_left}
use Rattle.icu_locale_lines.proofs.runs.stream.answer_lines.Goals as goal

-- the lines before the first that is too long were refused
pub returns-in_err-status-clause-refused : goal.returns-in_err-status-clause-refused
returns-in_err-status-clause-refused g c =
    let cut = c.cut_before_long in
    let refused = c.in_err-status.ensures in
    let passed_on = err_from_is_err_and c.from_residual.result c.from_residual.ensures.1 in
    rw (passed_on.1, passed_on.2, cut.ensures.parted) (stops_more cut.result.0.now cut.result.1.now (stops_written cut.result.0.now (inl cut.ensures.front.0)
    cut.ensures.front.1 refused.refused (λ is. refused.memory (ap (λ e. Err e) is)) (λ is. refused.write (ap (λ e. Err e) is))))

-- a line is too long, and those before it are answered
pub returns-then-not-is_empty-clause-refused : goal.returns-then-not-is_empty-clause-refused
returns-then-not-is_empty-clause-refused g c =
    let cut = c.cut_before_long in record {
      left = cut.result.1.now;
      pending = [];
      status = c.in_ok-status.status;
      answered = rw cut.ensures.parted (up_to_more cut.result.0.now cut.result.1.now
          (up_to_whole cut.ensures.front.0 cut.ensures.front.1 c.in_ok-status.ensures.whole));
      why = (refl, long_left c.args.longest cut.result.1.now (search rules) cut.ensures.rest);
    }

-- no line is
pub returns-clause-whole : goal.returns-clause-whole
returns-clause-whole g c =
    let cut = c.cut_before_long in
    rw (cut.ensures.parted, nothing_left cut.result.1.now (search rules), append-nil cut.result.0.now)
    (up_to_whole cut.ensures.front.0 cut.ensures.front.1 c.in_ok-status.ensures.whole)
