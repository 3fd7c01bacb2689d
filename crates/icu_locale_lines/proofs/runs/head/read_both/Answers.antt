use Rattle.std.proofs.Common.{Err, None, inl, inr, refl, ap, sym, ◌∙◌}
use Rattle.std.specs.Io.KnownBytes.{prepend_known}
use Rattle.std.proofs.lemmas.Result.{err_from_is_err_and}
use Rattle.icu_tables.specs.Supplement as further
use Rattle.icu_locale_lines.specs.Streams.{ReadsLine}
use Rattle.icu_locale_lines.proofs.StreamEnds.{unread_from}
use Rattle.icu_locale_lines.proofs.runs.head.read_both.Goals as goal

-- the second line did not end
pub returns-in_err-second-clause-refused : goal.returns-in_err-second-clause-refused
returns-in_err-second-clause-refused g c =
    let first = c.in_ok-first.first in
    let between = prepend_known first.rest.items (g.R.Read.remaining c.read_tables_line.new.reader) in
    let unread = unread_from _ _ c.in_err-second.ensures.refused (λ is. rw c.deref.ensures.value at c.in_err-second.ensures.none (ap (λ e. Err e) is)) in
    let passed_on = err_from_is_err_and c.from_residual-in_err-second.result c.from_residual-in_err-second.ensures.1 in
    rw (passed_on.1, passed_on.2) (inr (first.tables, between, c.in_ok-first.ensures.read, inl unread))

-- it gives no supplement
pub returns-in_err-supplement-clause-refused : goal.returns-in_err-supplement-clause-refused
returns-in_err-supplement-clause-refused g c =
    let read = g.R.Read.remaining in
    let first = c.in_ok-first.first in
    let second = c.in_ok-second.second in
    let between = prepend_known first.rest.items (read c.read_tables_line.new.reader) in
    let mid = prepend_known second.rest.items (read c.read_first_line.new.reader) in
    let line : ReadsLine None between mid second.line.items second.has_ended = rw (← c.deref.ensures.value) c.in_ok-second.ensures.line in
    let passed_on = err_from_is_err_and c.from_residual-in_err-supplement.result c.from_residual-in_err-supplement.ensures.1 in
    rw (passed_on.1, passed_on.2) (inr (
      first.tables,
      between,
      c.in_ok-first.ensures.read,
      inr (
        second.line.items,
        second.has_ended,
        mid,
        line,
        record { rest = second.rest.items; short = c.in_ok-second.ensures.short; behind = refl },
        rw (← c.deref-2.ensures.value) c.in_err-supplement.ensures.refused,
      ),
    ))

pub returns-clause-read : goal.returns-clause-read
returns-clause-read g c =
    let read = g.R.Read.remaining in
    let first = c.in_ok-first.first in
    let second = c.in_ok-second.second in
    let between = prepend_known first.rest.items (read c.read_tables_line.new.reader) in
    let mid = prepend_known second.rest.items (read c.read_first_line.new.reader) in
    let line : ReadsLine None between mid second.line.items second.has_ended = rw (← c.deref.ensures.value) c.in_ok-second.ensures.line in (
      record {
        tables = first.tables;
        between = between;
        first = c.in_ok-first.ensures.read;
        second = record {
          supplement = c.in_ok-supplement.supplement;
          line = second.line.items;
          has_ended = second.has_ended;
          reads = line;
          rows = ap further.rows_in (sym c.deref-2.ensures.value) ∙ c.in_ok-supplement.ensures.rows;
          is = c.set_supplement.ensures;
        };
      },
      record { rest = second.rest.items; short = c.in_ok-second.ensures.short; behind = refl },
    )
