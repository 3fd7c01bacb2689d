use Rattle.std.proofs.Common.{ap, sym, ◌∙◌}
use Rattle.icu_tables.specs.File.{rows_in}
use Rattle.icu_locale_lines.specs.Lines.{first_line, after_first_line}
use Rattle.icu_locale_lines.specs.WholeRuns.{ReadsTables}
use Rattle.icu_locale_lines.proofs.RunEnds.{json_refused}
use Rattle.icu_locale_lines.proofs.runs.whole.run_json.Goals as goal

-- what output over the tables of the first line leaves where it is refused
pub returns-clause-refused : goal.returns-clause-refused
returns-clause-refused g c =
    let read = g.R.Read.remaining in
    let wrote = g.W.Write.contents in
    let tables = c.in_ok-tables.tables in
    let rest = c.cut.result.1.now in
    let first = c.cut.ensures.first ∙ ap first_line c.deref.ensures.value in
    let reads : ReadsTables (read c.args.reader.now) (read c.read_all.new.reader) tables rest = record {
      input = c.in_ok-input.input.items;
      all_read = record { consumed = c.in_ok-input.ensures.whole; ended = c.in_ok-input.ensures.end };
      rows = ap rows_in (sym first) ∙ c.in_ok-tables.ensures.rows;
      alone = c.in_ok-tables.ensures.alone;
      rest_is = c.cut.ensures.rest ∙ ap after_first_line c.deref.ensures.value;
    } in
    json_refused tables (wrote c.args.writer.now) (wrote c.write_output.new.writer) (read c.args.reader.now)
    (read c.read_all.new.reader) c.write_output.result c.args.command.now rest reads c.write_output.ensures.refused
