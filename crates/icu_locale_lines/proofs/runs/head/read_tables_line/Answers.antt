use Rattle.std.proofs.Common.{None, ap, sym, subst, ◌∙◌}
use Rattle.std.specs.Io.KnownBytes.{prepend_known}
use Rattle.icu_tables.specs.File.{rows_in}
use Rattle.icu_locale_lines.specs.Streams.{ReadsLine}
use Rattle.icu_locale_lines.proofs.StreamEnds.{prepend_none}
use Rattle.icu_locale_lines.proofs.runs.head.read_tables_line.Goals as goal

pub returns-clause-read : goal.returns-clause-read
returns-clause-read g c =
    let read = g.R.Read.remaining in
    let first = c.in_ok-first.first in
    let mid = prepend_known first.rest.items (read c.read_first_line.new.reader) in
    record {
      line = first.line.items;
      has_ended = first.has_ended;
      reads = subst (λ r. ReadsLine None r mid first.line.items first.has_ended) (prepend_none (read c.args.reader.now)) c.in_ok-first.ensures.line;
      rows = ap rows_in (sym c.deref.ensures.value) ∙ c.in_ok-tables.ensures.rows;
      alone = c.in_ok-tables.ensures.alone;
    }
