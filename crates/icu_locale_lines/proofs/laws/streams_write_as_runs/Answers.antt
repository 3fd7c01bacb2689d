use Rattle.std.proofs.Common.{ℕ, Option, None, refl}
use Rattle.icu_tables.specs.declared.tables.Tables.{Tables}
use Rattle.icu_locale_lines.specs.Lines.{Stream}
use Rattle.icu_locale_lines.specs.Streams.{IsRunWithin}
use Rattle.icu_locale_lines.specs.WholeRuns.{IsRun}
use Rattle.icu_locale_lines.specs.declared.command.Command.{Command}
use Rattle.icu_locale_lines.specs.declared.runs.Status.{Status}
use Rattle.icu_locale_lines.proofs.Bounds.{within_unbounded}
use Rattle.icu_locale_lines.proofs.laws.streams_write_as_runs.Goals as goal

run_of : (longest : Option ℕ) (c : Command) (t : Tables) (read read' wrote wrote' : Stream) (status : Status)
    → IsRunWithin longest c t read read read' wrote wrote' status → IsRun c t read read' wrote wrote' status
run_of longest c t read read' wrote wrote' status (input, reads, within, writes) = (input, reads, writes)

stream_of : (c : Command) (t : Tables) (read read' wrote wrote' : Stream) (status : Status)
    → IsRun c t read read' wrote wrote' status → IsRunWithin None c t read read read' wrote wrote' status
stream_of c t read read' wrote wrote' status (input, reads, writes) =
    (input, reads, within_unbounded None refl input, writes)

pub returns-clause-same : goal.returns-clause-same
returns-clause-same c = λ of t read read' wrote wrote' status.
    (run_of None of t read read' wrote wrote' status, stream_of of t read read' wrote wrote' status)

pub returns-clause-bounded : goal.returns-clause-bounded
returns-clause-bounded c = run_of
