-- How the ends of a run's parts make the ends of the run.
use Rattle.std.proofs.Common.{◌≡◌, ◌⊎◌, ◌∙◌, false, List, ℕ, Option, Result, Ok, Err, IfOk, IfErr, inl, inr, ap, subst, sym}
use Rattle.std.proofs.lemmas.Bool.{false≢true}
use Rattle.std.proofs.lemmas.Result.{IfOk-weaker, IfErr-weaker}
use Rattle.icu_provider.specs.declared.error.DataError.{DataError}
use Rattle.icu_tables.specs.declared.tables.Tables.{Tables}
use Rattle.icu_locale_lines.specs.declared.command.Command.{Command}
use Rattle.icu_locale_lines.specs.declared.command.Command.TheVariants.{Lines}
use Rattle.icu_locale_lines.specs.declared.error.CliError.{CliError}
use Rattle.icu_locale_lines.specs.declared.error.CliError.TheVariants.{Data, NotSettled, Write, Memory}
use Rattle.icu_locale_lines.specs.declared.runs.Status.{Status}
use Rattle.icu_locale_lines.specs.declared.command.LineCommand.{LineCommand}
use Rattle.icu_locale_lines.specs.declared.work.Work.{Work}
use Rattle.icu_locale_lines.specs.Lines.{Stream}
use Rattle.icu_locale_lines.specs.Runs.{ReadsAll, WritesAll, WritesEarlier, WritesPart}
use Rattle.icu_locale_lines.specs.Commands.{IsUnsettled, has_tables}
use Rattle.icu_locale_lines.specs.Held.{IsReady, IsWorkOf, text_answered}
use Rattle.icu_locale_lines.specs.declared.session.Session.{Session}
use Rattle.icu_locale_lines.proofs.Sessions.{settled_for}
use Rattle.icu_locale_lines.specs.WholeRuns.{WritesLines, WritesUntil, StopsAmongLines, StopsLines, IsRun, IsRefusedRun, IsRefusedOutput, ReadsTables}
use Rattle.icu_locale_lines.specs.WholeRuns.{IsRefusedJsonRun}

-- where all is ready, nothing is refused for a table
module _ (c : LineCommand) (t : Tables) (s : Session) (ready : IsReady c t s) where
  pub ready_held : has_tables (Lines c) t ≡ false → ⊥
  ready_held none = false≢true (sym none ∙ ready.held)

  pub ready_settled : IsUnsettled (Lines c) t → ⊥
  ready_settled u = let h = settled_for c t u.negotiates ready.lists in u.unsettled h.0 h.1 h.2

module _ (t : Tables) (wrote wrote' read read' : Stream) (r : Result Status CliError) where
  -- lines of an input that was read
  pub lines_run : (c : LineCommand) (input : List ℕ) → ReadsAll read read' input → IfOk r (WritesLines c t input wrote wrote')
      → IfOk r (IsRun (Lines c) t read read' wrote wrote')
  lines_run c input all h = IfOk-weaker r _ _ (λ s h. (input, all, h)) h

  pub lines_refused : (c : LineCommand) (input : List ℕ) → ReadsAll read read' input → IfErr r (StopsLines c t input wrote wrote')
      → IfErr r (IsRefusedRun (Lines c) t read read' wrote wrote')
  lines_refused c input all h = IfErr-weaker r _ _ (λ e h. inr (inr (input, all, h))) h

  -- output over the tables of its first line
  pub json_refused : (c : Command) (rest : List ℕ) → ReadsTables read read' t rest → IfErr r (IsRefusedOutput c t rest wrote wrote')
      → IfErr r (IsRefusedJsonRun c read read' wrote wrote')
  json_refused c rest reads h = IfErr-weaker r _ _ (λ e h. inr (inr (t, rest, reads, h))) h

module _ (c : LineCommand) (t : Tables) (input : List ℕ) (wrote wrote' : Stream) where
  pub output_refused : (r : Result Status CliError) → IfErr r (StopsLines c t input wrote wrote') → IfErr r (IsRefusedOutput (Lines c) t input wrote wrote')
  output_refused r h = IfErr-weaker r _ _ (λ e h. inr h) h

  -- what stops once tables are loaded is no refusal for tables
  pub no_data : (e : DataError) → StopsLines c t input wrote wrote' (Data e) → ⊥
  no_data e (inl h) = h.0.1
  no_data e (inr h) = h.left

  pub no_unsettled : StopsLines c t input wrote wrote' NotSettled → ⊥
  no_unsettled (inl h) = h.0.1
  no_unsettled (inr h) = h.left

-- the work of a command on an input, and the text whose lines it answers
module _ (c : LineCommand) (t : Tables) (input : List ℕ) (work : Work) (work_of : IsWorkOf c t input work) (text : List ℕ)
    (answered : text_answered c input ≡ text) (wrote wrote' : Option (List ℕ)) (r : Result Status CliError) where
  pub lines_written : IfOk r (WritesAll work text wrote wrote') → IfOk r (WritesLines c t input wrote wrote')
  lines_written h = by r h
    where
      by : (s : Result Status CliError) → IfOk s (WritesAll work text wrote wrote') → IfOk s (WritesLines c t input wrote wrote')
      by (Ok s) h = record { work = work; work_of = work_of; all_written = subst (λ x. WritesAll work x wrote wrote' s) (sym answered) h }
      by (Err e) h = tt

  stops : (e : CliError) → WritesUntil e work text wrote wrote' → StopsAmongLines c t input wrote wrote' e
  stops e left = record { work = work; work_of = work_of; left = subst (λ x. WritesUntil e work x wrote wrote') (sym answered) left }

  pub lines_stopped : IfErr r (λ e. (e ≡ Memory) ⊎ (e ≡ Write)) → (r ≡ Err Memory → WritesEarlier work text wrote wrote')
      → (r ≡ Err Write → WritesPart work text wrote wrote') → IfErr r (StopsLines c t input wrote wrote')
  lines_stopped which memory write = by r which memory write
    where
      by : (s : Result Status CliError) → IfErr s (λ e. (e ≡ Memory) ⊎ (e ≡ Write))
          → (s ≡ Err Memory → WritesEarlier work text wrote wrote') → (s ≡ Err Write → WritesPart work text wrote wrote')
          → IfErr s (StopsLines c t input wrote wrote')
      by (Ok s) which memory write = tt
      by (Err e) (inl is) memory write = inr (stops e (subst (λ x. WritesUntil x work text wrote wrote') (sym is) (memory (ap Err is))))
      by (Err e) (inr is) memory write = inr (stops e (subst (λ x. WritesUntil x work text wrote wrote') (sym is) (write (ap Err is))))
