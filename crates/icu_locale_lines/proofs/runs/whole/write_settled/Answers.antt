use Rattle.std.proofs.Common.{inr, subst, ◌∙◌}
use Rattle.std.proofs.lemmas.Result.{err_from_is_err_and}
use Rattle.icu_locale_core.specs.Sinks.{AppendsPart}
use Rattle.icu_locale_lines.specs.WholeRuns.{TellsSettled}
use Rattle.icu_locale_lines.proofs.runs.whole.write_settled.Goals as goal

-- a failed write leaves a beginning of the one line
pub returns-in_err-write_bytes-clause-refused : goal.returns-in_err-write_bytes-clause-refused
returns-in_err-write_bytes-clause-refused g c =
    let before = g.W.Write.contents c.args.writer.now in
    let after = g.W.Write.contents c.write_bytes.new.writer in
    let tells : TellsSettled c.args.tables.now c.is_settled.result = record {
      expander = c.in_ok-expander.expander;
      over = c.in_ok-expander.ensures.made;
      tells = c.is_settled.ensures;
    } in
    let part = subst (AppendsPart before after) (c.as_bytes.ensures.value ∙ c.yes_or_no-line.ensures) c.in_err-write_bytes.ensures.part in
    let passed_on = err_from_is_err_and c.from_residual-in_err-write_bytes.result c.from_residual-in_err-write_bytes.ensures.1 in
    rw (passed_on.1, passed_on.2) (inr (c.in_err-write_bytes.ensures.refused, c.is_settled.result, tells, part))
