use Rattle.std.proofs.Common.{inl, inr, ◌≡◌, true, rules}
use Rattle.std.proofs.lemmas.Result.{err_from_is_err_and}
use Rattle.icu_locale_lines.specs.Commands.{has_tables}
use Rattle.icu_locale_lines.specs.WholeRuns.{IsUnloaded}
use Rattle.icu_locale_lines.specs.declared.command.Command.TheVariants.{Lines}
use Rattle.icu_locale_lines.proofs.Sessions.{unserved_memory, unserved_table}
use Rattle.icu_locale_lines.proofs.session.Session.serve.Goals as goal

-- the tables are held, and there is no room for the list
pub returns-in_err-identifiers-clause-refused : goal.returns-in_err-identifiers-clause-refused
returns-in_err-identifiers-clause-refused c =
    let passed_on = err_from_is_err_and c.from_residual.result c.from_residual.ensures.1 in
    let all : has_tables (Lines c.args.command.now) c.args.tables.now ≡ true = search rules in
    rw (passed_on.1, passed_on.2) (unserved_memory c.args.command.now c.args.tables.now c.requires.task c.in_err-identifiers.field-0.0 all
    c.in_err-identifiers.ensures.refused)

-- or for what is served
pub returns-in_err-served_by-clause-refused : goal.returns-in_err-served_by-clause-refused
returns-in_err-served_by-clause-refused c =
    let told = c.from_residual-in_err-served_by in
    let passed_on = err_from_is_err_and told.result told.ensures.1 in
    let k = c.args.command.now in
    let t = c.args.tables.now in
    let e = c.in_err-served_by.field-0.0 in
    let all : has_tables (Lines k) t ≡ true = search rules in
    let why : IsUnloaded (Lines k) t e = elim c.in_err-served_by.ensures.refused [
      | inl is ↦ unserved_memory k t c.requires.task e all is
      | inr is ↦ unserved_table k t c.requires.task e is.1 is.0
    ] in
    rw (passed_on.1, passed_on.2) why
