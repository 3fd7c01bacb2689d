use Rattle.std.proofs.Common.{Ok, inr}
use Rattle.std.proofs.lemmas.Result.{err_from_is_err_and}
use Rattle.icu_locale_names.specs.LanguageNames.{in_locale}
use Rattle.uses.specs.Menu.{IsLineFor}
use Rattle.uses.proofs.Lines.{all_zip_further, first_refusal}
use Rattle.uses.proofs.menu.menu_lines.Goals as goal

-- the first that there is no line of
pub returns-in_err-line-clause-refused : goal.returns-in_err-line-clause-refused
returns-in_err-line-clause-refused g c =
    let provider = c.args.provider.now in
    let answers = in_locale (g.P.DataProvider.name provider) (g.P.DataProvider.menu provider)
    (g.P.DataProvider.essentials provider) c.args.preferences.now.locale in
    let passed_on = err_from_is_err_and c.from_residual.result c.from_residual.ensures.1 in
    rw (passed_on.1, passed_on.2) (inr (first_refusal answers c.args.subjects.now c.loop-subject.lines.items c.loop-subject.subject-index
    c.subject-item.result c.in_err-line.field-0.0
    c.loop-subject-test.true c.subject-item.is c.loop-subject.invariant c.in_err-line.ensures))

-- one line more
pub loop-subject-preserved : goal.loop-subject-preserved
loop-subject-preserved g c =
    let provider = c.args.provider.now in
    let answers = in_locale (g.P.DataProvider.name provider) (g.P.DataProvider.menu provider)
    (g.P.DataProvider.essentials provider) c.args.preferences.now.locale in
    all_zip_further (λ x line. IsLineFor answers x (Ok line)) c.args.subjects.now c.loop-subject.lines.items c.push_line.new.lines.items
    c.loop-subject.subject-index c.subject-item.result c.in_ok-line.line
    c.loop-subject-test.true c.subject-item.is c.loop-subject.invariant c.in_ok-line.ensures c.in_ok-push_line.ensures.pushed
