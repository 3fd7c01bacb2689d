use Rattle.std.proofs.Common.{refl}
use Rattle.std.proofs.lemmas.Result.{IfOk-weaker}
use Rattle.icu_locale_c.proofs.lines.line_by.Goals as goal

pub returns-clause-answered : goal.returns-clause-answered
returns-clause-answered c = λ h are. IfOk-weaker c.told.result _ _
    (λ a is. record { work = _; work_of = record { syntax = refl; places = refl; tools = are }; answer = is }) c.told.ensures.answered
