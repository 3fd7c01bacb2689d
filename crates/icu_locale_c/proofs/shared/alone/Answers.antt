use Rattle.std.proofs.Common.{◌∙◌}
use Rattle.std.proofs.lemmas.Result.{IfOk-weaker}
use Rattle.icu_locale_c.proofs.shared.alone.Goals as goal

-- a session with nothing is over any tables
pub boxed-requires-clause-over : goal.boxed-requires-clause-over
boxed-requires-clause-over c = c.new-session.ensures.over c.args.tables.value

pub returns-clause-made : goal.returns-clause-made
returns-clause-made c = IfOk-weaker c.boxed.result _ _ (λ b is. is ∙ c.new-session.ensures.held c.args.tables.value) c.boxed.ensures.made
