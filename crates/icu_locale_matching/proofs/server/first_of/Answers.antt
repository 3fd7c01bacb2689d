use Rattle.std.proofs.Common.{◌∙◌, sym}
use Rattle.icu_locale_matching.proofs.Choices.{first_of_all}
use Rattle.icu_locale_matching.proofs.server.first_of.Goals as goal

pub returns-then-not-is_empty : goal.returns-then-not-is_empty
returns-then-not-is_empty c = first_of_all c.args.requests.now c.args.any c.args.identifiers.now c.if-any.true (sym c.is_empty.ensures ∙ c.if-not-is_empty.true)
