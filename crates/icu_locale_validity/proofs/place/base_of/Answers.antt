use Rattle.std.proofs.Common.{sym, ◌∙◌}
use Rattle.icu_locale_core.specs.laws.Cuts.{before_some}
use Rattle.icu_locale_extensions.specs.Syntaxes.{ends_base}
use Rattle.icu_locale_validity.proofs.Bases.{before_none}
use Rattle.icu_locale_validity.proofs.place.base_of.Goals as goal

pub returns-in-Some : goal.returns-in-Some
returns-in-Some c = c.split_at.ensures.front ∙ before_some ends_base c.args.text.now c.in-Some.place (sym c.in-Some.ensures)

pub returns-in-None : goal.returns-in-None
returns-in-None c = before_none ends_base c.args.text.now (sym c.in-None.ensures)
