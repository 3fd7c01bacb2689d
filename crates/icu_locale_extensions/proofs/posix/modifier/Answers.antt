use Rattle.std.proofs.Common.{sym, ◌∙◌}
use Rattle.icu_locale_extensions.specs.Syntaxes.{marks_modifier}
use Rattle.icu_locale_extensions.proofs.Names.{after_none}
use Rattle.icu_locale_core.specs.laws.Cuts.{after_some}
use Rattle.icu_locale_extensions.proofs.posix.modifier.Goals as goal

pub returns-in-Some : goal.returns-in-Some
returns-in-Some c = c.split_at.ensures.back ∙ after_some marks_modifier c.args.text.now c.in-Some.place (sym c.in-Some.ensures)

pub returns-in-None : goal.returns-in-None
returns-in-None c = after_none marks_modifier c.args.text.now (sym c.in-None.ensures)
