use Rattle.std.proofs.Common.{◌≡◌, ◌⊎◌, subst, sym}
use Rattle.icu_locale_core.specs.declared.parse_error.ParseError.TheVariants.{Memory}
use Rattle.icu_locale_lines.specs.Lists.{SpellsIn, IsFaultIn}
use Rattle.icu_locale_lines.proofs.ListReading.{fault_from_reading}
use Rattle.icu_locale_lines.proofs.work.list.read_identifier.Goals as goal

pub returns-in-Ok-clause-read : goal.returns-in-Ok-clause-read
returns-in-Ok-clause-read c =
    subst (λ s. SpellsIn s c.args.text.now c.identifier_of.result) (sym c.in-Some.is)
    (c.in-Ok.whole, c.in-Ok.ensures.found.0, c.in-Ok.ensures.found.1, sym c.identifier_of.ensures)

pub returns-in-Err-clause-refused : goal.returns-in-Err-clause-refused
returns-in-Err-clause-refused c =
    subst (λ s. (c.in-Err.refusal ≡ Memory) ⊎ IsFaultIn s c.args.text.now c.in-Err.refusal) (sym c.in-Some.is)
    (fault_from_reading c.in-Some.syntax c.args.text.now c.in-Err.refusal c.in-Err.ensures)
