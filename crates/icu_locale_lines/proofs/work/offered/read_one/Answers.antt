use Rattle.std.proofs.Common.{◌≡◌, ◌⊎◌, IfErr, subst, sym}
use Rattle.icu_locale_core.specs.declared.parse_error.ParseError.TheVariants.{Memory}
use Rattle.icu_locale_lines.specs.Lists.{IsFaultIn}
use Rattle.icu_locale_lines.proofs.ListReading.{if_fault_from_reading}
use Rattle.icu_locale_lines.proofs.work.offered.read_one.Goals as goal

pub returns-in-Some-clause-refused : goal.returns-in-Some-clause-refused
returns-in-Some-clause-refused c =
    subst (λ s. IfErr c.read.result (λ e. (e ≡ Memory) ⊎ IsFaultIn s c.args.text.now e)) (sym c.in-Some.is)
    (if_fault_from_reading c.in-Some.syntax c.args.text.now c.read.result c.read.ensures)
