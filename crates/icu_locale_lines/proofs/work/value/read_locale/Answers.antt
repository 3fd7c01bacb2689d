use Rattle.std.specs.Option.{option_copied}
use Rattle.icu_locale_lines.proofs.LocaleLines.{spelled_from_parts, fault_from_value, fault_from_identifier}
use Rattle.icu_locale_lines.proofs.work.value.read_locale.Goals as goal

pub returns-in-Ok-clause-read : goal.returns-in-Ok-clause-read
returns-in-Ok-clause-read c =
    spelled_from_parts c.args.line.now c.cut_at_tab.result.0.now c.cut_at_tab.ensures.identifier
    (option_copied c.cut_at_tab.result.1) c.cut_at_tab.ensures.value c.in-Ok.identifier c.in-Ok.ensures.found
    c.locale_of.result c.locale_of.ensures.made

pub returns-in-Ok-clause-refused : goal.returns-in-Ok-clause-refused
returns-in-Ok-clause-refused c =
    fault_from_value c.args.line.now c.cut_at_tab.result.0.now c.cut_at_tab.ensures.identifier
    (option_copied c.cut_at_tab.result.1) c.cut_at_tab.ensures.value c.in-Ok.identifier c.in-Ok.ensures.found
    c.locale_of.result c.locale_of.ensures.refused

pub returns-in-Err-clause-refused : goal.returns-in-Err-clause-refused
returns-in-Err-clause-refused c = fault_from_identifier c.args.line.now c.cut_at_tab.result.0.now c.cut_at_tab.ensures.identifier
    c.in-Err.refusal c.in-Err.ensures
