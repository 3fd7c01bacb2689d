use Rattle.std.proofs.Common.{Some}
use Rattle.icu_locale_lines.proofs.LocaleLines.{readable_from_read, refused_from_read, overridden_from_parts, memory_alone}
use Rattle.icu_locale_lines.proofs.work.value.with_value.Goals as goal

pub returns-in-Ok-clause-made : goal.returns-in-Ok-clause-made
returns-in-Ok-clause-made c =
    overridden_from_parts c.args.identifier c.args.text.now c.new.result c.in-Ok.value c.new.ensures.id c.new.ensures.keywords
    c.new.ensures.language c.in-Ok.ensures.read
    (readable_from_read c.args.text.now c.in-Ok.value c.in-Ok.ensures.refused) c.put_override.result c.put_override.ensures.id
    c.put_override.ensures.keywords c.put_override.ensures.transform

pub returns-in-Ok-clause-refused : goal.returns-in-Ok-clause-refused
returns-in-Ok-clause-refused c = memory_alone (Some c.args.text.now) c.put_override.result c.put_override.ensures.refused

pub returns-in-Err-clause-refused : goal.returns-in-Err-clause-refused
returns-in-Err-clause-refused c = refused_from_read c.args.text.now c.in-Err.refusal c.in-Err.ensures.refused c.in-Err.ensures.language
