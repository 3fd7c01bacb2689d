use Rattle.icu_locale_core.specs.laws.Classes.{part_script}
use Rattle.icu_locale_extensions.proofs.writing.write_script.Goals as goal

pub write_lower-requires : goal.write_lower-requires
write_lower-requires g c = rw (c.as_bytes.ensures.value, c.as_str.ensures.text) (part_script c.in-Some.script c.as_str.ensures.known.member).plain
