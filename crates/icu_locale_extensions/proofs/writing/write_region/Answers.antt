use Rattle.icu_locale_core.specs.laws.Classes.{part_region}
use Rattle.icu_locale_extensions.proofs.writing.write_region.Goals as goal

pub write_lower-requires : goal.write_lower-requires
write_lower-requires g c = rw (c.as_bytes.ensures.value, c.as_str.ensures.text) (part_region c.in-Some.region c.as_str.ensures.known.member).plain
