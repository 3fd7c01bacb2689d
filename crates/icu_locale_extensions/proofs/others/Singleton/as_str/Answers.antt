use Rattle.icu_locale_extensions.proofs.Marks.{IsUtf8-other}
use Rattle.icu_locale_extensions.proofs.others.Singleton.as_str.Goals as goal

pub from_utf8_unchecked-requires : goal.from_utf8_unchecked-requires
from_utf8_unchecked-requires c = IsUtf8-other c.self.inside.0 c.self.invariant.member
