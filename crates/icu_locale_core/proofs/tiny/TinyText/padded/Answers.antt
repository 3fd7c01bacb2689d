use Rattle.icu_locale_core.proofs.Padding.{IsUtf8-padded}
use Rattle.icu_locale_core.proofs.tiny.TinyText.padded.Goals as goal

pub from_utf8_unchecked-requires : goal.from_utf8_unchecked-requires
from_utf8_unchecked-requires g c = IsUtf8-padded g.row.N c.self.inside.bytes c.self.invariant
