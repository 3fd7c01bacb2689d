use Rattle.std.proofs.Common.{◌≡◌, subst, sym, take}
use Rattle.std.specs.Str.{IsUtf8}
use Rattle.icu_locale_core.specs.inner.Padded.{unpadded}
use Rattle.icu_locale_core.proofs.Padding.{IsUtf8-plain, take-unpadded}
use Rattle.icu_locale_core.proofs.tiny.TinyText.as_str.Goals as goal

-- the bytes before the zeros are letters and digits
pub from_utf8_unchecked-requires : goal.from_utf8_unchecked-requires
from_utf8_unchecked-requires g c =
    let front : take c.len.result c.self.inside.bytes ≡ unpadded c.self.inside.bytes =
    rw (c.len.ensures, ← c.self.view_is) (take-unpadded c.self.inside.bytes) in
    subst IsUtf8 (sym front) (IsUtf8-plain (unpadded c.self.inside.bytes) c.self.invariant.plain)
