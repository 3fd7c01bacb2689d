use Rattle.std.proofs.Common.{subst, sym, ◌∙◌}
use Rattle.std.specs.Str.{IsUtf8}
use Rattle.icu_locale_extensions.proofs.Spellings.{utf8_joined}
use Rattle.icu_locale_extensions.proofs.texts.Subtags.as_str.Goals as goal

pub from_utf8_unchecked-requires : goal.from_utf8_unchecked-requires
from_utf8_unchecked-requires g c = subst IsUtf8 (c.self.invariant.joined ∙ sym c.deref.ensures.value) (utf8_joined _ _ c.self.invariant.each)
