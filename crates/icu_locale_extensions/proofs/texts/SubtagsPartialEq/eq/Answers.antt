use Rattle.std.proofs.Common.{◌∙◌}
use Rattle.icu_locale_extensions.proofs.Spellings.{texts_tell}
use Rattle.icu_locale_extensions.proofs.texts.SubtagsPartialEq.eq.Goals as goal

pub returns : goal.returns
returns g c = rw (← c.self.view_is, ← c.other.view_is) (c.eq.ensures ∙ texts_tell g.row.LOW _ _ c.self.invariant c.other.invariant)
