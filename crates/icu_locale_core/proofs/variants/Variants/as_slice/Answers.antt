use Rattle.std.proofs.Common.{◌∙◌, sym, ap}
use Rattle.icu_locale_core.specs.TextSet.{rising}
use Rattle.icu_locale_core.specs.laws.RisingLists.{rising-from_list}
use Rattle.icu_locale_core.proofs.variants.Variants.as_slice.Goals as goal

pub returns : goal.returns
returns c = c.deref.ensures.value ∙ sym (rising-from_list c.self.inside.items.items c.self.invariant.rise) ∙ ap rising c.self.view_is
