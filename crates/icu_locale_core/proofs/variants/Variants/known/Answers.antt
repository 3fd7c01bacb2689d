use Rattle.std.proofs.Common.{◌∙◌, sym, ap}
use Rattle.std.proofs.lemmas.List.Elements.{All-contains}
use Rattle.icu_locale_core.specs.Subtag.{IsVariant}
use Rattle.icu_locale_core.specs.TextSet.{contains}
use Rattle.icu_locale_core.specs.laws.TextSets.{contains-from_list, Contains-is_among}
use Rattle.icu_locale_core.proofs.variants.Variants.known.Goals as goal

pub returns : goal.returns
returns c = λ v here. All-contains IsVariant c.self.inside.items.items v c.self.invariant.each
    (Contains-is_among v c.self.inside.items.items (sym (contains-from_list c.self.inside.items.items v) ∙ ap (λ s. contains s v) c.self.view_is ∙ here))
