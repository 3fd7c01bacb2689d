use Rattle.std.proofs.lemmas.Map.Views.{All-remove_key}
use Rattle.icu_locale_core.specs.Subtag.{IsSubtag}
use Rattle.std.proofs.Common.{◌∙◌}
use Rattle.icu_locale_extensions.proofs.AttributeSets.{taken_out}
use Rattle.icu_locale_extensions.proofs.attributes.Attributes.remove.Goals as goal

pub returns-clause-members : goal.returns-clause-members
returns-clause-members c = rw (← c.self.view_is) (c.remove.ensures.keys ∙ taken_out c.args.attribute.now c.self.inside.set.keys c.len.ensures.ordered)

-- each attribute is still a subtag
pub invariant_of-self : goal.invariant_of-self
invariant_of-self c = rw c.remove.ensures.keys (All-remove_key _ IsSubtag c.self.inside.set.keys c.self.invariant)
