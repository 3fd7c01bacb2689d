use Rattle.std.proofs.lemmas.Map.Views.{All-insert_key}
use Rattle.icu_locale_core.specs.Subtag.{IsSubtag}
use Rattle.icu_locale_core.specs.TextSet.{text_cmp}
use Rattle.icu_locale_extensions.proofs.AttributeSets.{put_in}
use Rattle.icu_locale_extensions.proofs.attributes.Attributes.insert.Goals as goal

pub returns-clause-members : goal.returns-clause-members
returns-clause-members c = put_in c.args.attribute c.args.self.now c.insert.new.self.keys c.in_ok-insert.ensures.ordered
    (λ q. rw (← c.self.view_is) (c.in_ok-insert.ensures.updates.0 q))

-- each attribute is still a subtag
pub invariant_of-self-2 : goal.invariant_of-self-2
invariant_of-self-2 c = rw c.in_ok-insert.ensures.keys (All-insert_key text_cmp c.args.attribute IsSubtag c.self.inside.set.keys c.self.invariant c.as_str.ensures.known)
