use Rattle.icu_locale_matching.specs.Nearest.{may_of, question}
use Rattle.icu_locale_matching.proofs.Choices.{found_is_chosen}
use Rattle.icu_locale_matching.proofs.Serving.{near_is_served, spelled_is_served}
use Rattle.icu_locale_matching.proofs.laws.what_is_near_is_not_lost.Goals as goal

pub returns-clause-near : goal.returns-clause-near
returns-clause-near c = near_is_served

pub returns-clause-spelled : goal.returns-clause-spelled
returns-clause-spelled c = spelled_is_served

pub returns-clause-chosen : goal.returns-clause-chosen
returns-clause-chosen c m requests may any i j request result room requested offered allowed choice =
    found_is_chosen m requests may any result choice
    (spelled_is_served (question m requests (may_of may)) i j request choice.found room requested offered allowed choice.nearest)
