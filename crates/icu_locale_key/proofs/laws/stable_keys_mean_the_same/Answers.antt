use Rattle.std.proofs.Common.{◌≡◌, true, refl, subst, false}
use Rattle.icu_locale_key.specs.Keys.{HasClass}
use Rattle.icu_locale_key.proofs.Meaning.{key_means, leads_means, least_of, means_back, means_through}
use Rattle.icu_locale_key.proofs.laws.stable_keys_mean_the_same.Goals as goal

pub returns-clause-key : goal.returns-clause-key
returns-clause-key c favor likely rules x a k ends has is =
    let same = c.runs_end_or_repeat.ensures.one_end likely rules false x a is.canonical ends is.end in
    key_means likely rules favor x k is (subst (HasClass likely) same has)

pub returns-clause-stable : goal.returns-clause-stable
returns-clause-stable c favor likely rules x k has stable = leads_means likely rules favor x has stable.turns k stable.comes

pub returns-clause-equal : goal.returns-clause-equal
returns-clause-equal c favor likely rules x y k of_x of_y one other =
    means_through likely rules x k y (leads_means likely rules favor x of_x one.turns k one.comes)
    (means_back likely rules y k (leads_means likely rules favor y of_y other.turns k other.comes))

pub returns-clause-reflexive : goal.returns-clause-reflexive
returns-clause-reflexive c likely rules x = (0, refl)

pub returns-clause-symmetric : goal.returns-clause-symmetric
returns-clause-symmetric c likely rules x y means = means_back likely rules x y means

pub returns-clause-transitive : goal.returns-clause-transitive
returns-clause-transitive c likely rules x y z one other = means_through likely rules x y z one other

pub returns-clause-least : goal.returns-clause-least
returns-clause-least c likely rules test itself through steps x y means =
    least_of likely rules (λ w z. test w z ≡ true) itself through steps means.0 x y means.1
