use Rattle.icu_locale_core.proofs.Cases.{is_alphabetic-region}
use Rattle.icu_locale_core.proofs.subtags.Region.is_alphabetic.Goals as goal

pub returns : goal.returns
returns c =
    let known = is_alphabetic-region c.self.inside.0 c.self.invariant.member in
    cc (c.two_or_three.ensures, c.self.view_is, known)
