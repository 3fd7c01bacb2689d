use Rattle.std.proofs.Common.{◌+◌, sym, subst}
use Rattle.icu_locale_matching.specs.inner.Leaders.{AreLeading}
use Rattle.icu_locale_matching.proofs.Led.{leader_more}
use Rattle.icu_locale_matching.proofs.leading.add_leader.Goals as goal

pub returns : goal.returns
returns c = λ forms n stands known.
    let t = c.args.matching.now in
    let xs = c.args.identifiers.now in
    subst (AreLeading t xs forms (n + 1)) (sym c.in_ok-push.ensures.items)
    (leader_more t xs forms n c.args.candidate.now stands c.args.leading.now.items known)
