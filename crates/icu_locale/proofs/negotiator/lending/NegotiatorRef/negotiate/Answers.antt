use Rattle.std.proofs.Common.{refl, length}
use Rattle.std.proofs.lemmas.Option.{slice_get_read}
use Rattle.icu_locale.proofs.Negotiating.{IsFirstMatch-found, no_match_more, no_match}
use Rattle.icu_locale.proofs.negotiator.lending.NegotiatorRef.negotiate.Goals as goal

pub returns-in-Some : goal.returns-in-Some
returns-in-Some c =
    let request = c.index-requests-asked.result in
    let here = slice_get_read c.args.requests.now (length c.args.requests.now) c.loop-asked.asked request refl c.loop-asked-test.true
    c.index-requests-asked.is in
    IsFirstMatch-found _ _ _ c.loop-asked.asked c.loop-asked.invariant request c.in-Some.place here c.in-Some.ensures

pub loop-asked-preserved : goal.loop-asked-preserved
loop-asked-preserved c =
    let request = c.index-requests-asked.result in
    let here = slice_get_read c.args.requests.now (length c.args.requests.now) c.loop-asked.asked request refl c.loop-asked-test.true
    c.index-requests-asked.is in
    no_match_more _ _ _ c.loop-asked.asked c.loop-asked.invariant request here c.in_default.ensures

pub returns : goal.returns
returns c = no_match _ _ _ c.loop-asked.asked c.loop-asked.invariant c.loop-asked-test.false
