use Rattle.std.proofs.Common.{get_or}
use Rattle.std.proofs.lemmas.Option.{slice_get-get_or}
use Rattle.uses.proofs.negotiation.find_served.Goals as goal

-- a request and an available identifier that mean the same would be a match
pub returns-in-None-clause-none : goal.returns-in-None-clause-none
returns-in-None-clause-none c i request asked j identifier offered same =
    let requests = c.args.requests.now in
    let available = c.args.negotiator.now.available in
    c.in-None.ensures i j (record {
      request = get_or requests i request;
      identifier = get_or available j identifier;
      requested = slice_get-get_or requests i request asked;
      offered = slice_get-get_or available j identifier offered;
      same = same;
    })
