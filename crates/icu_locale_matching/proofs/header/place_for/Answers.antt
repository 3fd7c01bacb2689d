use Rattle.std.proofs.Common.{sym, nat_lt}
use Rattle.icu_locale_matching.proofs.Inserts.{place_none}
use Rattle.icu_locale_matching.proofs.header.place_for.Goals as goal

pub returns-in-None-clause-place : goal.returns-in-None-clause-place
returns-in-None-clause-place c = place_none (λ w. nat_lt w.weight c.args.weight) c.args.list.now (sym c.in-None.ensures)
