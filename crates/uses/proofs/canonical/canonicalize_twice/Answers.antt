use Rattle.std.proofs.Common.{inl, inr}
use Rattle.std.proofs.lemmas.Bool.{false≢true}
use Rattle.icu_locale.specs.LikelyTable.{likely}
use Rattle.uses.proofs.canonical.canonicalize_twice.Goals as goal

-- the rules end on a canonical locale, and no memory is needed for it: so it is not refused
pub returns-in_err-second-clause-first : goal.returns-in_err-second-clause-first
returns-in_err-second-clause-first c =
    let table = likely c.args.canonicalizer.now.expander in
    let rules = c.args.canonicalizer.now.rules in
    let laws = c.canonical_stays_canonical.ensures in
    let first = c.in_ok-first.ensures.outcome.canonical in
    let second = c.in_err-second.ensures.outcome in
    let ends = second.ends (laws.ends table rules c.args.locale.now c.canonicalize.new.locale first) in
    let free = second.free (laws.free table rules c.args.locale.now c.canonicalize.new.locale first) in
    elim ends [ inl succeeds ↦ absurd (false≢true succeeds) | inr memory ↦ absurd (free memory) ]
