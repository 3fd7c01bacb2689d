use Rattle.icu_locale.proofs.CanonicalAgain.{canonical_itself, canonical_unapplied, canonical_in_place, canonical_free, canonical_copies, rules_end}
use Rattle.icu_locale.proofs.laws.canonicalization.canonical_stays_canonical.Goals as goal

pub returns : goal.returns
returns c = record {
  canonical = canonical_itself;
  unapplied = canonical_unapplied;
  ends = λ likely rules old new canonical. rules_end likely rules new new (canonical_itself likely rules old new canonical);
  in_place = canonical_in_place;
  free = canonical_free;
  copies = canonical_copies;
}
