use Rattle.icu_locale.proofs.Values.{canonical_at_rg, canonical_at_sd, canonical_elsewhere}
use Rattle.icu_locale.proofs.laws.canonicalization.canonical_keywords_by_key.Goals as goal

pub returns : goal.returns
returns c = record { region_override = canonical_at_rg; subdivision = canonical_at_sd; others = canonical_elsewhere }
