use Rattle.icu_locale.proofs.CanonicalAgain.{one_canonical_form, memory_alone, not_both_refused}
use Rattle.icu_locale.proofs.laws.canonicalization.canonical_form_is_one.Goals as goal

pub returns : goal.returns
returns c = record { one = one_canonical_form; refused = memory_alone; apart = not_both_refused }
