use Rattle.icu_locale_matching.proofs.Resolving.{region_kept, variants_kept, resolved_again, resolved_itself}
use Rattle.icu_locale_matching.proofs.laws.what_is_resolved_keeps_both.Goals as goal

pub returns-clause-region : goal.returns-clause-region
returns-clause-region c = region_kept

pub returns-clause-variants : goal.returns-clause-variants
returns-clause-variants c = variants_kept

pub returns-clause-again : goal.returns-clause-again
returns-clause-again c = resolved_again

pub returns-clause-itself : goal.returns-clause-itself
returns-clause-itself c = resolved_itself
