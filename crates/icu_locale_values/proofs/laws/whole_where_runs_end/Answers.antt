use Rattle.icu_locale_values.proofs.Refused.{refused_memory}
use Rattle.icu_locale_values.proofs.Stills.{whole_ends}
use Rattle.icu_locale_values.proofs.Made.{whole_made}
use Rattle.icu_locale_values.proofs.laws.whole_where_runs_end.Goals as goal

pub returns : goal.returns
returns c = record { some = whole_made; ends = whole_ends; refused = λ by old e all. refused_memory by old all e }
