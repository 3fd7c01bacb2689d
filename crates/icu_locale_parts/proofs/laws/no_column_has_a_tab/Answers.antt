use Rattle.icu_locale_parts.proofs.Columns.{no_tab}
use Rattle.icu_locale_parts.proofs.laws.no_column_has_a_tab.Goals as goal

pub returns : goal.returns
returns c = no_tab
