use Rattle.icu_locale.proofs.TableRows.{settled_exactly}
use Rattle.icu_locale.proofs.expander.LocaleExpander.is_settled.Goals as goal

-- each key that the table has is that of a row
pub returns : goal.returns
returns c = settled_exactly _ c.rows_settle.result c.rows_settle.ensures
