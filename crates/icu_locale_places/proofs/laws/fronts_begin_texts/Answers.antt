use Rattle.icu_locale_places.proofs.Probed.{texts_begin}
use Rattle.icu_locale_places.proofs.laws.fronts_begin_texts.Goals as goal

pub returns : goal.returns
returns c = texts_begin c.derived_is_read.ensures c.begins_is_told.ensures
