use Rattle.icu_locale_places.proofs.Bytes.{some_piece}
use Rattle.icu_locale_places.proofs.Probed.{wrong_at_first}
use Rattle.icu_locale_places.proofs.fronts.first_span.Goals as goal

pub span-requires : goal.span-requires
span-requires c = some_piece c.args.text.now

pub returns : goal.returns
returns c = wrong_at_first c.begins_is_told.ensures c.args.text.now c.span.result.0 c.span.result.1 c.requires c.span.ensures
