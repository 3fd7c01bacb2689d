use Rattle.icu_locale_core.specs.laws.Maps.{SetsOnly-insert_entry}
use Rattle.icu_provider.specs.laws.SortedMaps.{IsSortedMap-insert_entry}
use Rattle.icu_provider.proofs.laws.inserted_rows_are_found.Goals as goal

pub returns-clause-found : goal.returns-clause-found
returns-clause-found g c = SetsOnly-insert_entry g.met.K.Ord.total

pub returns-clause-sorted : goal.returns-clause-sorted
returns-clause-sorted g c = IsSortedMap-insert_entry g.met.K.Ord.total
