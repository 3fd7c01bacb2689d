use Rattle.icu_provider.specs.laws.SortedMaps.{All-lookup_own_key}
use Rattle.icu_provider.proofs.sorted_map.SortedMap.iter.Goals as goal

-- the keys rise, so each row is found at its own key
pub returns-clause-found : goal.returns-clause-found
returns-clause-found g c = rw (← c.self.view_is) (All-lookup_own_key g.met.K.Ord.total _ c.self.invariant)
