use Rattle.icu_provider.specs.laws.Requests.{texts_tie, pairs_tie, locales_tie, exemplars_tie, names_tie, menus_tie}
use Rattle.icu_provider.proofs.laws.keys_are_told_apart.Goals as goal

pub returns-clause-texts : goal.returns-clause-texts
returns-clause-texts c = texts_tie

pub returns-clause-pairs : goal.returns-clause-pairs
returns-clause-pairs c = pairs_tie

pub returns-clause-locales : goal.returns-clause-locales
returns-clause-locales c = locales_tie

pub returns-clause-exemplars : goal.returns-clause-exemplars
returns-clause-exemplars c = exemplars_tie c.requests_in_order.ensures.exemplars

pub returns-clause-names : goal.returns-clause-names
returns-clause-names c = names_tie c.requests_in_order.ensures.names c.requests_in_order.ensures.keys

pub returns-clause-menus : goal.returns-clause-menus
returns-clause-menus c = menus_tie c.requests_in_order.ensures.menus
