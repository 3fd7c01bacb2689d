use Rattle.icu_tables.proofs.FileLookups.{exemplars_found, names_found, menus_found, essentials_found}
use Rattle.icu_tables.proofs.laws.requests_find_their_members.Goals as goal

pub returns-clause-exemplars : goal.returns-clause-exemplars
returns-clause-exemplars c text value rows is = exemplars_found text value rows is c.keys_are_told_apart.ensures.exemplars c.is_in_order.ensures

pub returns-clause-names : goal.returns-clause-names
returns-clause-names c text value rows is = names_found text value rows is c.keys_are_told_apart.ensures.names c.is_in_order-2.ensures

pub returns-clause-menus : goal.returns-clause-menus
returns-clause-menus c text value rows is = menus_found text value rows is c.keys_are_told_apart.ensures.menus c.is_in_order-3.ensures

pub returns-clause-essentials : goal.returns-clause-essentials
returns-clause-essentials c text value rows is = essentials_found text value rows is c.keys_are_told_apart.ensures.locales c.is_in_order-4.ensures
