use Rattle.icu_tables.proofs.FileLookups.{language_found, script_region_found, extended_found}
use Rattle.icu_tables.proofs.laws.likely_keys_find_their_members.Goals as goal

pub returns-clause-language : goal.returns-clause-language
returns-clause-language c text value rows table is = language_found text value rows is c.keys_are_told_apart.ensures.texts
    c.keys_are_told_apart.ensures.pairs table

pub returns-clause-script_region : goal.returns-clause-script_region
returns-clause-script_region c text value rows table is = script_region_found text value rows is c.keys_are_told_apart.ensures.texts
    c.keys_are_told_apart.ensures.pairs table

pub returns-clause-extended : goal.returns-clause-extended
returns-clause-extended c text value rows table is = extended_found text value rows is c.keys_are_told_apart.ensures.texts
    c.keys_are_told_apart.ensures.pairs table
