use Rattle.icu_tables.proofs.from_json.marked.RowsOfAddsRowsTuple3DataLocale.add.Goals as goal

-- the member's name is that of a locale, or of none
pub returns : goal.returns
returns g c = rw (← c.locale_named.ensures) c.add_members.ensures
