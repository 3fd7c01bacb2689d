use Rattle.std.proofs.Common.{sym}
use Rattle.icu_tables.proofs.ValidityRows.{listed_added, codes_said}
use Rattle.icu_tables.proofs.from_json.validity.CodesAddsRowsStatus.add.Goals as goal

-- the codes of the text are added, each with the status of the name
pub returns : goal.returns
returns g c =
    let reads = g.K.ReadsValue.reads in
    let status = c.in-Some.status in
    listed_added reads status c.args.rows.now.items c.add_listed.new.rows.items _ _ c.in_ok-add_listed.ensures
    (codes_said reads c.args.name.now _ c.in-Some-as_str.text.now status (sym c.in-Some.ensures) (sym c.in-Some-as_str.ensures))
