use Rattle.std.proofs.Common.{refl}
use Rattle.icu_tables.proofs.Puts.{row_added}
use Rattle.icu_tables.proofs.from_json.extension_names.ByTextAddsRowsTableText.add.Goals as goal

-- the row is added
pub returns : goal.returns
returns g c =
    row_added g.V.FromValue.seen c.args.rows.now.items c.push.new.self.items c.in_ok-key.key c.in_ok-held.held _
    c.in_ok-push.ensures.items (rw (c.in_ok-held.ensures, c.in_ok-key.ensures.text) refl)
