use Rattle.std.proofs.Common.{◌≡◌, ◌++◌, ap, ◌∙◌, string_bytes, Some, option_map}
use Rattle.serde_json.specs.View.{view}
use Rattle.serde_json.proofs.Views.{Entry}
use Rattle.icu_tables.specs.Rows.{seen_rows}
use Rattle.icu_tables.proofs.Puts.{becomes, becomes-more}
use Rattle.icu_tables.proofs.from_json.members.add_members.Goals as goal

-- a member has added its rows
pub loop-name-preserved : goal.loop-name-preserved
loop-name-preserved g c =
    let says = g.P.AddsRows.says c.args.how.now in
    let now = seen_rows g.P.AddsRows.seen c.loop-name.rows.items in
    let next = seen_rows g.P.AddsRows.seen c.add.new.rows.items in
    let e : Entry = (c.in-Some-2.name.now, c.in-Some-2.member.now) in
    let added : option_map (λ rows. now ++ rows) (says (string_bytes e.0) (view e.1)) ≡ Some next = rw (← c.as_str.ensures.value) c.in_ok-add.ensures in
    c.loop-name.invariant
    ∙ ap (becomes says now) c.in-Some-2.ensures.steps
    ∙ becomes-more says now next e c.next.new.self added
