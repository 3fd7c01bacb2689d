use Rattle.std.proofs.Common.{◌≡◌}
use Rattle.icu_tables.specs.Rows.{seen_rows}
use Rattle.icu_tables.proofs.Puts.{becomes}
use Rattle.icu_tables.proofs.from_json.members.add_members.Given as goal

-- what is left of the members decides
abbrev pub invariant-loop-name : goal.invariant-loop-name
invariant-loop-name g l =
    let says = g.P.AddsRows.says l.how in
    let seen = seen_rows g.P.AddsRows.seen in
    becomes says (seen l.initial.rows.items) l.initial.name-iterator ≡ becomes says (seen l.rows.items) l.name-iterator
