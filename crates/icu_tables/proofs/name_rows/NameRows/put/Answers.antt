use Rattle.std.proofs.Common.{IsSome, rules, sym, subst}
use Rattle.std.proofs.lemmas.Bool.{false≢true}
use Rattle.icu_tables.specs.Groups.{NameGroup}
use Rattle.icu_tables.proofs.NameGroups.{name_missing, names_after, rise_after, inserts_there, one_rises, rise_new, inserts_new}
use Rattle.icu_tables.proofs.name_rows.NameRows.put.Goals as goal

-- the group is there, and takes the row
pub invariant_of-self : goal.invariant_of-self
invariant_of-self c =
    let group : NameGroup = (c.args.marker, c.args.locale) in
    let names = names_after _ group c.args.key c.self.invariant c.args.name _ _ c.insert.result (sym c.in-Some.ensures.value) c.insert.ensures in
    rise_after _ _ _ c.self.invariant names

pub returns-in-Some : goal.returns-in-Some
returns-in-Some c =
    let group : NameGroup = (c.args.marker, c.args.locale) in
    let ties = c.keys_are_told_apart.ensures.names in
    rw (← c.self.view_is) (inserts_there _ group c.args.key c.self.invariant c.args.name ties _ _ c.insert.result
    (sym c.in-Some.ensures.value) c.insert.ensures)

-- the group is new
pub from_sorted-requires : goal.from_sorted-requires
from_sorted-requires c = rw c.in_ok-names-in-None.ensures.items (one_rises c.args.key c.args.name)

pub invariant_of-self-in-None : goal.invariant_of-self-in-None
invariant_of-self-in-None c =
    let group : NameGroup = (c.args.marker, c.args.locale) in
    let put = rw c.in_ok-names-in-None.ensures.items at (rw c.from_sorted.ensures at c.insert-in-None.ensures) in
    rise_new _ group c.args.key c.self.invariant c.args.name _ c.insert-in-None.result put

pub returns-in_ok-names-in-None : goal.returns-in_ok-names-in-None
returns-in_ok-names-in-None c =
    let group : NameGroup = (c.args.marker, c.args.locale) in
    let ties = c.keys_are_told_apart.ensures.names in
    let put = rw c.in_ok-names-in-None.ensures.items at (rw c.from_sorted.ensures at c.insert-in-None.ensures) in
    rw (← c.self.view_is) (inserts_new _ group c.args.key c.self.invariant c.args.name ties _ c.insert-in-None.result (sym c.in-None.ensures.value) put)

-- memory is refused only to a new row
pub returns-in_err-names-in-None : goal.returns-in_err-names-in-None
returns-in_err-names-in-None c =
    let none = name_missing _ (c.args.marker, c.args.locale) c.args.key c.self.invariant (sym c.in-None.ensures.value) in
    record {
      rows = search rules;
      refuses = search rules;
      present = λ found. absurd (false≢true (subst IsSome none (rw (← c.self.view_is) at found)));
    }
