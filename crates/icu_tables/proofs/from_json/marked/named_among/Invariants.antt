use Rattle.std.proofs.Common.{◌≡◌, drop}
use Rattle.icu_tables.specs.Names.{named_in}
use Rattle.icu_tables.specs.inner.Reads.{names_of}
use Rattle.icu_tables.proofs.from_json.marked.named_among.Given as goal

-- no row before has the name
abbrev pub invariant-loop-known : goal.invariant-loop-known
invariant-loop-known g l =
    named_in (names_of l.fn.table) l.fn.name ≡ named_in (names_of (drop l.known-index l.fn.table)) l.fn.name
