use Rattle.std.proofs.Common.{◌∙◌, sym, arith}
use Rattle.icu_tables_flat.proofs.Parts.{parts_told}
use Rattle.icu_tables_flat.proofs.check.lists_in.Goals as goal

pub returns : goal.returns
returns c =
    parts_told c.args.bytes.now c.number32-groups.result c.number32-runs.result c.number32-rows.result
    c.split_at.result.1.now c.split_entries.result.1.now c.split_entries-2.result.1.now c.split_entries-3.result.1.now
    c.split_entries.result.0.now c.split_entries-2.result.0.now c.split_entries-3.result.0.now
    (sym c.has_head.ensures ∙ c.if-not-has_head.false) (omega arith)
    c.number32-groups.ensures c.number32-runs.ensures c.number32-rows.ensures c.split_at.ensures.back
    c.split_entries.ensures.entries c.split_entries.ensures.rest
    c.split_entries-2.ensures.entries c.split_entries-2.ensures.rest
    c.split_entries-3.ensures.entries c.split_entries-3.ensures.rest
