use Rattle.std.proofs.Common.{◌+◌, ◌∙◌, sym}
use Rattle.icu_tables_flat.proofs.Pieces.{boundary_told}
use Rattle.icu_tables_flat.proofs.entry.piece_of.Goals as goal

pub range-requires-clause-start_boundary : goal.range-requires-clause-start_boundary
range-requires-clause-start_boundary c =
    λ _. boundary_told c.args.texts.now c.args.place (sym c.is_boundary.ensures ∙ c.if-is_boundary.true)

pub range-requires-clause-end_boundary : goal.range-requires-clause-end_boundary
range-requires-clause-end_boundary c =
    boundary_told c.args.texts.now (c.args.place + c.args.len)
    (sym c.is_boundary-then-is_boundary.ensures ∙ c.if-is_boundary-2.true)
