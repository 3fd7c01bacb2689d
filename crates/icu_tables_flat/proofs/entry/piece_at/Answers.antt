use Rattle.icu_tables_flat.proofs.Pieces.{piece_starts, piece_ends}
use Rattle.icu_tables_flat.proofs.entry.piece_at.Goals as goal

pub range-requires-clause-start_boundary : goal.range-requires-clause-start_boundary
range-requires-clause-start_boundary c = λ _. piece_starts c.args.texts.now c.args.place c.args.len c.requires

pub range-requires-clause-end_boundary : goal.range-requires-clause-end_boundary
range-requires-clause-end_boundary c = piece_ends c.args.texts.now c.args.place c.args.len c.requires
