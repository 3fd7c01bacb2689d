use Rattle.std.proofs.Common.{◌∙◌}
use Rattle.icu_tables_flat.proofs.Parts.{chunks_told}
use Rattle.icu_tables_flat.proofs.check.split_entries.Goals as goal

pub returns-clause-entries : goal.returns-clause-entries
returns-clause-entries g c =
    c.as_chunks.ensures.front
    ∙ chunks_told g.row.N c.args.count c.args.bytes.now c.split_at.result.0.now c.requires.some c.split_at.ensures.front
    c.split_at.ensures.front_len
