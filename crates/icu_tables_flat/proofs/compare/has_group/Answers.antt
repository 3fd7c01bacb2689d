use Rattle.std.proofs.Common.{◌∙◌, ℕ, List, Some, sym, ap}
use Rattle.std.specs.Option.{option_map}
use Rattle.std.proofs.lemmas.Option.{slice_get-map}
use Rattle.icu_tables_flat.specs.Flat.{run_at}
use Rattle.icu_tables_flat.proofs.compare.has_group.Goals as goal

pub returns-then-is_text : goal.returns-then-is_text
returns-then-is_text c =
    let rows_of : List ℕ × ℕ → List ℕ × List (List ℕ × List ℕ) = λ group. (group.0, run_at c.args.flat.now group.1) in
    λ told.
    slice_get-map rows_of c.args.flat.now.groups c.args.at
    ∙ ap (option_map rows_of) (sym c.in-Some.ensures)
    ∙ (λ i. Some (c.is_text.ensures c.if-is_text.true i, (c.has_rows.ensures told ∙ c.as_slice.ensures.rows) i))
