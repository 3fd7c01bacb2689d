use Rattle.std.proofs.Common.{◌≡◌, take, subst, arith, Ok}
use Rattle.std.proofs.lemmas.Grind.{common_steps}
use Rattle.std.specs.List.{flat_map}
use Rattle.icu_locale_core.specs.laws.TextSinks.{refused_later}
use Rattle.icu_locale_extensions.specs.Rows.{dashed, flat, above_t}
use Rattle.icu_locale_extensions.proofs.Dashes.{dashed_where, is_above_t, dashed-filter}
use Rattle.icu_locale_extensions.proofs.writing.write_above_t.Goals as goal

pub returns-in_err-write_row : goal.returns-in_err-write_row
returns-in_err-write_row g c =
    refused_later g.S.TextSink.Writes g.met.S.TextSink.further g.met.S.TextSink.broken _ _ _ _ _ _ _ _ c.loop-row.invariant c.in_err-write_row.ensures c.from_residual.ensures.0

pub returns : goal.returns
returns g c =
    let rows = c.args.others.now in
    let each = dashed-filter is_above_t rows in
    let all : flat_map (dashed_where is_above_t) (take c.loop-row.row-index c.as_slice-row-items.result.now) ≡ dashed (flat (above_t rows)) = grind (arith, common_steps) in
    subst (λ t. g.S.TextSink.Writes c.args.sink.now t (Ok tt) c.loop-row.sink) all c.loop-row.invariant
