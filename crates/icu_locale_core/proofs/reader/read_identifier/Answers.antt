use Rattle.std.proofs.Common.{◌∙◌, Err, ap, sym}
use Rattle.std.specs.List.{list_any}
use Rattle.icu_locale_core.specs.Subtag.{is_script, is_region, is_variant}
use Rattle.icu_locale_core.proofs.Readings.{some_variant-next, some_variant-after}
use Rattle.icu_locale_core.proofs.reader.read_identifier.Goals as goal

-- a variant among the last pieces is one of all
pub returns-in_err-variants-clause-memory : goal.returns-in_err-variants-clause-memory
returns-in_err-variants-clause-memory c refused =
    let same = rw refused at c.from_residual.ensures.1 in
    let last = c.in_err-variants.ensures.memory (ap Err (sym same)) in
    let behind_script = some_variant-after is_region c.read_script-script.new.pieces
    (ap (list_any is_variant) (sym c.read_region-region.ensures.rest) ∙ last) in
    let behind_language = some_variant-after is_script c.next.new.self (ap (list_any is_variant) (sym c.read_script-script.ensures.rest) ∙ behind_script) in
    some_variant-next c.next.result c.args.pieces c.next.new.self c.next.ensures.steps behind_language
