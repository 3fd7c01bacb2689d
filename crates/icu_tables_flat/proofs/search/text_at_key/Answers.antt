use Rattle.std.proofs.Common.{◌+◌, ◌-◌, ◌/◌, Some, sym, ap, ◌∙◌, map, arith}
use Rattle.icu_locale_core.specs.TextSet.{text_cmp}
use Rattle.icu_locale_core.specs.laws.TextSets.{text_total}
use Rattle.icu_tables_flat.specs.Form.{row_of}
use Rattle.icu_tables_flat.proofs.Searches.{up, down, found, misses}
use Rattle.icu_tables_flat.proofs.search.text_at_key.Goals as goal

pub loop-low-preserved-in-Less : goal.loop-low-preserved-in-Less
loop-low-preserved-in-Less c =
    let low = c.loop-low.low in
    let high = c.loop-low.high in
    up text_total (row_of c.args.texts.now) c.args.rows.now c.args.key.now low (low + (high - low) / 2) high
    c.requires.rise c.loop-low.invariant (omega arith)
    (ap (λ n. text_cmp n c.args.key.now) (sym c.key_of.ensures) ∙ sym c.compared.ensures ∙ c.in-Less.is)

pub loop-low-preserved : goal.loop-low-preserved
loop-low-preserved c =
    let low = c.loop-low.low in
    let high = c.loop-low.high in
    down text_total (row_of c.args.texts.now) c.args.rows.now c.args.key.now low (low + (high - low) / 2) high
    c.requires.rise c.loop-low.invariant (omega arith) (omega arith)
    (ap (λ n. text_cmp n c.args.key.now) (sym c.key_of.ensures) ∙ sym c.compared.ensures ∙ c.in-Greater.is)

pub returns-in-Equal : goal.returns-in-Equal
returns-in-Equal c =
    let low = c.loop-low.low in
    let high = c.loop-low.high in
    ap Some c.text_of.ensures
    ∙ sym (found text_total (row_of c.args.texts.now) c.args.rows.now c.args.key.now (low + (high - low) / 2)
    c.requires.rise (omega (arith, c.loop-low.invariant.within))
    (ap (λ n. text_cmp n c.args.key.now) (sym c.key_of.ensures) ∙ sym c.compared.ensures ∙ c.in-Equal.is))

pub returns : goal.returns
returns c = sym (misses text_total (map (row_of c.args.texts.now) c.args.rows.now) c.args.key.now c.loop-low.low c.loop-low.high
    c.loop-low.invariant (omega arith))
