use Rattle.std.proofs.Common.{◌≡◌, ◌≤◌, ◌++◌, ◌∷◌, [], ap, ◌∙◌, arith}
use Rattle.std.proofs.lemmas.Bool.Decides.{nat_tests}
use Rattle.icu_tables.specs.Validity.{rows_of_codes}
use Rattle.icu_tables.proofs.ValidityRows.{ending-more}
use Rattle.icu_tables.proofs.from_json.validity.add_endings.Goals as goal

-- one code more is added
pub loop-character-preserved : goal.loop-character-preserved
loop-character-preserved g c =
    let reads = g.K.ReadsValue.reads in
    let at = c.loop-character.character in
    let within : at ≤ c.args.to = grind (arith, nat_tests, c.loop-character-test.true) in
    let stem = c.in_ok-extend_from_slice.ensures.items ∙ ap (λ bytes. bytes ++ c.args.stem.now) c.clear.ensures.items in
    let whole : c.deref.result.now ≡ c.args.stem.now ++ at ∷ [] =
    c.deref.ensures.value ∙ c.in_ok-push.ensures.items ∙ ap (λ bytes. bytes ++ at ∷ []) stem in
    let added = ap (λ code. c.loop-character.rows.items ++ rows_of_codes reads c.args.status (code ∷ [])) whole in
    c.loop-character.invariant ∙ ending-more reads c.args.status c.args.stem.now c.loop-character.rows.items
    c.add_code.new.rows.items at c.args.to within (c.in_ok-add_code.ensures ∙ added)
