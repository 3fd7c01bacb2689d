use Rattle.std.proofs.Common.{◌≡◌, ◌+◌, ◌++◌, ◌∷◌, [], take, subst, sym, ap, ◌∙◌}
use Rattle.std.specs.Option.{option_to_list}
use Rattle.std.proofs.lemmas.List.{take_more}
use Rattle.icu_locale.specs.Rules.{AreRead}
use Rattle.icu_locale.proofs.Readings.{AreRead-more}
use Rattle.icu_locale.proofs.canonicalizer.reading.read_all.Goals as goal

pub loop-row-preserved : goal.loop-row-preserved
loop-row-preserved g c =
    let reads = g.R.Readable.reads in
    let rows = c.args.rows.now in
    let i = c.loop-row.row-index in
    let row = c.row-item.result in
    let passed : take (i + 1) rows ≡ take i rows ++ row ∷ [] = take_more rows i row c.loop-row-test.true
    ∙ ap (λ r. take i rows ++ r ∷ []) (sym c.row-item.is) in
    let more = AreRead-more reads (take i rows) c.loop-row.list.items row c.in_ok-read.field-0 c.loop-row.invariant c.in_ok-read.ensures.read in
    subst (AreRead reads (take (i + 1) rows)) (sym c.in_ok-keep.ensures.kept)
    (subst (λ rs. AreRead reads rs (c.loop-row.list.items ++ option_to_list c.in_ok-read.field-0)) (sym passed) more)
