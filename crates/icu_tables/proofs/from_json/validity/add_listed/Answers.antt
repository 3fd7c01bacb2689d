use Rattle.std.proofs.Common.{map, [], ◌∷◌, ◌++◌, List, ℕ, lit<, sym, ap, ◌∙◌}
use Rattle.std.specs.Borrow.{Bor}
use Rattle.std.proofs.lemmas.List.{append-nil, map-append}
use Rattle.std.proofs.lemmas.Iterator.Consumers.{YieldsList-at, YieldsList-end}
use Rattle.std.proofs.lemmas.Iterator.Splits.{YieldsList-from_str_split}
use Rattle.icu_tables.specs.Validity.{codes_of_words, rows_of_codes}
use Rattle.icu_tables.proofs.ValidityRows.{word-more}
use Rattle.icu_tables.proofs.from_json.validity.add_listed.Goals as goal

-- no word was added
pub loop-word-init : goal.loop-word-init
loop-word-init g c = sym (append-nil c.args.rows.now.items)

-- the codes of one word more are added
pub loop-word-preserved : goal.loop-word-preserved
loop-word-preserved g c =
    let reads = g.K.ReadsValue.reads in
    let more = word-more reads c.args.status c.args.rows.now.items c.loop-word.rows.items c.add_word.new.rows.items
    (map (λ (word : Bor (List ℕ)). word.now) c.loop-word.yielded) c.in-Some.word.now c.loop-word.invariant c.in_ok-add_word.ensures in
    more ∙ ap (λ words. c.args.rows.now.items ++ rows_of_codes reads c.args.status (codes_of_words words))
    (sym (map-append (λ (word : Bor (List ℕ)). word.now) c.loop-word.yielded (c.in-Some.word ∷ [])))

-- no word is left
pub returns : goal.returns
returns g c =
    let road = YieldsList-at c.into_iter-word-iterator.ensures.into_iter_gives
    (YieldsList-from_str_split 32 c.args.text.now (lit< tt) c.split-word-items.ensures.text c.split-word-items.ensures.has_more
    c.split-word-items.ensures.pattern) in
    let end = YieldsList-end road c.loop-word.yielded _ c.loop-word.yielded_by _ _ c.in-None.is c.next.ensures.steps in
    c.loop-word.invariant
    ∙ ap (λ words. c.args.rows.now.items ++ rows_of_codes g.K.ReadsValue.reads c.args.status (codes_of_words words)) end.0
