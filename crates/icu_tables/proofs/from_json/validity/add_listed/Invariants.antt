use Rattle.std.proofs.Common.{◌≡◌, ◌++◌, map}
use Rattle.icu_tables.specs.Validity.{codes_of_words, rows_of_codes}
use Rattle.icu_tables.proofs.from_json.validity.add_listed.Given as goal

-- the codes of each word so far are added
abbrev pub invariant-loop-word : goal.invariant-loop-word
invariant-loop-word g l =
    l.rows.items ≡ l.initial.rows.items
    ++ rows_of_codes g.K.ReadsValue.reads l.status (codes_of_words (map (λ word. word.now) l.yielded))
