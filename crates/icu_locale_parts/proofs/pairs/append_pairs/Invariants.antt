use Rattle.std.proofs.Common.{◌≡◌, ◌++◌, codes, take}
use Rattle.std.specs.List.{flat_map}
use Rattle.icu_locale_parts.specs.Parts.{joined}
use Rattle.icu_locale_parts.proofs.pairs.append_pairs.Given as goal

abbrev pub invariant-loop-row : goal.invariant-loop-row
invariant-loop-row g l = l.text.items ≡ l.initial.text.items
    ++ flat_map (λ row. codes " " ++ (g.K.RowKey.text row.0 ++ (codes "=" ++ joined (g.V.RowValue.pieces row.1)))) (take l.row-index l.rest)
