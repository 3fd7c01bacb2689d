use Rattle.std.proofs.Common.{◌≡◌, ◌+◌, ◌-◌}
use Rattle.icu_tables.proofs.ValidityRows.{becomes_of}
use Rattle.icu_tables.proofs.from_json.validity.add_endings.Given as goal

-- what is left of the range decides
abbrev pub invariant-loop-character : goal.invariant-loop-character
invariant-loop-character g l =
    let left = becomes_of g.K.ReadsValue.reads l.status l.stem in
    left l.initial.rows.items l.from l.to ≡ left l.rows.items l.character l.to

-- so many characters are left
abbrev pub decreases-loop-character : goal.decreases-loop-character
decreases-loop-character g l = l.to + 1 - l.character
