use Rattle.std.proofs.Common.{◌≡◌, ◌+◌, suc, length}
use Rattle.std.specs.Option.{option_map}
use Rattle.icu_locale_core.specs.Identifier.{pieces}
use Rattle.icu_locale_validity.specs.Places.{stand}
use Rattle.icu_locale_validity.specs.inner.Marks.{bytes_left, marks, pieces_left}
use Rattle.icu_locale_validity.proofs.place.stand.Given as goal

abbrev pub invariant-pieces : goal.invariant-pieces
invariant-pieces l = record {
  same : stand l.kind (marks l.fn.singleton l.fn.language) (pieces l.wanted) (pieces l.text)
      ≡ option_map (λ n. l.from + n) (stand l.kind (marks l.singleton l.language) (pieces l.wanted) (pieces_left l.left));
  bytes : l.from + bytes_left l.left ≡ suc (length l.text);
}

abbrev pub decreases-pieces : goal.decreases-pieces
decreases-pieces l = bytes_left l.left
