use Rattle.std.proofs.Common.{◌≡◌, ℕ, List, [], map, length}
use Rattle.icu_locale_core.specs.Subtag.{lowercase}
use Rattle.icu_locale_core.specs.TextSet.{from_list, rising}
use Rattle.icu_locale_extensions.specs.laws.Reader.{read_on}
use Rattle.icu_locale_extensions.specs.Built.{with_attributes}
use Rattle.icu_locale_extensions.specs.inner.Takes.{IsEnd}
use Rattle.icu_locale_extensions.specs.laws.Reader.Part.{attributes}
use Rattle.icu_locale_extensions.proofs.reader.take_attributes.Given as goal

-- these pieces were read
abbrev pub invariant-pieces : goal.invariant-pieces
invariant-pieces l = record {
  read : List (List ℕ);
  now : l.x ≡ with_attributes l.fn.x (rising (from_list (map lowercase read)));
  goes_on : read_on attributes [] l.fn.x l.fn.pieces ≡ read_on attributes read l.fn.x l.pieces;
  rest : IsEnd l.pieces l.fn.pieces;
}

abbrev pub decreases-pieces : goal.decreases-pieces
decreases-pieces l = length l.pieces
