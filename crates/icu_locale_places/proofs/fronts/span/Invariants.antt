use Rattle.std.proofs.Common.{◌≡◌, drop, take}
use Rattle.icu_locale_core.specs.Identifier.{pieces}
use Rattle.icu_locale_places.specs.inner.Spans.{spaced}
use Rattle.icu_locale_places.proofs.fronts.span.Given as goal

abbrev pub invariant-pieces : goal.invariant-pieces
invariant-pieces l = record {
  left : l.pieces ≡ drop l._before (pieces l.text);
  bytes : l.from ≡ spaced (take l._before (pieces l.text));
}
