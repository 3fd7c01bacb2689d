use Rattle.icu_locale_places.proofs.Bytes.{span_bytes}
use Rattle.icu_locale_places.proofs.Spans.{from_span}
use Rattle.icu_locale_places.proofs.laws.spans_are_pieces.Goals as goal

pub returns : goal.returns
returns c = λ t n start stop inside span. span_bytes t n start stop inside (from_span t n start stop span)
