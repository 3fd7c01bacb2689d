use Rattle.icu_locale_full_names.proofs.Spans.{raw_by_spans}
use Rattle.icu_locale_full_names.proofs.laws.raw_parts_have_spans.Goals as goal

pub returns : goal.returns
returns c = λ pieces. raw_by_spans pieces (c.report_and_spans_agree.ensures pieces)
