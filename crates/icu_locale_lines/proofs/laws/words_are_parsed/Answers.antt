use Rattle.icu_locale_lines.specs.laws.Grammar.{words_parsed}
use Rattle.icu_locale_lines.specs.laws.Words.{words_told}
use Rattle.icu_locale_lines.proofs.laws.words_are_parsed.Goals as goal

pub returns : goal.returns
returns c = record { parsed = words_parsed; told = words_told }
