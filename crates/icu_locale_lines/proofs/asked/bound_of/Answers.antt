use Rattle.std.proofs.Common.{◌∙◌}
use Rattle.std.specs.Str.Parse.{without_leading_plus}
use Rattle.icu_locale_lines.proofs.Grammar.{number_parsed}
use Rattle.icu_locale_lines.proofs.asked.bound_of.Goals as goal

pub returns : goal.returns
returns c = c.ok.ensures.value ∙ number_parsed 64 (without_leading_plus c.args.text.now) c.parse.result c.parse.ensures.value.0
