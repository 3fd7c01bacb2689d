use Rattle.icu_locale_validity.proofs.WholeLaws.{valid_parts}
use Rattle.icu_locale_validity.proofs.laws.valid_by_parts.Goals as goal

pub returns : goal.returns
returns c = valid_parts
