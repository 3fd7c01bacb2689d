use Rattle.icu_locale_core.specs.Identifier.{pieces}
use Rattle.icu_locale_extensions.proofs.Faults.{spelled_read}
use Rattle.icu_locale_extensions.proofs.Strict.{strict_alike}
use Rattle.icu_locale_extensions.proofs.laws.strict_texts_read_alike.Goals as goal

pub returns : goal.returns
returns c = λ s t x spells.
    (spelled_read c.derived_is_read.ensures s t x).1 (strict_alike s t x ((c.derived_is_read.ensures (pieces t) x).0 spells))
