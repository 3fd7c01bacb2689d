use Rattle.icu_locale_core.specs.Identifier.{pieces}
use Rattle.icu_locale_extensions.specs.Locales.{written}
use Rattle.icu_locale_extensions.proofs.Written.{written_read}
use Rattle.icu_locale_extensions.proofs.laws.written_spells.Goals as goal

pub returns : goal.returns
returns c = λ x known. (c.derived_is_read.ensures (pieces (written x)) x).1 (written_read c.pieces_are_read.ensures.complete x known)
