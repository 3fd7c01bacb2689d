use Rattle.icu_locale_core.specs.Identifier.{pieces}
use Rattle.icu_locale_extensions.proofs.Plain.{plain_alike, plain_spelled}
use Rattle.icu_locale_extensions.proofs.Refused.{plain_read}
use Rattle.icu_locale_extensions.proofs.laws.plain_texts_read_alike.Goals as goal

pub returns-clause-spelled : goal.returns-clause-spelled
returns-clause-spelled c = plain_spelled c.derived_is_read.ensures c.pieces_are_read.ensures.sound c.pieces_are_read.ensures.complete

pub returns-clause-equal : goal.returns-clause-equal
returns-clause-equal c = λ t none. plain_read (pieces t) none

pub returns-clause-alike : goal.returns-clause-alike
returns-clause-alike c = plain_alike c.derived_is_read.ensures c.pieces_are_read.ensures.sound c.pieces_are_read.ensures.complete
