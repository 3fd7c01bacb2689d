use Rattle.icu_locale_core.specs.Identifier.{pieces}
use Rattle.icu_locale_extensions.specs.Locales.{written}
use Rattle.icu_locale_extensions.proofs.KnownTags.{tag_read}
use Rattle.icu_locale_extensions.proofs.Tagged.{tagged}
use Rattle.icu_locale_extensions.proofs.laws.texts_are_tags.Goals as goal

pub returns-clause-derived : goal.returns-clause-derived
returns-clause-derived c = tagged

pub returns-clause-written : goal.returns-clause-written
returns-clause-written c = λ x known. tagged (pieces (written x)) x (c.written_spells.ensures x known)

pub returns-clause-read : goal.returns-clause-read
returns-clause-read c = λ t x none other no_root. tag_read t none other no_root x
