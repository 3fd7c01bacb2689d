use Rattle.icu_locale_extensions.specs.declared.syntax.Syntax.TheVariants.{Bcp47}
use Rattle.icu_locale_extensions.proofs.KnownTags.{known_read}
use Rattle.icu_locale_extensions.proofs.laws.known_tags_are_read.Goals as goal

pub returns : goal.returns
returns c = λ t none is. known_read (c.strict_texts_read_alike.ensures Bcp47) t none is
