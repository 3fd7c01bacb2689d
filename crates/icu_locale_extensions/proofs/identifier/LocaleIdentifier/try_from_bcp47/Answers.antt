use Rattle.icu_locale_extensions.specs.declared.syntax.Syntax.TheVariants.{Bcp47}
use Rattle.icu_locale_extensions.proofs.ByGrammar.{tag_read}
use Rattle.icu_locale_extensions.proofs.identifier.LocaleIdentifier.try_from_bcp47.Goals as goal

pub returns : goal.returns
returns c = (c.reading_is_by_the_grammar.ensures.reads Bcp47 c.args.text.now c.read_tag.result).1 (tag_read c.args.text.now c.read_tag.result c.read_tag.ensures)
