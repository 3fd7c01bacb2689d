use Rattle.icu_locale_extensions.specs.Locales.{written}
use Rattle.icu_locale_extensions.proofs.laws.written_reads_back.Goals as goal

pub returns : goal.returns
returns c = λ s x r known reads. reads.only x (c.strict_texts_read_alike.ensures s (written x) x (c.written_spells.ensures x known))
