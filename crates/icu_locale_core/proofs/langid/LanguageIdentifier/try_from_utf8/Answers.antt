use Rattle.std.proofs.Common.{rules}
use Rattle.icu_locale_core.proofs.Readings.{found_from_read, only_from_read, subtag_from_read}
use Rattle.icu_locale_core.proofs.langid.LanguageIdentifier.try_from_utf8.Goals as goal

pub returns : goal.returns
returns c =
    let read = rw c.new.ensures at c.read_identifier.ensures.read in
    record {
      found = found_from_read c.args.text.now c.read_identifier.result read;
      only = only_from_read c.args.text.now c.read_identifier.result read;
      language = search rules;
      subtag = subtag_from_read c.args.text.now c.read_identifier.result read;
      memory = search rules;
    }
