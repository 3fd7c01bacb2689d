use Rattle.std.proofs.Common.{◌∙◌, sym}
use Rattle.icu_locale_matching.specs.Header.{is_any, shown}
use Rattle.icu_locale_matching.proofs.Inserts.{any-map}
use Rattle.icu_locale_matching.proofs.header.some_any.Goals as goal

pub returns : goal.returns
returns c = c.any_of.ensures ∙ sym (any-map shown is_any c.args.wishes.now)
