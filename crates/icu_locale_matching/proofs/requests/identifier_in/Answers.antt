use Rattle.std.proofs.Common.{refl}
use Rattle.icu_locale_extensions.specs.Built.{bare}
use Rattle.icu_locale_extensions.specs.declared.syntax.Syntax.TheVariants.{Bcp47}
use Rattle.icu_locale_matching.proofs.requests.identifier_in.Goals as goal

pub returns-in-Ok : goal.returns-in-Ok
returns-in-Ok c =
    let id = c.in-Ok.id in
    let read = c.in-Ok.ensures.found in
    record {
      tag = bare id;
      is = (c.identifiers_read_alike.ensures.known id read.0, c.identifiers_read_alike.ensures.alike Bcp47 c.args.range.now id read.0 read.1);
      plain = λ _. refl;
      at = refl;
    }
