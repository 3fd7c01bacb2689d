use Rattle.std.proofs.Common.{subst}
use Rattle.icu_locale_extensions.proofs.Marked.{written_parts}
use Rattle.icu_locale_extensions.proofs.identifier.LocaleIdentifier.write_to.Goals as goal

pub returns : goal.returns
returns g c =
    subst (λ t. g.S.TextSink.Writes c.args.sink.now t c.write_extensions.result c.write_extensions.new.sink) (written_parts c.args.self.now)
    (g.met.S.TextSink.further _ _ _ _ _ _ c.in_ok-write_to.ensures c.write_extensions.ensures)
