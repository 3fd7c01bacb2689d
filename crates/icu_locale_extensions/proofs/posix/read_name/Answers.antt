use Rattle.std.proofs.Common.{Ok, ap, subst, ◌∙◌}
use Rattle.icu_locale_extensions.specs.Built.{with_id}
use Rattle.icu_locale_extensions.specs.Syntaxes.{modified}
use Rattle.icu_locale_extensions.specs.laws.Reader.{ReadsAs}
use Rattle.icu_locale_extensions.specs.declared.syntax.Syntax.TheVariants.{Unicode}
use Rattle.icu_locale_extensions.proofs.Modifiers.{posix_read}
use Rattle.icu_locale_extensions.proofs.posix.read_name.Goals as goal

pub returns : goal.returns
returns c =
    let y = c.in_ok-whole.whole in
    let reads = subst (λ r. ReadsAs Unicode c.base.result.now r) c.in_ok-whole.was c.read_locale.ensures in
    posix_read c.args.text.now y _ (subst (λ b. ReadsAs Unicode b (Ok y)) c.base.ensures reads) c.known.ensures
    (ap (with_id y) (c.in_ok-modify.ensures.changed ∙ ap (λ m. modified m y.locale.id) c.modifier.ensures))
