use Rattle.std.proofs.Common.{subst}
use Rattle.std.specs.List.{All}
use Rattle.std.proofs.lemmas.List.{take_all}
use Rattle.std.proofs.lemmas.List.Elements.{All-more}
use Rattle.icu_locale_core.specs.Subtag.{IsVariant}
use Rattle.icu_locale_core.proofs.variants.know_each.Goals as goal

pub loop-variant-preserved : goal.loop-variant-preserved
loop-variant-preserved c = All-more IsVariant c.args.list.now c.loop-variant.variant-index c.variant-item.result c.loop-variant-test.true
    c.loop-variant.invariant (subst IsVariant c.variant-item.is c.as_str.ensures.known)

pub returns : goal.returns
returns c = subst (All IsVariant) (take_all c.loop-variant.variant-index c.args.list.now c.loop-variant-test.false) c.loop-variant.invariant
