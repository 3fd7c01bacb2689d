use Rattle.std.proofs.Common.{ap, ◌∙◌}
use Rattle.icu_locale_core.specs.Identifier.{pieces}
use Rattle.icu_locale_places.proofs.Bytes.{span_front, span_within}
use Rattle.icu_locale_places.proofs.fronts.front.Goals as goal

pub split_at-requires : goal.split_at-requires
split_at-requires c = span_within c.args.text.now c.args.piece c.span-to.result.0 c.span-to.result.1 c.requires c.span-to.ensures

pub returns : goal.returns
returns c = ap pieces c.split_at.ensures.front
    ∙ span_front c.args.text.now c.args.piece c.span-to.result.0 c.span-to.result.1 c.requires c.span-to.ensures
