use Rattle.std.proofs.Common.{◌++◌, ◌∙◌, codes, subst, ap}
use Rattle.icu_locale_extensions.proofs.Dashes.{dashed_pieces}
use Rattle.icu_locale_extensions.proofs.texts.SubtagsRowValue.write_pieces.Goals as goal

pub returns : goal.returns
returns g c =
    let text = ap (λ t. codes "-" ++ t) c.as_str.ensures.text ∙ dashed_pieces _ c.as_str.ensures.known.some in
    subst (λ t. g.S.TextSink.Writes c.args.sink.now t c.write_after_dash.result c.write_after_dash.new.sink) text c.write_after_dash.ensures
