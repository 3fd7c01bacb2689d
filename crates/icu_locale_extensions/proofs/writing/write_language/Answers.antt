use Rattle.std.proofs.Common.{◌++◌, ◌∙◌, codes, subst, ap, sym, Ok}
use Rattle.icu_locale_core.specs.Subtag.{lowercase}
use Rattle.icu_locale_core.specs.laws.Classes.{part_language}
use Rattle.icu_locale_core.specs.laws.TextSinks.{refused_later}
use Rattle.icu_locale_extensions.specs.Locales.{lower_subtags}
use Rattle.icu_locale_extensions.specs.Rows.{dashed}
use Rattle.icu_locale_extensions.proofs.Marked.{dashed_lower}
use Rattle.icu_locale_extensions.proofs.writing.write_language.Goals as goal

pub write_lower-requires : goal.write_lower-requires
write_lower-requires g c = rw (c.as_bytes.ensures.value, c.as_str.ensures.text) (part_language c.in-Some.lang.language c.as_str.ensures.known.member).plain

pub returns-in_err-write_script : goal.returns-in_err-write_script
returns-in_err-write_script g c =
    refused_later g.S.TextSink.Writes g.met.S.TextSink.further g.met.S.TextSink.broken _ _ _ _ _ _ _ _ c.in_ok-write_lower.ensures c.in_err-write_script.ensures c.from_residual-in_err-write_script.ensures.0

pub returns-in_err-write_region : goal.returns-in_err-write_region
returns-in_err-write_region g c =
    refused_later g.S.TextSink.Writes g.met.S.TextSink.further g.met.S.TextSink.broken _ _ _ _ _ _ _ _ (g.met.S.TextSink.further _ _ _ _ _ _ c.in_ok-write_lower.ensures c.in_ok-write_script.ensures)
    c.in_err-write_region.ensures c.from_residual-in_err-write_region.ensures.0

pub returns : goal.returns
returns g c =
    let first = subst (λ l. g.S.TextSink.Writes c.args.sink.now (codes "-" ++ lowercase l) (Ok tt) c.write_lower.new.sink)
    (c.as_bytes.ensures.value ∙ c.as_str.ensures.text) c.in_ok-write_lower.ensures in
    let all = dashed_lower c.in-Some.lang ∙ ap (λ o. dashed (lower_subtags o)) (sym c.in-Some.is) in
    subst (λ t. g.S.TextSink.Writes c.args.sink.now t c.write_variants.result c.write_variants.new.sink) all
    (g.met.S.TextSink.further _ _ _ _ _ _ first (g.met.S.TextSink.further _ _ _ _ _ _ c.in_ok-write_script.ensures
    (g.met.S.TextSink.further _ _ _ _ _ _ c.in_ok-write_region.ensures c.write_variants.ensures)))
