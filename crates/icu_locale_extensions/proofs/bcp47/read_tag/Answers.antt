use Rattle.std.proofs.Common.{◌≡◌, ap, sym, subst, ◌∙◌, is_some}
use Rattle.std.specs.List.{after_first}
use Rattle.std.specs.Option.{option_copied}
use Rattle.icu_locale_core.specs.Identifier.{is_separator}
use Rattle.icu_locale_extensions.specs.laws.Reader.{ReadsAs}
use Rattle.icu_locale_extensions.specs.declared.syntax.Syntax.TheVariants.{Unicode}
use Rattle.icu_locale_core.specs.Identifier.{pieces_if_any}
use Rattle.icu_locale_extensions.proofs.Tags.{root_marks, tag_extended, tag_root}
use Rattle.icu_locale_extensions.proofs.bcp47.read_tag.Goals as goal

pub read_root-requires : goal.read_root-requires
read_root-requires c = root_marks c.cut.result.0.now c.cut.result.1 (sym c.is_root.ensures ∙ c.if-is_root.true)

pub returns-then-is_root : goal.returns-then-is_root
returns-then-is_root c =
    let first = c.cut.result.0.now in
    let behind = c.cut.result.1 in
    subst (λ t. ReadsAs Unicode t c.read_root.result)
    (tag_root c.args.text.now first behind c.cut.ensures.pieces c.cut.ensures.behind (sym c.preferred.ensures ∙ ap option_copied c.in_default.is)
    (sym c.is_named.ensures ∙ c.if-is_named.false) (sym c.is_root.ensures ∙ c.if-is_root.true))
    c.read_root.ensures

pub returns-in-Some-without_prefix : goal.returns-in-Some-without_prefix
returns-in-Some-without_prefix c =
    let first = c.cut.result.0.now in
    let behind = c.cut.result.1 in
    let tag = c.in-Some-without_prefix.tag.now in
    let there : tag ≡ after_first is_separator c.args.text.now = rw c.in-Some-without_prefix.ensures.same at c.cut.ensures.behind in
    subst (λ t. ReadsAs Unicode t c.read_locale-in-Some-without_prefix.result)
    (there ∙ tag_extended c.args.text.now first (pieces_if_any behind) c.cut.ensures.pieces (sym c.preferred.ensures ∙ ap option_copied c.in_default.is)
    (sym c.is_named.ensures ∙ c.if-is_named.false) (sym c.is_root.ensures ∙ c.if-is_root.false) (sym c.without_prefix.ensures.told ∙ ap is_some c.in-Some-without_prefix.is))
    c.read_locale-in-Some-without_prefix.ensures
