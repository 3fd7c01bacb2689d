use Rattle.std.proofs.Common.{◌≡◌, ◌++◌, ◌∙◌, ap, sym, false}
use Rattle.std.specs.Option.{is_some}
use Rattle.icu_locale_extensions.specs.Extensions.{any_piece}
use Rattle.icu_locale_extensions.specs.Rows.{flat}
use Rattle.icu_locale_extensions.proofs.Lowered.{some_row_told, no_language}
use Rattle.icu_locale_extensions.proofs.identifier.has_transform.Goals as goal

pub returns-else-is_some : goal.returns-else-is_some
returns-else-is_some c =
    let x = c.args.x.now in
    let none : is_some x.locale.extensions.transform.lang ≡ false = cc (c.is_some.ensures, c.if-is_some.false) in
    some_row_told _ x.fields c.is_empty.ensures ∙ ap (λ ps. any_piece (ps ++ flat x.fields)) (sym (no_language x.locale.extensions.transform.lang none))
