use Rattle.std.proofs.Common.{◌≡◌, ◌∙◌, ◌||◌, ap, sym, true, false, not}
use Rattle.icu_locale_extensions.specs.Extensions.{any_piece}
use Rattle.icu_locale_extensions.specs.Rows.{flat}
use Rattle.icu_locale_extensions.proofs.Lowered.{some_told, some_row_told, any_piece-append}
use Rattle.icu_locale_extensions.proofs.identifier.has_unicode.Goals as goal

pub returns-then-not-is_empty : goal.returns-then-not-is_empty
returns-then-not-is_empty c =
    let x = c.args.x.now in
    let some : any_piece x.attributes ≡ true = sym (some_told _ x.attributes c.is_empty.ensures) ∙ ap not c.if-not-is_empty.true in
    ap not c.if-not-is_empty.true ∙ sym (any_piece-append x.attributes (flat x.locale.extensions.unicode.keywords)
    ∙ ap (λ b. b || any_piece (flat x.locale.extensions.unicode.keywords)) some)

pub returns-else-not-is_empty : goal.returns-else-not-is_empty
returns-else-not-is_empty c =
    let x = c.args.x.now in
    let none : any_piece x.attributes ≡ false = sym (some_told _ x.attributes c.is_empty.ensures) ∙ ap not c.if-not-is_empty.false in
    some_row_told _ x.locale.extensions.unicode.keywords c.is_empty-else-not-is_empty.ensures
    ∙ sym (any_piece-append x.attributes (flat x.locale.extensions.unicode.keywords)
    ∙ ap (λ b. b || any_piece (flat x.locale.extensions.unicode.keywords)) none)
