use Rattle.std.proofs.Common.{◌≡◌, ◌∷◌, ◌&&◌, codes, true, ap, sym, ◌∙◌}
use Rattle.icu_locale_core.specs.Identifier.{pieces}
use Rattle.icu_locale_core.specs.Subtag.{lowercase}
use Rattle.icu_locale_core.specs.laws.Identifiers.{same_text}
use Rattle.icu_locale_extensions.specs.Extensions.{is_singleton}
use Rattle.icu_locale_extensions.specs.laws.Reader.{first_is}
use Rattle.icu_locale_extensions.specs.Syntaxes.{is_root}
use Rattle.icu_locale_core.specs.Identifier.{pieces_if_any}
use Rattle.icu_locale_extensions.proofs.Spellings.{any_piece-pieces}
use Rattle.icu_locale_extensions.proofs.Tags.{root_before}
use Rattle.icu_locale_extensions.proofs.bcp47.is_root.Goals as goal

pub returns-then-is_spelled : goal.returns-then-is_spelled
returns-then-is_spelled c =
    let first = c.args.first.now in
    let rest = c.in-Some.rest.now in
    let named : same_text (lowercase first) (codes "root") ≡ true = sym c.is_spelled.ensures ∙ c.if-is_spelled.true in
    c.is_singleton.ensures
    ∙ sym (ap (λ o. is_root (first ∷ pieces_if_any o)) c.in-Some.is ∙ root_before first (pieces rest) (any_piece-pieces rest)
    ∙ ap (λ b. b && first_is is_singleton (pieces rest)) named)
