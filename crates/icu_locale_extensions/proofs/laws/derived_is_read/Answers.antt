use Rattle.std.proofs.Common.{◌≡◌, ℕ, List, Ok, sym, ◌∙◌, subst}
use Rattle.icu_locale_extensions.specs.Built.{bare}
use Rattle.icu_locale_extensions.specs.declared.identifier.LocaleIdentifier.{LocaleIdentifier}
use Rattle.icu_locale_extensions.specs.Grammar.{IsLocaleId, locale_id, add_all, add_private_use}
use Rattle.icu_locale_extensions.specs.laws.Reader.{read}
use Rattle.icu_locale_extensions.proofs.Derived.{locale_read}
use Rattle.icu_locale_extensions.proofs.Fresh.{fresh_different}
use Rattle.icu_locale_extensions.proofs.LanguageIds.{language_ids_read}
use Rattle.icu_locale_extensions.proofs.Parsed.{locale_parsed}
use Rattle.icu_locale_extensions.proofs.laws.derived_is_read.Goals as goal

derived_read : (ps : List (List ℕ)) (x : LocaleIdentifier) → IsLocaleId ps x → read ps ≡ Ok x
derived_read ps x (locale_id i e p l es o id ext different pu) = locale_read language_ids_read i e p l es o id ext (fresh_different l e es ext ∙ different) pu

read_derived : (ps : List (List ℕ)) (x : LocaleIdentifier) → read ps ≡ Ok x → IsLocaleId ps x
read_derived ps x is =
    let r = locale_parsed ps x is in
    let y = add_private_use (add_all (bare r.l) r.meanings) r.private in
    subst (λ y. IsLocaleId ps y) r.is (subst (λ qs. IsLocaleId qs y) r.parts
    (locale_id r.id r.own r.last r.l r.meanings r.private r.identifier r.derived (sym (fresh_different r.l r.own r.meanings r.derived) ∙ r.fresh) r.ending))

pub returns : goal.returns
returns c = λ ps x. (derived_read ps x, read_derived ps x)
