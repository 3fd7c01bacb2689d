-- Whether there is a piece.
use Rattle.std.proofs.Common.{◌≡◌, ℕ, Bool, true, false, not, ◌||◌, List, [], ◌∷◌, ◌++◌, Option, None, Some}
use Rattle.std.proofs.Common.{IsTrue, ◌↔◌, refl, ap, sym}
use Rattle.std.specs.Option.{is_some}
use Rattle.std.proofs.lemmas.Bool.{false≢true}
use Rattle.icu_locale_core.specs.declared.langid.LanguageIdentifier.{LanguageIdentifier}
use Rattle.icu_locale_core.specs.Cuts.{Block}
use Rattle.icu_locale_extensions.specs.Extensions.{any_piece}
use Rattle.icu_locale_extensions.specs.Locales.{lower_subtags}
use Rattle.icu_locale_extensions.specs.Rows.{flat}

pub any_piece-append : (ps qs : List (List ℕ)) → any_piece (ps ++ qs) ≡ (any_piece ps || any_piece qs)
any_piece-append [] qs = refl
any_piece-append (p ∷ ps) qs = refl

-- a test for nothing tells that there is no piece
pub some_told : (b : Bool) (ps : List (List ℕ)) → (IsTrue b) ↔ (ps ≡ []) → not b ≡ any_piece ps
some_told true ps told = sym (ap any_piece (told.0 refl))
some_told false [] told = absurd (false≢true (told.1 refl))
some_told false (p ∷ ps) told = refl

pub some_row_told : (b : Bool) (rows : List Block) → (IsTrue b) ↔ (rows ≡ []) → not b ≡ any_piece (flat rows)
some_row_told true rows told = sym (ap (λ r. any_piece (flat r)) (told.0 refl))
some_row_told false [] told = absurd (false≢true (told.1 refl))
some_row_told false (row ∷ rows) told = refl

pub no_language : (lang : Option LanguageIdentifier) → is_some lang ≡ false → lower_subtags lang ≡ []
no_language None none = refl
no_language (Some l) none = absurd (false≢true (sym none))
