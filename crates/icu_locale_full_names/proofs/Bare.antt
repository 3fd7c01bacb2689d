-- Names without further qualifiers.
use Rattle.std.proofs.Common.{◌≡◌, ◌∙◌, refl, ap, ℕ, List, [], ◌∷◌, ◌++◌, append-nil, map, None, Result, Ok, Err}
use Rattle.std.specs.List.{flat_map}
use Rattle.icu_provider.specs.Names.{PatternPart}
use Rattle.icu_provider.specs.declared.error.DataError.{DataError}
use Rattle.icu_provider.specs.declared.extension_names.ExtensionNames.{ExtensionNames}
use Rattle.icu_locale_core.specs.declared.langid.LanguageIdentifier.{LanguageIdentifier}
use Rattle.icu_locale_extensions.specs.Built.{bare}
use Rattle.icu_locale_extensions.specs.declared.identifier.LocaleIdentifier.{LocaleIdentifier}
use Rattle.icu_locale_names.specs.Chains.{made_of, and_then}
use Rattle.icu_locale_names.specs.LanguageChains.{LanguageChain}
use Rattle.icu_locale_names.specs.LanguageNames.{LocaleAnswers, NameParts, name_of, name_parts_of, glued, joined, filled, pieces_by_parts}
use Rattle.icu_locale_names.specs.declared.options.LanguageDisplay.{LanguageDisplay}
use Rattle.icu_locale_names.specs.Pieces.{Piece, plain}
use Rattle.icu_locale_full_names.specs.FullNames.{one_piece, joined_texts, glued_texts, full_name_of, full_pieces, further_texts}

joined_ones : (sep : List ℕ) (qs : List Piece) → joined_texts sep (map one_piece qs) ≡ joined sep qs
joined_ones sep [] = refl
joined_ones sep (q ∷ []) = refl
joined_ones sep (q ∷ r ∷ qs) = ap (λ t. q ∷ plain sep ∷ t) (joined_ones sep (r ∷ qs))

glued_ones : (base : Piece) (qs : List Piece) (pattern : List PatternPart) (sep : List ℕ)
    → glued_texts base (map one_piece qs) pattern sep ≡ glued base qs pattern sep
glued_ones base [] pattern sep = refl
glued_ones base (q ∷ qs) pattern sep = ap (λ t. flat_map (filled base t) pattern) (joined_ones sep (q ∷ qs))

pub bare_name : (base : NameParts) (names : ExtensionNames) (x : LocaleIdentifier) → further_texts names base.separator None x ≡ []
    → full_pieces base None names x ≡ pieces_by_parts base
bare_name base names x none =
    ap (λ ts. glued_texts base.base (map one_piece base.qualifiers ++ ts) base.pattern base.separator) none
    ∙ ap (λ ts. glued_texts base.base ts base.pattern base.separator) (append-nil (map one_piece base.qualifiers))
    ∙ glued_ones base.base base.qualifiers base.pattern base.separator

made_bare : (names : ExtensionNames) (x : LanguageIdentifier) (parts : Result NameParts DataError)
    → and_then parts (λ base. Ok (full_pieces base None names (bare x))) ≡ made_of pieces_by_parts parts
made_bare names x (Ok base) = ap (λ pieces. Ok pieces) (bare_name base names (bare x) refl)
made_bare names x (Err refusal) = refl

pub bare_identifier : (answers : LocaleAnswers) (chain : LanguageChain) (display : LanguageDisplay) (names : ExtensionNames) (x : LanguageIdentifier)
    → full_name_of answers chain display names (bare x) ≡ name_of answers chain display x
bare_identifier answers chain display names x = made_bare names x (name_parts_of answers chain display x)
