-- The parts of a name of an identifier, as the code has them.
use Rattle.std.specs.Prelude.{◌≡◌, ◌⊎◌, ℕ, Bool, if◌then◌else◌, IsTrue, List, [], ◌∷◌, map, None, Result, Err}
use Rattle.icu_locale_core.specs.declared.langid.LanguageIdentifier.{LanguageIdentifier}
use Rattle.icu_provider.specs.declared.data_locale.DataLocale.{DataLocale}
use Rattle.icu_provider.specs.declared.error.DataError.{DataError}
use Rattle.icu_provider.specs.declared.error.DataErrorKind.TheVariants.{Memory}
use Rattle.icu_provider.specs.declared.names.NameKey.{NameKey}
use Rattle.icu_provider.specs.declared.names.NameKey.TheVariants.{Language}
use Rattle.icu_provider.specs.declared.names.NameMarker.{NameMarker}
use Rattle.icu_locale_names.specs.Chains.{or_next, first_hit, made_of, if_missing}
use Rattle.icu_locale_names.specs.LanguageChains.{LanguageChain}
use Rattle.icu_locale_names.specs.LanguageNames.{Base, KeyParts, menu_base, text_base, raw_base, are_many}
use Rattle.icu_locale_names.specs.Names.{Answers, MenuAnswers, name_by, menu_by}
use Rattle.icu_locale_names.specs.Pieces.{Piece, plain, raw_subtag}
use Rattle.icu_locale_names.specs.declared.language.base.Base as code
use Rattle.icu_locale_names.specs.declared.name_chain.Chains.{Chains}
use Rattle.icu_locale_names.specs.declared.language.variants.VariantNames.{VariantNames}
use Rattle.icu_locale_names.specs.LentNames.{variant_list}
use Rattle.icu_locale_names.specs.Shown.{piece_of, text_pieces}

-- the chains that a constant lends
abbrev pub chains_of : Chains → LanguageChain
chains_of chains = record {
  menu = chains.menu.now;
  text = chains.text.now;
  script = chains.script.now;
  region = chains.region.now;
}

-- a base as it is shown
abbrev pub shown_base : code.Base → Base
shown_base b = record {
  piece = piece_of b.shown;
  extension = text_pieces b.extension;
  script = b.script;
  region = b.region;
}

-- the name of a subtag by the first marker of a chain that has one, or the raw subtag
abbrev pub name_asked : {S : Type 0} → Answers → DataLocale → (S → List ℕ) → (S → NameKey)
    → List NameMarker → S → Result Piece DataError
name_asked name locale text key chain subtag =
    if_missing (raw_subtag (text subtag)) (made_of plain (name_by name locale (key subtag) chain))

-- a key with the script or without it, and with the region or without it
abbrev pub key_with : LanguageIdentifier → Bool × Bool → KeyParts
key_with x has =
    (if has.0 then x.script else None, if has.1 then x.region else None)

-- what a chain of texts answers to a key
abbrev pub key_asked : Answers → DataLocale → List NameMarker → LanguageIdentifier
    → KeyParts → Result Base DataError
key_asked name locale chain x key =
    made_of (text_base x key) (name_by name locale (Language x.language key.0 key.1) chain)

-- what it answers to keys in their order
abbrev pub keys_asked : Answers → DataLocale → List NameMarker → LanguageIdentifier
    → List (Bool × Bool) → Result Base DataError
keys_asked name locale chain x keys =
    first_hit (λ has. key_asked name locale chain x (key_with x has)) keys

-- what the menus answer, and then the texts, or the raw language
abbrev pub base_asked : Answers → MenuAnswers → DataLocale → LanguageChain → LanguageIdentifier
    → List (Bool × Bool) → Result Base DataError
base_asked name menu locale chain x keys =
    if_missing (raw_base x)
    (or_next (made_of (menu_base x) (menu_by menu locale x.language chain.menu))
    (keys_asked name locale chain.text x keys))

-- the names of variants as pieces
abbrev pub variant_pieces : VariantNames → List Piece
variant_pieces names = map piece_of (variant_list names)

-- memory was lacking
abbrev pub IsMemory : {A : Type 0} → Result A DataError → Type 0
IsMemory made = made ≡ Err (record { kind = Memory })

-- what was made of variants is this, or memory was lacking for two or more
abbrev pub IsThisOrMemory : {A : Type 0} → List (List ℕ) → Result A DataError
    → Result A DataError → Type 0
IsThisOrMemory subtags this made = (made ≡ this) ⊎ (IsTrue (are_many subtags) × IsMemory made)
