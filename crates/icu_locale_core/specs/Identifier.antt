-- Identifiers and their texts (UTS #35 Part 1, section 3.1, unicode_language_id), and why a text is refused.
use Rattle.std.specs.Prelude.{◌≡◌, ◌⊎◌, ◌↔◌, ℕ, Bool, ◌||◌, ◌==◌, true, false, IsTrue, codes, List, [], ◌∷◌, ◌++◌, length, slice_index_or, map}
use Rattle.std.specs.Prelude.{IfSome, Option, Some, None, Result, Ok, Err, IfOk}
use denote.Ref.{Bor}
use Rattle.std.specs.Option.{option_to_list}
use Rattle.std.specs.List.{slice_split, list_any, join_by}
use Rattle.icu_locale_core.specs.Subtag.{is_language, is_variant, lowercase, IsLanguage, IsScript, IsRegion, IsVariant}
use Rattle.icu_locale_core.specs.TextSet.{TextSet, from_list, contains, rising, len}
use Rattle.icu_locale_core.specs.declared.langid.LanguageIdentifier.{LanguageIdentifier}
use Rattle.icu_locale_core.specs.declared.parse_error.ParseError.{ParseError}
use Rattle.icu_locale_core.specs.declared.parse_error.ParseError.TheVariants.{InvalidLanguage, InvalidSubtag, Memory}

-- `-`, which is 45, and `_`, which is 95
abbrev pub is_separator : ℕ → Bool
is_separator c = (c == 45) || (c == 95)

-- a text cut at every separator
abbrev pub pieces : List ℕ → List (List ℕ)
pieces t = slice_split is_separator t

-- those of a text, none if it is absent
abbrev pub pieces_if_any : Option (Bor (List ℕ)) → List (List ℕ)
pieces_if_any None = []
pieces_if_any (Some t) = pieces t.now

-- each subtag belongs to its class and is in its written case
pub record IsIdentifier (x : LanguageIdentifier) : Type 0 where
  pub language : IsLanguage x.language
  pub script : IfSome x.script IsScript
  pub region : IfSome x.region IsRegion
  pub variants : (v : List ℕ) → contains x.variants v ≡ true → IsVariant v

-- the subtags of x, with its variants in a given order
abbrev pub subtags : LanguageIdentifier → List (List ℕ) → List (List ℕ)
subtags x variants = x.language ∷ (option_to_list x.script ++ (option_to_list x.region ++ variants))

-- a list that has each member of a set once, in some order
pub record Lists (ts : List (List ℕ)) (s : TextSet) : Type 0 where
  pub members : from_list ts ≡ s
  pub once : length ts ≡ len s

-- t, cut at every separator, is the language of x, then its script if any, its region if any, and
-- each variant once in any order, case aside
pub record Spells (t : List ℕ) (x : LanguageIdentifier) : Type 0 where
  pub order : List (List ℕ)
  pub lists : Lists order x.variants
  pub same : map lowercase (pieces t) ≡ map lowercase (subtags x order)

-- the one spelling in written case, with the variants rising
abbrev pub written : LanguageIdentifier → List ℕ
written x = join_by (λ t. t) (codes "-") (subtags x (rising x.variants))

-- the first piece of a text is a language
abbrev pub starts_with_language : List ℕ → Bool
starts_with_language t = is_language (slice_index_or (pieces t) 0 [])

-- some piece of a text is a variant
abbrev pub has_variant : List ℕ → Bool
has_variant t = list_any is_variant (pieces t)

-- x was read, or memory was refused
abbrev pub IsOkUnlessMemory : Result LanguageIdentifier ParseError → LanguageIdentifier → Type 0
IsOkUnlessMemory r x = (r ≡ Ok x) ⊎ (r ≡ Err Memory)

-- reading t gives the identifier that it spells; a text that spells none is refused for its first
-- piece where that is no language, else for another; memory is asked for variants alone
pub record ReadsIdentifier (t : List ℕ) (result : Result LanguageIdentifier ParseError)
    : Type 0 where
  pub found : IfOk result (λ x. IsIdentifier x × Spells t x)
  pub only : (x : LanguageIdentifier) → IsIdentifier x → Spells t x → IsOkUnlessMemory result x
  pub language : (result ≡ Err InvalidLanguage) ↔ (starts_with_language t ≡ false)
  pub subtag : result ≡ Err InvalidSubtag
      → (x : LanguageIdentifier) → IsIdentifier x → ¬ (Spells t x)
  pub memory : result ≡ Err Memory → IsTrue (has_variant t)

-- what Display writes
abbrev pub parse_error_name : ParseError → List ℕ
parse_error_name InvalidLanguage = codes "InvalidLanguage"
parse_error_name InvalidSubtag = codes "InvalidSubtag"
parse_error_name Memory = codes "Memory"
