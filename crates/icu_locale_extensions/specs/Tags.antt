-- Tags of BCP 47 that are well-formed (RFC 5646, section 2.1), over the subtags of a text, each production with what it
-- means: a constructor for each production, and before it the production. Legacy tags and private use alone are apart.
use Rattle.std.specs.Prelude.{◌≡◌, ◌≤◌, ℕ, Bool, true, not, ◌&&◌, ◌||◌, codes, filter, map, List, [], ◌∷◌, ◌++◌, length, Option, unwrap_or}
use Rattle.icu_locale_core.specs.Subtag.{has_length, is_alphabetic, is_alphanumeric, is_language, is_region, is_script, is_variant, lowercase, titlecase, uppercase}
use Rattle.icu_locale_core.specs.TextSet.{from_list, text_cmp}
use Rattle.icu_locale_core.specs.Maps.{FindsAlike}
use Rattle.icu_locale_core.specs.laws.Identifiers.{same_text}
use Rattle.icu_locale_core.specs.Cuts.{Block}
use Rattle.icu_locale_extensions.specs.Extensions.{is_piece, is_singleton, is_x}
use Rattle.icu_locale_extensions.specs.Grammar.{One, AtMostOne, AnyNumber, AtLeastOne, IsPrivateUse, IsExtension, Meaning, are_different, singleton}
use Rattle.icu_locale_extensions.specs.Syntaxes.{is_registered}
use Rattle.icu_locale_extensions.specs.declared.identifier.LocaleIdentifier.{LocaleIdentifier}

-- low to high letters
abbrev pub are_letters : ℕ → ℕ → List ℕ → Bool
are_letters low high p = has_length low high p && is_alphabetic p

-- extlang = 3ALPHA *2("-" 3ALPHA)
pub data IsExtlang : List (List ℕ) → List (List ℕ) → Type 0 where
  extlang : (ps vs : List (List ℕ)) → AtLeastOne (One (are_letters 3 3) lowercase) ps vs
      → length vs ≤ 3 → IsExtlang ps vs

-- language = 2*3ALPHA ["-" extlang] / 4ALPHA / 5*8ALPHA
pub data IsTagLanguage : List (List ℕ) → List (List ℕ) → Type 0 where
  shortest : (language extended : List (List ℕ)) (l : List ℕ) (o : Option (List (List ℕ)))
      → One (are_letters 2 3) lowercase language l → AtMostOne IsExtlang extended o
      → IsTagLanguage (language ++ extended) (l ∷ unwrap_or o [])
  reserved : (language : List (List ℕ)) (l : List ℕ)
      → One (are_letters 4 4) lowercase language l → IsTagLanguage language (l ∷ [])
  registered : (language : List (List ℕ)) (l : List ℕ)
      → One (are_letters 5 8) lowercase language l → IsTagLanguage language (l ∷ [])

-- singleton = DIGIT / %x41-57 / %x59-5A / %x61-77 / %x79-7A: a letter or digit, but x
abbrev pub is_tag_singleton : List ℕ → Bool
is_tag_singleton p = (is_singleton p && is_alphanumeric p) && not (is_x p)

-- extension = singleton 1*("-" (2*8alphanum))
pub data IsTagExtension : List (List ℕ) → Block → Type 0 where
  extension : (singleton pieces : List (List ℕ)) (s : List ℕ) (vs : List (List ℕ))
      → One is_tag_singleton lowercase singleton s
      → AtLeastOne (One (is_piece 2) lowercase) pieces vs
      → IsTagExtension (singleton ++ pieces) (s, vs)

-- the parts of a tag
pub record Tag : Type 0 where
  pub language : List (List ℕ)
  pub script : Option (List ℕ)
  pub region : Option (List ℕ)
  pub variants : List (List ℕ)
  pub extensions : List Block
  pub private_use : Option (List (List ℕ))

-- langtag = language ["-" script] ["-" region] *("-" variant) *("-" extension) ["-" privateuse]
pub data IsLangtag : List (List ℕ) → Tag → Type 0 where
  langtag : (language script region variants extensions private_use : List (List ℕ)) (tag : Tag)
      → IsTagLanguage language tag.language
      → AtMostOne (One is_script titlecase) script tag.script
      → AtMostOne (One is_region uppercase) region tag.region
      → AnyNumber (One is_variant lowercase) variants tag.variants
      → AnyNumber IsTagExtension extensions tag.extensions
      → AtMostOne IsPrivateUse private_use tag.private_use
      → IsLangtag
      (language ++ (script ++ (region ++ (variants ++ (extensions ++ private_use))))) tag

-- the language that those of a tag name: its only one, or an extended one that is registered with the prefix before it
-- (section 4.5)
abbrev pub NamesLanguage : List (List ℕ) → List ℕ → Type 0
NamesLanguage (l ∷ []) m = l ≡ m
NamesLanguage (p ∷ l ∷ []) m = (is_registered p l ≡ true) × (l ≡ m)
NamesLanguage ls m = ⊥

-- an extension that UTS #35 gives no meaning: not that of `u` or `t`
abbrev pub is_apart : Block → Bool
is_apart row = not (same_text row.0 (codes "u") || same_text row.0 (codes "t"))

-- pieces are a well-formed tag with the language, script, region, variants, private use and other extensions of x
pub record IsTagOf (ps : List (List ℕ)) (x : LocaleIdentifier) : Type 0 where
  pub tag : Tag
  pub well_formed : IsLangtag ps tag
  pub language : NamesLanguage tag.language x.locale.id.language
  pub script : tag.script ≡ x.locale.id.script
  pub region : tag.region ≡ x.locale.id.region
  pub variants : from_list tag.variants ≡ x.locale.id.variants
  pub private_use : tag.private_use ≡ x.private_use
  pub others : FindsAlike text_cmp (filter is_apart tag.extensions) x.others

-- pieces are a tag that can be read: its language has two or three letters, or is registered with a prefix that has; no
-- variant and no singleton comes twice; what `u`, `t` and other singletons begin is by UTS #35
pub data IsKnownTag : List (List ℕ) → Type 0 where
  known : (language script region variants extensions private_use : List (List ℕ))
      (ls : List (List ℕ)) (l : List ℕ) (s r : Option (List ℕ)) (vs : List (List ℕ))
      (es : List Meaning) (o : Option (List (List ℕ)))
      → IsTagLanguage language ls → NamesLanguage ls l → is_language l ≡ true
      → AtMostOne (One is_script titlecase) script s
      → AtMostOne (One is_region uppercase) region r
      → AnyNumber (One is_variant lowercase) variants vs → are_different vs ≡ true
      → AnyNumber IsExtension extensions es → are_different (map singleton es) ≡ true
      → AtMostOne IsPrivateUse private_use o
      → IsKnownTag (language ++ (script ++ (region ++ (variants ++ (extensions ++ private_use)))))
