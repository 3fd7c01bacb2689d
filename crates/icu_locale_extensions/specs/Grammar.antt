-- The grammar of locale identifiers as the standard writes it (UTS #35 Part 1, sections 3.1 and 3.2), over the subtags
-- of a text, each production with what it means: a constructor for each production, and before it the production.
use Rattle.std.specs.Prelude.{◌≡◌, ℕ, Bool, true, not, ◌&&◌, List, [], ◌∷◌, ◌++◌, map, filter, codes, Option, None, Some, unwrap_or}
use Rattle.std.specs.List.{list_any}
use Rattle.icu_locale_core.specs.Identifier.{pieces}
use Rattle.icu_locale_core.specs.Subtag.{is_language, is_script, is_region, is_variant, is_key, lowercase, titlecase, uppercase}
use Rattle.icu_locale_core.specs.Maps.{add_first}
use Rattle.icu_locale_core.specs.TextSet.{from_list, rising, text_cmp}
use Rattle.icu_locale_core.specs.Value.{is_true}
use Rattle.icu_locale_core.specs.declared.langid.LanguageIdentifier.{LanguageIdentifier}
use Rattle.icu_locale_core.specs.laws.Identifiers.{same_text}
use Rattle.icu_locale_core.specs.Cuts.{Block}
use Rattle.icu_locale_extensions.specs.Extensions.{is_u, is_t, is_x, is_other_singleton, is_tkey, is_piece}
use Rattle.icu_locale_extensions.specs.Built.{bare, with_attributes, with_keywords, with_language, with_fields, with_others, with_private_use}
use Rattle.icu_locale_extensions.specs.declared.identifier.LocaleIdentifier.{LocaleIdentifier}

-- ---- how the right side of a production is written

-- one subtag of a class, as `alphanum{3,8}`; it means its written case
pub data One (is_member : List ℕ → Bool) (write : List ℕ → List ℕ)
    : List (List ℕ) → List ℕ → Type 0 where
  one : (p : List ℕ) → is_member p ≡ true → One is_member write (p ∷ []) (write p)

-- `a?`: at most one
pub data AtMostOne {V : Type 0} (P : List (List ℕ) → V → Type 0)
    : List (List ℕ) → Option V → Type 0 where
  absent : AtMostOne P [] None
  present : (ps : List (List ℕ)) (v : V) → P ps v → AtMostOne P ps (Some v)

-- `a*`: any number, one after another
pub data AnyNumber {V : Type 0} (P : List (List ℕ) → V → Type 0)
    : List (List ℕ) → List V → Type 0 where
  done : AnyNumber P [] []
  next : (ps qs : List (List ℕ)) (v : V) (vs : List V) → P ps v → AnyNumber P qs vs
      → AnyNumber P (ps ++ qs) (v ∷ vs)

-- `a+`: at least one
pub data AtLeastOne {V : Type 0} (P : List (List ℕ) → V → Type 0)
    : List (List ℕ) → List V → Type 0 where
  first : (ps qs : List (List ℕ)) (v : V) (vs : List V) → P ps v → AnyNumber P qs vs
      → AtLeastOne P (ps ++ qs) (v ∷ vs)

-- none comes twice: what the standard says in words of variants and of singletons (sections 3.1 and 3.2)
abbrev pub are_different : List (List ℕ) → Bool
are_different [] = true
are_different (p ∷ ps) = not (list_any (same_text p) ps) && are_different ps

-- ---- identifiers

-- unicode_language_id = language script? region? variant*, no variant twice (section 3.1)
pub data IsLanguageId : List (List ℕ) → LanguageIdentifier → Type 0 where
  language_id : (language script region variants : List (List ℕ)) (l : List ℕ)
      (s r : Option (List ℕ)) (vs : List (List ℕ))
      → One is_language lowercase language l → AtMostOne (One is_script titlecase) script s
      → AtMostOne (One is_region uppercase) region r → AnyNumber (One is_variant lowercase) variants vs
      → are_different vs ≡ true
      → IsLanguageId (language ++ (script ++ (region ++ variants)))
      (record { language = l; script = s; region = r; variants = from_list vs })

-- ---- extensions

-- what an extension means
pub data Meaning : Type 0 where
  unicode_of : (attributes : List (List ℕ)) (keywords : List Block) → Meaning
  transform_of : (language : Option LanguageIdentifier) (fields : List Block) → Meaning
  other_of : (mark : List ℕ) (pieces : List (List ℕ)) → Meaning

-- type = alphanum{3,8}+ (section 3.2)
abbrev pub IsTypes : List (List ℕ) → List (List ℕ) → Type 0
IsTypes = AtLeastOne (One (is_piece 3) lowercase)

-- keyword = key type? (section 3.2); a piece `true` is not kept (section 3.2.1)
pub data IsKeyword : List (List ℕ) → Block → Type 0 where
  keyword : (key types : List (List ℕ)) (k : List ℕ) (v : Option (List (List ℕ)))
      → One is_key lowercase key k → AtMostOne IsTypes types v
      → IsKeyword (key ++ types) (k, filter (λ p. not (is_true p)) (unwrap_or v []))

-- attribute = alphanum{3,8} (section 3.2)
abbrev pub IsAttribute : List (List ℕ) → List ℕ → Type 0
IsAttribute = One (is_piece 3) lowercase

-- unicode_locale_extensions = u (keyword+ | attribute+ keyword*) (section 3.2)
pub data IsUnicodeExtension : List (List ℕ) → Meaning → Type 0 where
  of_keywords : (u keywords : List (List ℕ)) (m : List ℕ) (rows : List Block)
      → One is_u lowercase u m → AtLeastOne IsKeyword keywords rows
      → IsUnicodeExtension (u ++ keywords) (unicode_of [] rows)
  of_attributes : (u attributes keywords : List (List ℕ)) (m : List ℕ) (vs : List (List ℕ))
      (rows : List Block) → One is_u lowercase u m
      → AtLeastOne IsAttribute attributes vs → AnyNumber IsKeyword keywords rows
      → IsUnicodeExtension (u ++ (attributes ++ keywords)) (unicode_of vs rows)

-- tfield = tkey tvalue, tvalue = alphanum{3,8}+ (section 3.2)
pub data IsTfield : List (List ℕ) → Block → Type 0 where
  tfield : (tkey tvalue : List (List ℕ)) (k : List ℕ) (v : List (List ℕ))
      → One is_tkey lowercase tkey k → IsTypes tvalue v → IsTfield (tkey ++ tvalue) (k, v)

-- transformed_extensions = t (tlang tfield* | tfield+), tlang = unicode_language_id (section 3.2)
pub data IsTransformedExtension : List (List ℕ) → Meaning → Type 0 where
  of_tlang : (t tlang tfields : List (List ℕ)) (m : List ℕ) (l : LanguageIdentifier)
      (rows : List Block) → One is_t lowercase t m
      → IsLanguageId tlang l → AnyNumber IsTfield tfields rows
      → IsTransformedExtension (t ++ (tlang ++ tfields)) (transform_of (Some l) rows)
  of_tfields : (t tfields : List (List ℕ)) (m : List ℕ) (rows : List Block)
      → One is_t lowercase t m → AtLeastOne IsTfield tfields rows
      → IsTransformedExtension (t ++ tfields) (transform_of None rows)

-- other_extensions = (alphanum, none of t, u and x) alphanum{2,8}+ (section 3.2)
pub data IsOtherExtension : List (List ℕ) → Meaning → Type 0 where
  of_other : (singleton pieces : List (List ℕ)) (s : List ℕ) (vs : List (List ℕ))
      → One is_other_singleton lowercase singleton s
      → AtLeastOne (One (is_piece 2) lowercase) pieces vs
      → IsOtherExtension (singleton ++ pieces) (other_of s vs)

-- extensions = unicode_locale_extensions | transformed_extensions | other_extensions (section 3.2)
pub data IsExtension : List (List ℕ) → Meaning → Type 0 where
  unicode : (ps : List (List ℕ)) (e : Meaning) → IsUnicodeExtension ps e → IsExtension ps e
  transformed : (ps : List (List ℕ)) (e : Meaning) → IsTransformedExtension ps e → IsExtension ps e
  other : (ps : List (List ℕ)) (e : Meaning) → IsOtherExtension ps e → IsExtension ps e

-- pu_extensions = x alphanum{1,8}+ (section 3.2)
pub data IsPrivateUse : List (List ℕ) → List (List ℕ) → Type 0 where
  private_use : (x pieces : List (List ℕ)) (m : List ℕ) (vs : List (List ℕ))
      → One is_x lowercase x m → AtLeastOne (One (is_piece 1) lowercase) pieces vs
      → IsPrivateUse (x ++ pieces) vs

-- ---- locale identifiers

-- the singleton of an extension
abbrev pub singleton : Meaning → List ℕ
singleton (unicode_of vs rows) = codes "u"
singleton (transform_of l rows) = codes "t"
singleton (other_of s ps) = s

-- rows put in one by one: of two with one key the first counts (section 3.2.1)
abbrev pub add_rows : List Block → List Block → List Block
add_rows old [] = old
add_rows old (row ∷ rows) = add_rows (add_first text_cmp old row.0 row.1) rows

abbrev pub add_language : LocaleIdentifier → Option LanguageIdentifier → LocaleIdentifier
add_language x None = x
add_language x (Some l) = with_language x l

-- what an extension adds
abbrev pub add : LocaleIdentifier → Meaning → LocaleIdentifier
add x (unicode_of vs rows) = with_keywords (with_attributes x (rising (from_list vs)))
    (add_rows x.locale.extensions.unicode.keywords rows)
add x (transform_of l rows) = with_fields (add_language x l) (add_rows x.fields rows)
add x (other_of s ps) = with_others x (add_first text_cmp x.others s ps)

abbrev pub add_all : LocaleIdentifier → List Meaning → LocaleIdentifier
add_all x [] = x
add_all x (e ∷ es) = add_all (add x e) es

abbrev pub add_private_use : LocaleIdentifier → Option (List (List ℕ)) → LocaleIdentifier
add_private_use x None = x
add_private_use x (Some ps) = with_private_use x ps

-- unicode_locale_id = unicode_language_id extensions* pu_extensions?, no singleton twice (section 3.2)
pub data IsLocaleId : List (List ℕ) → LocaleIdentifier → Type 0 where
  locale_id : (language_id extensions private_use : List (List ℕ)) (l : LanguageIdentifier)
      (es : List Meaning) (o : Option (List (List ℕ)))
      → IsLanguageId language_id l → AnyNumber IsExtension extensions es
      → are_different (map singleton es) ≡ true → AtMostOne IsPrivateUse private_use o
      → IsLocaleId (language_id ++ (extensions ++ private_use))
      (add_private_use (add_all (bare l) es) o)

-- t spells x: the grammar derives x from its pieces
abbrev pub Spells : List ℕ → LocaleIdentifier → Type 0
Spells t x = IsLocaleId (pieces t) x
