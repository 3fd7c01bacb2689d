-- A reader of locale identifiers (UTS #35 Part 1, section 3.2, unicode_locale_id), from left to right over the pieces of
-- a text. Each piece belongs to the part that is open, or closes it and opens another. By laws, it reads exactly what the
-- grammar derives.
use Rattle.std.specs.Prelude.{◌≡◌, ◌⊎◌, ◌↔◌, IfOk, IsTrue, ℕ, Bool, true, false, ◌&&◌, ◌||◌, not, List, [], ◌∷◌, ◌++◌, map, is_some, if◌then◌else◌, Option, None, Some, Result, Ok, Err}
use Rattle.icu_locale_core.specs.Identifier.{pieces}
use Rattle.icu_locale_core.specs.Maps.{add_first, value_at}
use Rattle.icu_locale_core.specs.Readings.{read_pieces, read_front, after_front}
use Rattle.icu_locale_core.specs.Subtag.{lowercase, is_key, is_subtag}
use Rattle.icu_locale_core.specs.TextSet.{from_list, rising, text_cmp}
use Rattle.icu_locale_core.specs.Value.{read_subtags}
use Rattle.icu_locale_core.specs.declared.langid.LanguageIdentifier.{LanguageIdentifier}
use Rattle.icu_locale_core.specs.declared.parse_error.ParseError.{ParseError}
use Rattle.icu_locale_core.specs.declared.parse_error.ParseError.TheVariants.{InvalidLanguage, InvalidSubtag, Memory}
use Rattle.icu_locale_extensions.specs.Built.{bare, with_attributes, with_keywords, with_language, with_fields, with_others, with_private_use}
use Rattle.icu_locale_core.specs.Cuts.{Block}
use Rattle.icu_locale_extensions.specs.Extensions.{any_piece, is_singleton, is_x, is_u, is_t, is_tkey, is_other_singleton, is_piece}
use Rattle.icu_locale_extensions.specs.Locales.{IsLocaleIdentifier}
use Rattle.icu_locale_extensions.specs.Syntaxes.{SpellsBy, base_text, modifier_text, starts_by, tag_text, takes_memory_by, with_modifier}
use Rattle.icu_locale_extensions.specs.declared.identifier.LocaleIdentifier.{LocaleIdentifier}
use Rattle.icu_locale_extensions.specs.declared.syntax.Syntax.{Syntax}
use Rattle.icu_locale_extensions.specs.declared.syntax.Syntax.TheVariants.{Unicode, Bcp47, Posix}

-- ---- parts

-- what pieces are read as; of whole, keywords and fields all that came is closed
pub data Part : Type 0 where
  whole : Part
  attributes : Part
  keywords : Part
  keyword : List ℕ → Part
  language : Part
  fields : Part
  field : List ℕ → Part
  other : List ℕ → Part
  private_use : Part
  nothing : Part

-- a piece goes on with the part
abbrev pub belongs : Part → List ℕ → Bool
belongs attributes p = is_subtag p
belongs (keyword k) p = is_subtag p
belongs language p = not (is_tkey p || is_singleton p)
belongs (field k) p = is_piece 3 p
belongs (other s) p = is_piece 2 p
belongs private_use p = is_piece 1 p
belongs part p = false

-- the first piece passes a test
abbrev pub first_is : (List ℕ → Bool) → List (List ℕ) → Bool
first_is test [] = false
first_is test (p ∷ ps) = test p

-- a part may begin with these pieces
abbrev pub begins : Part → List (List ℕ) → Bool
begins (keyword k) ps = true
begins attributes ps = first_is (λ p. is_subtag p || is_key p) ps
begins language ps = first_is (λ p. not (is_singleton p)) ps
begins part ps = first_is (belongs part) ps

-- the language that was transformed, if its pieces are one
abbrev pub with_read : LocaleIdentifier → Result LanguageIdentifier ParseError
    → Result LocaleIdentifier ParseError
with_read x (Ok l) = Ok (with_language x l)
with_read x (Err e) = Err InvalidSubtag

-- the identifier with the pieces of a part
abbrev pub added : Part → List (List ℕ) → LocaleIdentifier → Result LocaleIdentifier ParseError
added attributes ps x = Ok (with_attributes x (rising (from_list (map lowercase ps))))
added (keyword k) ps x = Ok (with_keywords x
    (add_first text_cmp x.locale.extensions.unicode.keywords k (read_subtags ps)))
added language [] x = Ok x
added language (p ∷ ps) x = with_read x (read_pieces (p ∷ ps))
added (field k) ps x = Ok (with_fields x (add_first text_cmp x.fields k (map lowercase ps)))
added (other s) ps x = Ok (with_others x (add_first text_cmp x.others s (map lowercase ps)))
added private_use ps x = Ok (with_private_use x (map lowercase ps))
added part ps x = Ok x

-- what is open once the part is closed
abbrev pub closed : Part → Part
closed attributes = keywords
closed keywords = keywords
closed (keyword k) = keywords
closed language = fields
closed fields = fields
closed (field k) = fields
closed private_use = nothing
closed nothing = nothing
closed part = whole

-- one row or more
abbrev pub any_row : List Block → Bool
any_row [] = false
any_row (row ∷ rows) = true

-- u and t are there
abbrev pub has_unicode : LocaleIdentifier → Bool
has_unicode x = any_piece x.attributes || any_row x.locale.extensions.unicode.keywords

abbrev pub has_transform : LocaleIdentifier → Bool
has_transform x = is_some x.locale.extensions.transform.lang || any_row x.fields

-- the part that a singleton opens, each once
abbrev pub opened_unicode : LocaleIdentifier → Option Part
opened_unicode x = if has_unicode x then None else Some attributes

abbrev pub opened_transform : LocaleIdentifier → Option Part
opened_transform x = if has_transform x then None else Some language

abbrev pub opened_other : LocaleIdentifier → List ℕ → Option Part
opened_other x p =
    if is_other_singleton p && not (is_some (value_at text_cmp x.others (lowercase p)))
    then Some (other (lowercase p)) else None

abbrev pub marked : LocaleIdentifier → List ℕ → Option Part
marked x p =
    if is_u p then opened_unicode x
    else (if is_t p then opened_transform x
    else (if is_x p then Some private_use else opened_other x p))

-- the part that a piece opens, where all is closed
abbrev pub opened : Part → LocaleIdentifier → List ℕ → Option Part
opened keywords x p = if is_key p then Some (keyword (lowercase p)) else marked x p
opened fields x p = if is_tkey p then Some (field (lowercase p)) else marked x p
opened nothing x p = None
opened part x p = marked x p

-- ---- reading

-- one step after another, unless it is refused
abbrev pub and_then : {A B : Type 0} → Result A ParseError → (A → Result B ParseError)
    → Result B ParseError
and_then (Ok a) next = next a
and_then (Err e) next = Err e

-- with the part that is opened, if any
abbrev pub with_part : Option Part → (Part → Result LocaleIdentifier ParseError)
    → Result LocaleIdentifier ParseError
with_part (Some part) next = next part
with_part None next = Err InvalidSubtag

-- the pieces that follow, where these were read of the part that is open
abbrev pub read_on : Part → List (List ℕ) → LocaleIdentifier → List (List ℕ)
    → Result LocaleIdentifier ParseError
read_on part read x [] = added part read x
read_on part read x (p ∷ ps) =
    if belongs part p then read_on part (read ++ p ∷ []) x ps
    else and_then (added part read x) (λ y. with_part (opened (closed part) y p)
    (λ next. if begins next ps then read_on next [] y ps else Err InvalidSubtag))

-- a locale identifier from its pieces
abbrev pub read : List (List ℕ) → Result LocaleIdentifier ParseError
read ps = and_then (read_front ps) (λ id. read_on whole [] (bare id) (after_front ps))

-- what a text is read as in each syntax, memory aside
abbrev pub read_by : Syntax → List ℕ → Result LocaleIdentifier ParseError
read_by Unicode t = read (pieces t)
read_by Bcp47 t = read (pieces (tag_text t))
read_by Posix t = and_then (read (pieces (base_text t))) (λ x. Ok (with_modifier (modifier_text t) x))

-- t is read as the reader reads it, or memory is refused
pub record ReadsAs (s : Syntax) (t : List ℕ) (result : Result LocaleIdentifier ParseError)
    : Type 0 where
  pub read : (result ≡ Err Memory) ⊎ (result ≡ read_by s t)
  pub found : IfOk result (λ x. IsLocaleIdentifier x × SpellsBy s t x)
  pub language : (result ≡ Err InvalidLanguage) ↔ (starts_by s t ≡ false)
  pub memory : result ≡ Err Memory → IsTrue (takes_memory_by s t)
