-- Texts of the world that name a locale: tags of BCP 47 (RFC 5646) and names of POSIX locales, by what each stands for
-- in the strict grammar.
use Rattle.std.specs.Prelude.{◌≡◌, ◌↔◌, ◌⊎◌, ℕ, Bool, true, false, not, ◌&&◌, ◌||◌, ◌==◌, IsTrue, List, [], ◌∷◌, ◌++◌, length, slice_index_or, map, codes, Option, Some, None}
use Rattle.std.specs.Prelude.{unwrap_or, Result, Ok, Err, IfOk, if◌then◌else◌}
use Rattle.std.specs.List.{before_first, after_first, list_any}
use Rattle.std.specs.Option.{option_or}
use Rattle.std.specs.Cmp.Lexicographic.{pointwise}
use Rattle.icu_locale_core.specs.Identifier.{is_separator, pieces, starts_with_language}
use Rattle.icu_locale_core.specs.Subtag.{has_length, is_alphabetic, is_language, is_variant, lowercase}
use Rattle.icu_locale_core.specs.TextSet.{from_list, union}
use Rattle.icu_locale_core.specs.laws.Identifiers.{same_text}
use Rattle.icu_locale_core.specs.declared.langid.LanguageIdentifier.{LanguageIdentifier}
use Rattle.icu_locale_core.specs.declared.parse_error.ParseError.{ParseError}
use Rattle.icu_locale_core.specs.declared.parse_error.ParseError.TheVariants.{InvalidLanguage, InvalidSubtag, Memory}
use Rattle.icu_locale_extensions.specs.Built.{with_id}
use Rattle.icu_locale_core.specs.Cuts.{from}
use Rattle.icu_locale_extensions.specs.ExtendedLanguages.{extended_languages}
use Rattle.icu_locale_extensions.specs.Extensions.{is_singleton, is_t, is_tkey, is_x}
use Rattle.icu_locale_extensions.specs.Grammar.{IsLocaleId, Spells}
use Rattle.icu_locale_extensions.specs.Locales.{IsLocaleIdentifier}
use Rattle.icu_locale_extensions.specs.declared.identifier.LocaleIdentifier.{LocaleIdentifier}
use Rattle.icu_locale_extensions.specs.declared.syntax.Syntax.{Syntax}
use Rattle.icu_locale_extensions.specs.declared.syntax.Syntax.TheVariants.{Unicode, Bcp47, Posix}

-- ---- BCP 47

-- grandfathered tags that the strict grammar does not spell (RFC 5646, section 2.2.8), and what is
-- preferred to each
abbrev pub legacy : List (List ℕ × List ℕ)
legacy =
    (codes "en-GB-oed", codes "en-GB-oxendict")
    ∷ (codes "i-ami", codes "ami")
    ∷ (codes "i-bnn", codes "bnn")
    ∷ (codes "i-default", codes "en-x-i-default")
    ∷ (codes "i-enochian", codes "und-x-i-enochian")
    ∷ (codes "i-hak", codes "hak")
    ∷ (codes "i-klingon", codes "tlh")
    ∷ (codes "i-lux", codes "lb")
    ∷ (codes "i-mingo", codes "see-x-i-mingo")
    ∷ (codes "i-navajo", codes "nv")
    ∷ (codes "i-pwn", codes "pwn")
    ∷ (codes "i-tao", codes "tao")
    ∷ (codes "i-tay", codes "tay")
    ∷ (codes "i-tsu", codes "tsu")
    ∷ (codes "sgn-BE-FR", codes "sfb")
    ∷ (codes "sgn-BE-NL", codes "vgt")
    ∷ (codes "sgn-CH-DE", codes "sgg")
    ∷ (codes "no-bok", codes "nb")
    ∷ (codes "no-nyn", codes "nn")
    ∷ (codes "zh-min", codes "nan-x-zh-min")
    ∷ (codes "zh-min-nan", codes "nan")
    ∷ []

-- the same pieces, case aside
abbrev pub same_pieces : List (List ℕ) → List (List ℕ) → Bool
same_pieces ps qs = pointwise same_text (map lowercase ps) (map lowercase qs)

-- the value of the first row whose tag has these pieces
abbrev pub value_of : List (List ℕ × List ℕ) → List (List ℕ) → Option (List ℕ)
value_of [] ps = None
value_of (row ∷ rows) ps = if same_pieces ps (pieces row.0) then Some row.1 else value_of rows ps

-- the value preferred to a legacy tag of these pieces
unfoldable pub preferred : List (List ℕ) → Option (List ℕ)
preferred ps = value_of legacy ps

-- nothing but private use, privateuse of RFC 5646, section 2.1: the first piece is `x`
abbrev pub is_private : List (List ℕ) → Bool
is_private [] = false
is_private (p ∷ ps) = is_x p

-- root of CLDR, in any case, alone or before extensions and private use: the language und of BCP 47
-- (UTS #35 Part 1, section 3.3)
abbrev pub is_root : List (List ℕ) → Bool
is_root [] = false
is_root (p ∷ []) = same_text (lowercase p) (codes "root")
is_root (p ∷ q ∷ ps) = same_text (lowercase p) (codes "root") && is_singleton q

-- und in the place of the first piece (section 3.3)
abbrev pub root_text : List ℕ → List ℕ
root_text t =
    if length (pieces t) == 1 then codes "und" else codes "und-" ++ after_first is_separator t

-- some row has a language with a prefix, case aside
abbrev pub has_row : List (List ℕ × List ℕ) → (prefix language : List ℕ) → Bool
has_row rows prefix language =
    list_any (λ row. same_text (lowercase language) (lowercase row.0)
    && same_text (lowercase prefix) (lowercase row.1)) rows

-- the registry has an extended language with a prefix (section 2.2.2)
unfoldable pub is_registered : (prefix language : List ℕ) → Bool
is_registered prefix language = has_row extended_languages prefix language

-- extlang of RFC 5646, section 2.2.2: a language, and then 3 letters that are registered with it
abbrev pub is_extended : List (List ℕ) → Bool
is_extended (p ∷ q ∷ ps) =
    (is_language p && (has_length 3 3 q && is_alphabetic q)) && is_registered p q
is_extended ps = false

-- what a tag stands for: the value preferred to it; private use alone after `und`; `und` in the place
-- of root; an extended language in the place of its prefix, and of these one; else the tag itself
abbrev pub tag_text : List ℕ → List ℕ
tag_text t =
    unwrap_or (preferred (pieces t)) (
    if is_private (pieces t) then codes "und-" ++ t
    else (if is_root (pieces t) then root_text t
    else (if is_extended (pieces t) then after_first is_separator t else t)))

-- ---- POSIX

-- `@`, which is 64, begins a modifier
abbrev pub marks_modifier : ℕ → Bool
marks_modifier c = c == 64

-- a modifier begins, or by `.`, which is 46, a codeset
abbrev pub ends_base : ℕ → Bool
ends_base c = (c == 46) || marks_modifier c

-- the locale of the standard has two names (POSIX.1 Base Definitions, section 7.2)
abbrev pub is_standard : List ℕ → Bool
is_standard name = same_text name (codes "C") || same_text name (codes "POSIX")

-- what is before the codeset and the modifier (section 8.2); root of CLDR is und there too
abbrev pub base_text : List ℕ → List ℕ
base_text t =
    let name = before_first ends_base t in
    if is_standard name then codes "en-US-u-va-posix"
    else (if same_text name (codes "root") then codes "und" else name)

-- what follows the first `@`, or nothing
abbrev pub modifier_text : List ℕ → List ℕ
modifier_text t = after_first marks_modifier t

-- the script that a modifier names
abbrev pub script_named : List ℕ → Option (List ℕ)
script_named m =
    if same_text m (codes "latin") || same_text m (codes "iqtelif") then Some (codes "Latn")
    else (if same_text m (codes "cyrillic") then Some (codes "Cyrl")
    else (if same_text m (codes "devanagari") then Some (codes "Deva") else None))

-- the modifier names the variant valencia
abbrev pub names_valencia : List ℕ → Bool
names_valencia m = same_text m (codes "valencia")

-- an identifier with the script or the variant that a modifier names
abbrev pub modified : List ℕ → LanguageIdentifier → LanguageIdentifier
modified m x = record x {
  script = option_or (script_named m) x.script;
  variants = if names_valencia m then union x.variants (from_list (codes "valencia" ∷ []))
      else x.variants;
}

-- a locale identifier with what a modifier names
abbrev pub with_modifier : List ℕ → LocaleIdentifier → LocaleIdentifier
with_modifier m x = with_id x (modified m x.locale.id)

-- t spells x: its base spells a locale identifier, and x is that with the modifier in it
pub record SpellsPosix (t : List ℕ) (x : LocaleIdentifier) : Type 0 where
  pub base : LocaleIdentifier
  pub spells : Spells (base_text t) base
  pub changed : x ≡ with_modifier (modifier_text t) base

-- ---- each syntax

-- t spells x
abbrev pub SpellsBy : Syntax → List ℕ → LocaleIdentifier → Type 0
SpellsBy Unicode t x = Spells t x
SpellsBy Bcp47 t x = Spells (tag_text t) x
SpellsBy Posix t x = SpellsPosix t x

-- the text of the strict grammar that t stands for, modifiers aside
abbrev pub meant : Syntax → List ℕ → List ℕ
meant Unicode t = t
meant Bcp47 t = tag_text t
meant Posix t = base_text t

-- the first piece of what t stands for is a language
abbrev pub starts_by : Syntax → List ℕ → Bool
starts_by s t = starts_with_language (meant s t)

-- pieces are refused for this reason: the first is no language, or it is one and the grammar derives nothing of them;
-- memory is none
abbrev pub IsRefused : List (List ℕ) → ParseError → Type 0
IsRefused ps InvalidLanguage = is_language (slice_index_or ps 0 []) ≡ false
IsRefused ps InvalidSubtag =
    (is_language (slice_index_or ps 0 []) ≡ true) × ((x : LocaleIdentifier) → ¬ (IsLocaleId ps x))
IsRefused ps Memory = ⊥

-- t is at fault for this reason
abbrev pub IsFaultBy : Syntax → List ℕ → ParseError → Type 0
IsFaultBy s t e = IsRefused (pieces (meant s t)) e

-- ---- reading

-- a piece with which something is kept in memory: a variant, or the singleton of an extension but t
abbrev pub is_kept : List ℕ → Bool
is_kept p = is_variant p || (is_singleton p && not (is_t p))

-- something of a text is kept in memory: a variant, an extension but t, private use, or a field of t
abbrev pub takes_memory : List ℕ → Bool
takes_memory t =
    list_any is_kept (pieces t) || list_any is_tkey (from is_singleton (pieces t))

-- something of what t stands for is
abbrev pub takes_memory_by : Syntax → List ℕ → Bool
takes_memory_by Unicode t = takes_memory t
takes_memory_by Bcp47 t = takes_memory (tag_text t)
takes_memory_by Posix t = takes_memory (base_text t) || names_valencia (modifier_text t)

-- x was read, or memory was refused
abbrev pub IsOkUnlessMemory : Result LocaleIdentifier ParseError → LocaleIdentifier → Type 0
IsOkUnlessMemory r x = (r ≡ Ok x) ⊎ (r ≡ Err Memory)

-- t is read as what it spells, or refused for its fault, or for memory, which is asked for what is kept in it alone, and
-- never where its first piece is no language
pub record ReadsBy (s : Syntax) (t : List ℕ) (result : Result LocaleIdentifier ParseError)
    : Type 0 where
  pub found : IfOk result (λ x. IsLocaleIdentifier x × SpellsBy s t x)
  pub only : (x : LocaleIdentifier) → SpellsBy s t x → IsOkUnlessMemory result x
  pub language : (result ≡ Err InvalidLanguage) ↔ (starts_by s t ≡ false)
  pub memory : result ≡ Err Memory → IsTrue (takes_memory_by s t)
