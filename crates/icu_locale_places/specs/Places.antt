-- Where a text is wrong: the place of the first piece that no locale identifier can have there (UTS #35 Part 1,
-- section 3.2, unicode_locale_id).
use Rattle.std.specs.Prelude.{◌≡◌, ◌⊎◌, ◌<◌, ◌≤◌, ◌+◌, suc, ℕ, Bool, true, ◌||◌, IsTrue, List, [], ◌∷◌, ◌++◌, length, take, slice_index_or, codes, is_ok}
use Rattle.std.specs.Fmt.{decimal}
use Rattle.icu_locale_core.specs.Identifier.{parse_error_name, pieces, starts_with_language}
use Rattle.icu_locale_core.specs.declared.parse_error.ParseError.{ParseError}
use Rattle.icu_locale_core.specs.declared.parse_error.ParseError.TheVariants.{InvalidSubtag}
use Rattle.icu_locale_extensions.specs.Grammar.{IsLocaleId, Spells}
use Rattle.icu_locale_extensions.specs.laws.Reader.{read}
use Rattle.icu_locale_extensions.specs.Syntaxes.{IsFaultBy, IsRefused, takes_memory}
use Rattle.icu_locale_extensions.specs.declared.syntax.Syntax.TheVariants.{Unicode}
use Rattle.icu_locale_extensions.specs.declared.identifier.LocaleIdentifier.{LocaleIdentifier}
use Rattle.icu_locale_places.specs.declared.place.Fault.{Fault}
use Rattle.icu_locale_places.specs.declared.place.Fault.TheVariants.{Memory, At}

-- ---- the place

-- the pieces are the first of some that the grammar derives a locale identifier from
abbrev pub BeginsSome : List (List ℕ) → Type 0
BeginsSome ps = (qs : List (List ℕ)) × ((x : LocaleIdentifier) × IsLocaleId (ps ++ qs) x)

-- the place: piece n is the first that no locale identifier can have there; where each can be, n is the end
pub record IsPlace (ps : List (List ℕ)) (n : ℕ) : Type 0 where
  pub within : n ≤ length ps
  pub before : BeginsSome (take n ps)
  pub there : n < length ps → ¬ (BeginsSome (take (suc n) ps))

-- some text with these first pieces spells a locale identifier
abbrev pub BeginsText : List (List ℕ) → Type 0
BeginsText ps = (t : List ℕ) × ((x : LocaleIdentifier)
    × ((take (length ps) (pieces t) ≡ ps) × Spells t x))

-- these pieces are refused, and for one reason whatever follows: a reader has stopped within them
abbrev pub HasStopped : List (List ℕ) → Type 0
HasStopped ps = (e : ParseError) × ((qs : List (List ℕ)) → IsRefused (ps ++ qs) e)

-- ---- its bytes

-- piece n of t lies between these bytes: the text is cut before it and behind it; the end lies behind the last byte
pub record IsSpan (t : List ℕ) (n from to : ℕ) : Type 0 where
  pub before : List ℕ
  pub own : List ℕ
  pub behind : List ℕ
  pub text : t ≡ before ++ (own ++ behind)
  pub begins : from ≡ length before
  pub ends : to ≡ from + length own
  pub piece : n < length (pieces t) → (own ≡ slice_index_or (pieces t) n [])
      × (pieces (before ++ own) ≡ take (suc n) (pieces t))
  pub ending : n ≡ length (pieces t) → (own ≡ []) × (behind ≡ [])

-- t is wrong at these bytes: its place has them
pub record IsWrongAt (t : List ℕ) (from to : ℕ) : Type 0 where
  pub piece : ℕ
  pub place : IsPlace (pieces t) piece
  pub span : IsSpan t piece from to

-- why t is no locale identifier, and where; where it begins with a language, memory is asked for
-- what is kept of it, and to find a later piece
abbrev pub IsFault : List ℕ → Fault → Type 0
IsFault t (At refusal from to) = IsFaultBy Unicode t refusal × IsWrongAt t from to
IsFault t Memory = IsTrue (starts_with_language t)
    × (IsTrue (takes_memory t) ⊎ IsFaultBy Unicode t InvalidSubtag)

-- what Display writes: the reason, and its first byte and the byte after it
abbrev pub fault_text : Fault → List ℕ
fault_text Memory = codes "Memory"
fault_text (At refusal from to) =
    parse_error_name refusal ++ (codes " at " ++ (decimal from ++ (codes ".." ++ decimal to)))

-- ---- told by the reader

-- a piece that may follow in each part that is open
abbrev pub probe : List ℕ
probe = codes "abc"

-- the pieces are read, or they are with this one more
abbrev pub begins_some : List (List ℕ) → Bool
begins_some [] = true
begins_some (p ∷ ps) = is_ok (read (p ∷ ps)) || is_ok (read (p ∷ (ps ++ probe ∷ [])))
