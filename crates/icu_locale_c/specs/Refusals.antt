-- What the number of a refusal says, in words.
use Rattle.std.specs.Prelude.{◌≡◌, ◌<◌, ℕ, ℤ, List, take, length, codes, Bool, true, false, Result, Ok, Err}
use Rattle.icu_locale_c.specs.Calls.{Writes, number}
use Rattle.icu_locale_c.specs.declared.refusal.Refusal.{Refusal}
use Rattle.icu_locale_c.specs.declared.refusal.Refusal.TheVariants as refusal

-- the text of a refusal
abbrev pub refusal_text : Refusal → List ℕ
refusal_text refusal.Closed = codes "the handle is closed"
refusal_text refusal.Room = codes "there is too little room"
refusal_text refusal.Memory = codes "memory was asked for and refused"
refusal_text refusal.Json = codes "the text is no JSON"
refusal_text refusal.Shape = codes "the shape is not that of tables, a supplement or lent names"
refusal_text refusal.Command = codes "no command or syntax has these words"
refusal_text refusal.Table = codes "the tables leave out one that is needed"
refusal_text refusal.Negotiate = codes "the handle holds no list of what is available"
refusal_text refusal.List = codes "the text lists something that is no identifier"
refusal_text refusal.Unsettled = codes "the likely tables are not settled"
refusal_text refusal.Shared = codes "another handle has the tables too"

-- a number is that of the refusal that has the text
abbrev pub HasText : ℤ → List ℕ → Type 0
HasText n text = (e : Refusal) × (number e ≡ n) × (refusal_text e ≡ text)

-- `out` begins with the text of the refusal that has the number, or is as it was: no refusal has it,
-- or there is too little room, and the text's length is told
abbrev pub IsRefusalText : ℤ → (out out' : List ℕ) → ℕ → Result Bool Refusal → Type 0
IsRefusalText n out out' written (Ok true) =
    HasText n (take written out') × Writes out out' written
IsRefusalText n out out' written (Ok false) =
    ((e : Refusal) → ¬ (number e ≡ n)) × (out' ≡ out) × (written ≡ 0)
IsRefusalText n out out' written (Err refusal.Room) = (text : List ℕ) × HasText n text
    × (out' ≡ out) × (written ≡ length text) × (length out < length text)
IsRefusalText n out out' written (Err e) = ⊥
