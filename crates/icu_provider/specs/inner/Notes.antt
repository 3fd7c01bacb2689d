-- Where the keys of a map are noted, by their marks.
use Rattle.std.specs.Prelude.{◌≡◌, ◌⊎◌, ◌+◌, ◌*◌, ◌/◌, ◌%◌, ◌^◌, ◌<◌, ℕ, List, length, get_or}
use Rattle.std.specs.declared.cmp.Ordering.{Ordering}
use Rattle.std.specs.declared.cmp.Ordering.TheVariants.{Equal}

-- which of so many buckets a mark falls into: its bits are mixed, and spread over them
abbrev pub bucket : ℕ → ℕ → ℕ
bucket mark count =
    (mark * 11400714819323198485 % 2 ^ 64 / 2 ^ 32 * count) % 2 ^ 64 / 2 ^ 32

-- the note of a bucket that several keys have, or whose place is too high to be noted
abbrev pub many : ℕ
many = 65535

-- the bucket of a key's mark has one more than its place, or stands for several
abbrev pub HasNote : {K : Type 0} → (K → K → Ordering) → (K → ℕ → Type 0) → List ℕ → K → ℕ
    → Type 0
HasNote {K} compare IsMark notes known place = (key : K) (mark : ℕ) → compare key known ≡ Equal
    → IsMark key mark → bucket mark (length notes) < length notes
    → (get_or notes (bucket mark (length notes)) 0 ≡ place + 1)
    ⊎ (get_or notes (bucket mark (length notes)) 0 ≡ many)

-- so it is of the first rows
abbrev pub AreNoted : {K V : Type 0} → (K → K → Ordering) → (K → ℕ → Type 0) → List (K × V)
    → List ℕ → ℕ → Type 0
AreNoted {K} {V} compare IsMark rows notes count = (place : ℕ) (default : K × V) → place < count
    → HasNote compare IsMark notes (get_or rows place default).0 place

-- and of all, if there are notes
abbrev pub IsNoted : {K V : Type 0} → (K → K → Ordering) → (K → ℕ → Type 0) → List (K × V)
    → List ℕ → Type 0
IsNoted compare IsMark rows notes = AreNoted compare IsMark rows notes (length rows)
