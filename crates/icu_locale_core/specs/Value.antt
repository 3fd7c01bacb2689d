-- Values of keywords and their texts (UTS #35 Part 1, section 3.6.1, type).
use Rattle.std.specs.Prelude.{◌≡◌, ◌↔◌, ℕ, Bool, true, false, ◌||◌, ◌==◌, not, List, [], ◌∷◌, length, map, filter, codes, nat_eq, Option, Some, None}
use Rattle.std.specs.Prelude.{Result, Err, IfOk, if◌then◌else◌}
use Rattle.std.specs.List.{All, list_all, join_by}
use Rattle.std.specs.Cmp.Lexicographic.{pointwise}
use Rattle.icu_locale_core.specs.Identifier.{pieces}
use Rattle.icu_locale_core.specs.Subtag.{is_subtag, lowercase, IsSubtag}
use Rattle.icu_locale_core.specs.declared.parse_error.ParseError.{ParseError}
use Rattle.icu_locale_core.specs.declared.parse_error.ParseError.TheVariants.{InvalidLanguage, InvalidSubtag, Memory}

-- the piece that is not kept
abbrev pub is_true : List ℕ → Bool
is_true p = pointwise nat_eq p (codes "true")

-- a text reads as a value where it is empty, or each piece has 3 to 8 letters or digits
abbrev pub is_value : List ℕ → Bool
is_value t = (length t == 0) || list_all is_subtag (pieces t)

-- pieces in lower case without the pieces `true`
abbrev pub read_subtags : List (List ℕ) → List (List ℕ)
read_subtags ps = filter (λ p. not (is_true p)) (map lowercase ps)

-- the value of a text: its pieces so read, and none where it is empty
abbrev pub read_value : List ℕ → List (List ℕ)
read_value t = if length t == 0 then [] else read_subtags (pieces t)

-- the pieces of a value: each a subtag in lower case, and none of them `true`
pub record IsValue (v : List (List ℕ)) : Type 0 where
  pub each : All IsSubtag v
  pub plain : list_all (λ p. not (is_true p)) v ≡ true

-- the piece of a value of exactly one
abbrev pub only_piece : List (List ℕ) → Option (List ℕ)
only_piece [] = None
only_piece (p ∷ []) = Some p
only_piece (p ∷ q ∷ ps) = None

-- a value is written with `-` between its pieces
abbrev pub written_value : List (List ℕ) → List ℕ
written_value v = join_by (λ t. t) (codes "-") v

-- reading t gives the value that it reads as, and a text that reads as none is refused for a piece; memory is asked for
-- pieces that are kept alone
pub record ReadsValue (t : List ℕ) (result : Result (List (List ℕ)) ParseError) : Type 0 where
  pub read : IfOk result (λ v. v ≡ read_value t)
  pub refused : (result ≡ Err InvalidSubtag) ↔ (is_value t ≡ false)
  pub language : ¬ (result ≡ Err InvalidLanguage)
  pub free : read_value t ≡ [] → ¬ (result ≡ Err Memory)
