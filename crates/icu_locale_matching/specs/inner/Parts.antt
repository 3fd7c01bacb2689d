-- Parts of a text that are left.
use Rattle.std.specs.Prelude.{ℕ, suc, List, [], length, Option, Some, None}
use Rattle.std.specs.List.{slice_split}
use Rattle.std.specs.Prelude.{◌==◌}
use Rattle.icu_locale_matching.specs.Header.{Wish, shown, elements_among}
use Rattle.icu_locale_matching.specs.declared.header.LentWish.{LentWish}
use denote.Ref.{Bor}

-- the parts of a text that there may be
abbrev pub parts_if_any : ℕ → Option (Bor (List ℕ)) → List (List ℕ)
parts_if_any byte None = []
parts_if_any byte (Some t) = slice_split (λ b. b == byte) t.now

-- the elements of a header that there may be
abbrev pub elements_if_any : Option (Bor (List ℕ)) → List (List ℕ)
elements_if_any t = elements_among (parts_if_any 44 t)

-- a wish that there may be
abbrev pub shown_if_any : Option LentWish → Option Wish
shown_if_any None = None
shown_if_any (Some w) = Some (shown w)

-- how much is left of a text that there may be
abbrev pub left_of : Option (Bor (List ℕ)) → ℕ
left_of None = 0
left_of (Some t) = suc (length t.now)
