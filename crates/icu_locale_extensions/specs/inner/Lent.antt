-- Lent texts, and und before one.
use Rattle.std.specs.Prelude.{ℕ, List, ◌++◌, codes, Option, Some, None}
use denote.Ref.{Bor}

-- und before a text, or alone
abbrev pub und_before : Option (Bor (List ℕ)) → List ℕ
und_before None = codes "und"
und_before (Some t) = codes "und-" ++ t.now
