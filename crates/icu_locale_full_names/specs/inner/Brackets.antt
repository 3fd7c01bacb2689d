-- The bytes at which a round bracket is looked for.
use Rattle.std.specs.Prelude.{ℕ, Bool, ◌==◌, ◌||◌}

-- the first byte of a round bracket in UTF-8: of `(`, of `)`, or of a wide one
abbrev pub may_begin_bracket : ℕ → Bool
may_begin_bracket b = b == 40 || (b == 41 || b == 239)
