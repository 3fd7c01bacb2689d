-- What comes of a text that is written to the end of another.
use Rattle.std.specs.Prelude.{ℕ, List, ◌++◌, take, length, Result, OnOk, OnErr, ◌≡◌}
use Rattle.std.specs.declared.fmt.Error.{Error}

-- the text is appended, or what was there stays in front
pub record AppendsOrKeeps (old text : List ℕ) (result : Result (Unit {0}) Error) (new : List ℕ)
    : Type 0 where
  pub appended : OnOk result (new ≡ old ++ text)
  pub kept : OnErr result (take (length old) new ≡ old)
