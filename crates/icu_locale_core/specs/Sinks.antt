-- What a sink holds after a write that failed.
use Rattle.std.specs.Prelude.{ℕ, List, [], ◌++◌, Option, ◌≡◌, ◌≢◌}
use Rattle.std.specs.Io.KnownBytes.{Appends}

-- a beginning of the text was written, and not the whole
pub record AppendsPart (old new : Option (List ℕ)) (text : List ℕ) : Type 0 where
  pub written : List ℕ
  pub left : List ℕ
  pub parted : text ≡ written ++ left
  pub short : left ≢ []
  pub appended : Appends old new written
