-- Values beside a value of one piece.
use Rattle.std.specs.Prelude.{Bool, true, false}
use Rattle.std.specs.declared.cmp.Ordering.{Ordering}
use Rattle.std.specs.declared.cmp.Ordering.TheVariants.{Equal, Greater}

-- a list that has more pieces is greater
abbrev pub longer : Bool → Ordering
longer true = Greater
longer false = Equal
