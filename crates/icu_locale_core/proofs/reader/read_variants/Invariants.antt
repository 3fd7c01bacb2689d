use Rattle.std.proofs.Common.{◌≡◌, ◌++◌, map, true}
use Rattle.std.specs.List.{list_all, list_any}
use Rattle.icu_locale_core.specs.Subtag.{is_variant, lowercase}
use Rattle.icu_locale_core.proofs.reader.read_variants.Given as goal

-- what was pushed, and then the pieces that are left, is the whole; and no piece so far is another than a variant
abbrev pub invariant-loop-piece : goal.invariant-loop-piece
invariant-loop-piece l = record {
  lower : map lowercase l.fn.pieces ≡ l.list.items ++ map lowercase l.piece-iterator;
  all : list_all is_variant l.fn.pieces ≡ list_all is_variant l.piece-iterator;
  some : list_any is_variant l.piece-iterator ≡ true → list_any is_variant l.fn.pieces ≡ true;
}
