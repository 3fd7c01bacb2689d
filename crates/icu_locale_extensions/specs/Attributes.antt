-- Attributes of the Unicode extension (UTS #35 Part 1, section 3.6.1, attribute): a set of subtags, seen as its rising list.
use Rattle.std.specs.Prelude.{ℕ, List}
use Rattle.std.specs.List.{All}
use Rattle.std.specs.List.Sorted.{IsStrictlySortedBy}
use Rattle.icu_locale_core.specs.Subtag.{IsSubtag}
use Rattle.icu_locale_core.specs.TextSet.{text_cmp}

-- subtags in lower case that rise, so that none is there twice
pub record AreAttributes (ps : List (List ℕ)) : Type 0 where
  pub rise : IsStrictlySortedBy text_cmp ps
  pub each : All IsSubtag ps
