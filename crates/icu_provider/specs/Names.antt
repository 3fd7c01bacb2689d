-- Names of languages in menus, and patterns of two placeholders, as lists of texts and places.
use Rattle.std.specs.Prelude.{ℕ, List, string_bytes}
use Rattle.icu_provider.specs.declared.essentials.PatternItem.{PatternItem}
use Rattle.icu_provider.specs.declared.essentials.PatternItem.TheVariants.{Literal, First, Second}

-- a name in two parts: what a language shares with those like it, and what tells it from them
pub record MenuName : Type 0 where
  pub core : List ℕ
  pub extension : List ℕ

-- a fixed text, or the place of the first or of the second argument
pub data PatternPart : Type 0 where
  fixed_text : List ℕ → PatternPart
  first_place : PatternPart
  second_place : PatternPart

-- an item by what it holds
abbrev pub part_of : PatternItem → PatternPart
part_of (Literal text) = fixed_text (string_bytes text)
part_of First = first_place
part_of Second = second_place
