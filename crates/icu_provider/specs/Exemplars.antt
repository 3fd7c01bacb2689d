-- Sets of exemplar characters (UTS #35 Part 2, "Exemplars").
use Rattle.std.specs.Prelude.{ℕ, Bool, List, [], ◌∷◌, Option, Some, None}
use Rattle.std.specs.Str.{chars}
use Rattle.icu_locale_core.specs.TextSet.{contains}
use Rattle.icu_provider.specs.InversionList.{has_character}
use Rattle.icu_provider.specs.declared.exemplars.ExemplarCharactersData.{ExemplarCharactersData}

-- the item of a list of one
abbrev pub only_item : List ℕ → Option ℕ
only_item (x ∷ []) = Some x
only_item _ = None

-- a text of one character is in where the character is
abbrev pub has_spelled : ExemplarCharactersData → List ℕ → Option ℕ → Bool
has_spelled set text (Some character) = has_character set.ranges character
has_spelled set text None = contains set.strings text

-- a text of one character asks the pairs, and every other text the set of texts
abbrev pub has_text : ExemplarCharactersData → List ℕ → Bool
has_text set text = has_spelled set text (only_item (chars text))
