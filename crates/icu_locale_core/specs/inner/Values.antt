-- A value as it is kept.
use Rattle.std.specs.Prelude.{ℕ, List, [], ◌∷◌}
use Rattle.icu_locale_core.specs.declared.value.Kept.{Kept}
use Rattle.icu_locale_core.specs.declared.value.Kept.TheVariants.{One, Many}

-- its pieces
abbrev pub pieces_kept : Kept → List (List ℕ)
pieces_kept (One piece) = piece ∷ []
pieces_kept (Many pieces) = pieces.items
