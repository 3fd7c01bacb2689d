-- Equality, order and hash.
use Rattle.std.specs.Prelude.{◌≡◌, ◌↔◌, Bool, true, ℕ, List, ◌++◌}
use Rattle.std.specs.Hash.{HashWrites}
use Rattle.std.specs.declared.cmp.Ordering.{Ordering}
use Rattle.std.specs.declared.cmp.Ordering.TheVariants.{Equal}
use Rattle.std.specs.Option.{option_cmp}
use Rattle.std.specs.Cmp.Lexicographic.{slice_cmp}
use Rattle.std.specs.Ordering.{ordering_then}
use Rattle.icu_locale_core.specs.TextSet.{text_cmp, rising, TextSet}
use Rattle.icu_locale_core.specs.declared.langid.LanguageIdentifier.{LanguageIdentifier}
use Rattle.std.specs.Hash as fed

-- `==` passes exactly where two values are equal
abbrev pub TellsEquality : {X : Type 0} → (X → X → Bool) → Type 0
TellsEquality {X} eq = (x y : X) → (eq x y ≡ true) ↔ (x ≡ y)

-- `==` tells equality, the order ties equal values alone, and equal values alone are fed alike
pub record Agree {X : Type 0} (eq : X → X → Bool) (cmp : X → X → Ordering) (hash : X → HashWrites)
    : Type 0 where
  pub equal : TellsEquality eq
  pub tied : (x y : X) → (cmp x y ≡ Equal) ↔ (x ≡ y)
  pub hashed : (x y : X) → (hash x ≡ hash y) ↔ (x ≡ y)

-- by language, then script, region and the rising list of variants, an absent part first
abbrev pub identifier_cmp : LanguageIdentifier → LanguageIdentifier → Ordering
identifier_cmp x y =
    ordering_then (text_cmp x.language y.language)
    (ordering_then (option_cmp text_cmp x.script y.script)
    (ordering_then (option_cmp text_cmp x.region y.region)
    (slice_cmp text_cmp (rising x.variants) (rising y.variants))))

-- of a subtag its text, with an end that no text has
abbrev pub fed_subtag : List ℕ → fed.HashWrites
fed_subtag t = fed.str t

-- of a set of variants how many there are, and each, rising
abbrev pub fed_variants : TextSet → fed.HashWrites
fed_variants s = fed.slice fed_subtag (rising s)

-- of an identifier its language, its script, its region and its variants: before a script or a region
-- whether it is there
abbrev pub fed_identifier : LanguageIdentifier → fed.HashWrites
fed_identifier x =
    fed_subtag x.language
    ++ (fed.option fed_subtag x.script
    ++ (fed.option fed_subtag x.region ++ fed_variants x.variants))
