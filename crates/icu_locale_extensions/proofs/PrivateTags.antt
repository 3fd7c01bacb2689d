-- What a singleton begins, after `und`.
use Rattle.std.specs.Prelude.{◌≡◌, ℕ, true, false, List, [], ◌∷◌, ◌++◌, codes}
use Rattle.std.proofs.Common.{refl, arith}
use Rattle.std.proofs.lemmas.Bool.{false≢true}
use Rattle.std.proofs.lemmas.Bool.Decides.{nat_tests}
use Rattle.std.proofs.lemmas.List.Splits.{slice_split_at}
use Rattle.icu_locale_core.specs.Identifier.{is_separator, pieces}
use Rattle.icu_locale_core.specs.Readings.{read_front, after_front}
use Rattle.icu_locale_core.specs.Subtag.{is_script, is_region, is_variant, und}
use Rattle.icu_locale_extensions.specs.Extensions.{is_singleton}
use Rattle.icu_locale_extensions.specs.laws.Reader.{first_is}
use Rattle.icu_locale_extensions.proofs.WrittenPieces.{whole_plain}

-- a singleton is no script, no region and no variant
record IsNone (p : List ℕ) : Type 0 where
  script : is_script p ≡ false
  region : is_region p ≡ false
  variant : is_variant p ≡ false

single_none : (p : List ℕ) → is_singleton p ≡ true → IsNone p
single_none [] is = absurd (false≢true is)
single_none (c ∷ []) is = record { script = refl; region = refl; variant = refl }
single_none (c ∷ d ∷ p) is = absurd (false≢true (grind (arith, nat_tests)))

-- behind `und`
pub und_front : (ps : List (List ℕ)) → first_is is_singleton ps ≡ true → (read_front (und ∷ ps) ≡ read_front (und ∷ [])) × (after_front (und ∷ ps) ≡ ps)
und_front [] is = absurd (false≢true is)
und_front (p ∷ ps) is =
    let none = single_none p is in
    (rw (none.script, none.region, none.variant) refl, rw (none.script, none.region, none.variant) refl)

pub pieces-und : (t : List ℕ) → pieces (codes "und-" ++ t) ≡ und ∷ pieces t
pieces-und t = slice_split_at is_separator und 45 t (whole_plain und refl) refl
