-- The place of a part lies in the text.
use Rattle.std.proofs.Common.{◌≡◌, ℕ, ◌≤◌, ◌<◌, ◌+◌, suc, Bool, true, false, cond, not, ◌&&◌, if◌then◌else◌, List, [], ◌∷◌, length, drop, Option, Some, None, refl, ap, sym, ◌∙◌, arith}
use Rattle.std.specs.List.{onto_first, position_or_len}
use Rattle.std.proofs.lemmas.List.{length-drop, length-take}
use Rattle.std.proofs.lemmas.Option.{none-some, same_Some}
use Rattle.icu_locale_core.specs.Identifier.{is_separator, pieces}
use Rattle.icu_locale_extensions.specs.Extensions.{any_piece}
use Rattle.icu_locale_extensions.specs.Syntaxes.{ends_base}
use Rattle.icu_locale_validity.specs.Places.{base_of, begins, behind, belongs, marks_behind, part_bytes, place_of, spaced, span_of, stand, value_bytes}
use Rattle.icu_locale_validity.specs.declared.part.PartKind.{PartKind}

-- a piece follows each separator, and the first one
pub record HasFirst (ps : List (List ℕ)) : Type 0 where
  pub first : List ℕ
  pub others : List (List ℕ)
  pub parts : ps ≡ first ∷ others

onto : (c : ℕ) (ps : List (List ℕ)) → HasFirst ps → HasFirst (onto_first c ps)
onto c [] has = record { first = c ∷ []; others = []; parts = refl }
onto c (p ∷ ps) has = record { first = c ∷ p; others = ps; parts = refl }

pub has_first : (t : List ℕ) → HasFirst (pieces t)
has_first [] = record { first = []; others = []; parts = refl }
has_first (c ∷ t) = by (is_separator c) (has_first t)
  where
    by : (b : Bool) → HasFirst (pieces t) → HasFirst (cond b ([] ∷ pieces t) (onto_first c (pieces t)))
    by true has = record { first = []; others = pieces t; parts = refl }
    by false has = onto c (pieces t) has

-- all pieces with a separator after each have a byte more than the text
spaced_pieces : (t : List ℕ) → spaced (pieces t) ≡ suc (length t)
spaced_pieces [] = refl
spaced_pieces (c ∷ t) = by (is_separator c) (spaced_pieces t) (has_first t)
  where
    longer : (ps : List (List ℕ)) → HasFirst ps → spaced (onto_first c ps) ≡ suc (spaced ps)
    longer [] has = absurd (cc has.parts)
    longer (p ∷ ps) has = omega arith

    by : (b : Bool) → spaced (pieces t) ≡ suc (length t) → HasFirst (pieces t) → spaced (cond b ([] ∷ pieces t) (onto_first c (pieces t))) ≡ suc (length (c ∷ t))
    by true ih has = omega (arith, ih)
    by false ih has = longer (pieces t) has ∙ ap suc ih

module _ (kind : PartKind) where
  -- what belongs to a part has no more bytes than all pieces
  value_within : (long : ℕ) (ps : List (List ℕ)) → value_bytes kind long ps ≤ spaced ps
  value_within long [] = omega arith
  value_within long (p ∷ ps) = by (belongs kind long p) (value_within long ps)
    where
      by : (b : Bool) → value_bytes kind long ps ≤ spaced ps → (if b then suc (length p + value_bytes kind long ps) else 0) ≤ spaced (p ∷ ps)
      by true ih = omega (arith, ih)
      by false ih = omega arith

  pub part_within : (t : List ℕ) → part_bytes kind (pieces t) ≤ length t
  part_within t = by (pieces t) (spaced_pieces t)
    where
      by : (ps : List (List ℕ)) → spaced ps ≡ suc (length t) → part_bytes kind ps ≤ length t
      by [] e = omega arith
      by (p ∷ ps) e = omega (arith, e, value_within (length p) ps)

  stands_within : (ms ws ps : List (List ℕ)) (n : ℕ) → stand kind ms ws ps ≡ Some n → n < spaced ps
  stands_within ms ws [] n e = absurd (none-some n e)
  stands_within ms ws (p ∷ ps) n e = by (not (any_piece ms) && begins kind ws (p ∷ ps)) refl (stand kind (marks_behind p ms) ws ps) refl
      (λ m is. stands_within (marks_behind p ms) ws ps m is)
    where
      later : (o : Option ℕ) → stand kind (marks_behind p ms) ws ps ≡ o → ((m : ℕ) → stand kind (marks_behind p ms) ws ps ≡ Some m → m < spaced ps)
          → behind p o ≡ Some n → n < spaced (p ∷ ps)
      later None is ih found = absurd (none-some n found)
      later (Some m) is ih found = omega (arith, same_Some _ _ found, ih m is)

      by : (b : Bool) → (not (any_piece ms) && begins kind ws (p ∷ ps)) ≡ b → (o : Option ℕ) → stand kind (marks_behind p ms) ws ps ≡ o
          → ((m : ℕ) → stand kind (marks_behind p ms) ws ps ≡ Some m → m < spaced ps) → n < spaced (p ∷ ps)
      by true is o other ih =
          let at : Some 0 ≡ Some n = sym (ap (λ b. if b then Some 0 else behind p (stand kind (marks_behind p ms) ws ps)) is) ∙ e in
          omega (arith, same_Some _ _ at)
      by false is o other ih =
          later o other ih (ap (behind p) (sym other) ∙ sym (ap (λ b. if b then Some 0 else behind p (stand kind (marks_behind p ms) ws ps)) is) ∙ e)

base_within : (t : List ℕ) → length (base_of t) ≤ length t
base_within t = omega (arith, length-take (position_or_len ends_base t) t)

pub lies : (t : List ℕ) (kind : PartKind) (ms : List (List ℕ)) (w : List ℕ) → ((place_of t kind ms w).0 ≤ (place_of t kind ms w).1) × ((place_of t kind ms w).1 ≤ length t)
lies t kind ms w = by (stand kind ms (pieces w) (pieces (base_of t))) refl
  where
    by : (o : Option ℕ) → stand kind ms (pieces w) (pieces (base_of t)) ≡ o → ((span_of kind t o).0 ≤ (span_of kind t o).1) × ((span_of kind t o).1 ≤ length t)
    by None is = (omega arith, omega arith)
    by (Some n) is = (
      omega arith,
      omega (
        arith,
        stands_within kind ms (pieces w) (pieces (base_of t)) n is,
        spaced_pieces (base_of t),
        base_within t,
        part_within kind (drop n (base_of t)),
        length-drop n (base_of t),
      ),
    )
