-- The bytes at the place of a part spell it.
use Rattle.std.proofs.Common.{◌≡◌, ◌⊎◌, inl, inr, ℕ, ◌+◌, ◌-◌, suc, Bool, true, false, cond, not, ◌&&◌, if◌then◌else◌, List, [], ◌∷◌, length, take, drop, filter, Option, Some, None, refl, ap, sym, ◌∙◌, arith}
use Rattle.std.specs.Cmp.Lexicographic.{pointwise}
use Rattle.std.specs.List.{onto_first, position}
use Rattle.std.proofs.lemmas.Bool.{and_parts}
use Rattle.std.proofs.lemmas.List.{drop-drop, length-take-le}
use Rattle.std.proofs.lemmas.List.Quantifiers.{position-Some}
use Rattle.std.proofs.lemmas.Option.{none-some, same_Some}
use Rattle.icu_locale_core.specs.Identifier.{is_separator, pieces}
use Rattle.icu_locale_core.specs.laws.Cuts.{slice_split-position, slice_split-no_position}
use Rattle.icu_locale_extensions.specs.Extensions.{any_piece}
use Rattle.icu_locale_validity.specs.Places.{base_of, begins, behind, behind_first, belongs, bytes_at, is_first, is_left_out, is_spelled, marks_behind, part_bytes, place_of, span_of, spells_part, spells_value, stand, value_bytes}
use Rattle.icu_locale_validity.specs.declared.part.PartKind.{PartKind}
use Rattle.icu_locale_validity.proofs.Lies.{HasFirst, has_first}

module _ (kind : PartKind) where
  -- the pieces that belong to a part
  abbrev pub own : ℕ → List (List ℕ) → List (List ℕ)
  own long [] = []
  own long (p ∷ ps) = if belongs kind long p then p ∷ own long ps else []

  abbrev pub kept : List (List ℕ) → List (List ℕ)
  kept ps = filter (λ q. not (is_left_out kind q)) ps

  none_left : (ws : List (List ℕ)) → not (any_piece ws) ≡ pointwise is_spelled [] ws
  none_left [] = refl
  none_left (w ∷ ws) = refl

  -- they spell others where those that are kept are these
  pub own_spells : (long : ℕ) (ws ps : List (List ℕ)) → spells_value kind long ws ps ≡ pointwise is_spelled (kept (own long ps)) ws
  own_spells long ws [] = none_left ws
  own_spells long ws (p ∷ ps) = by (belongs kind long p) (is_left_out kind p) refl (λ vs. own_spells long vs ps)
    where
      one : (vs : List (List ℕ)) → ((us : List (List ℕ)) → spells_value kind long us ps ≡ pointwise is_spelled (kept (own long ps)) us)
          → (is_first p vs && spells_value kind long (behind_first vs) ps) ≡ pointwise is_spelled (p ∷ kept (own long ps)) vs
      one [] ih = refl
      one (v ∷ vs) ih = ap (λ b. is_spelled p v && b) (ih vs)

      by : (b c : Bool) → is_left_out kind p ≡ c → ((us : List (List ℕ)) → spells_value kind long us ps ≡ pointwise is_spelled (kept (own long ps)) us)
          → (if b then (if c then spells_value kind long ws ps else is_first p ws && spells_value kind long (behind_first ws) ps) else not (any_piece ws))
          ≡ pointwise is_spelled (kept (if b then p ∷ own long ps else [])) ws
      by false c is ih = none_left ws
      by true true is ih = ih ws ∙ ap (λ d. pointwise is_spelled (cond (not d) (p ∷ kept (own long ps)) (kept (own long ps))) ws) (sym is)
      by true false is ih = one ws ih ∙ ap (λ d. pointwise is_spelled (cond (not d) (p ∷ kept (own long ps)) (kept (own long ps))) ws) (sym is)

  -- the bytes of the first piece and of those that belong to a part whose first is so long, and these pieces
  abbrev bytes_by : ℕ → List (List ℕ) → ℕ
  bytes_by long [] = 0
  bytes_by long (p ∷ ps) = length p + value_bytes kind long ps

  abbrev firsts_by : ℕ → List (List ℕ) → List (List ℕ)
  firsts_by long [] = []
  firsts_by long (p ∷ ps) = p ∷ own long ps

  -- the text of these bytes has these pieces
  cut_at : (long : ℕ) (t : List ℕ) → pieces (take (bytes_by long (pieces t)) t) ≡ firsts_by long (pieces t)
  cut_at long [] = refl
  cut_at long (c ∷ t) = by (is_separator c) refl (pieces t) refl (has_first t) (cut_at long t)
    where
      split : (b : Bool) → is_separator c ≡ b → (u : List ℕ) → pieces (c ∷ u) ≡ cond b ([] ∷ pieces u) (onto_first c (pieces u))
      split b is u = ap (λ d. cond d ([] ∷ pieces u) (onto_first c (pieces u))) is

      next : (h : List ℕ) (hs : List (List ℕ)) (d : Bool) → is_separator c ≡ true → pieces (take (bytes_by long (h ∷ hs)) t) ≡ h ∷ own long hs
          → pieces (take (if d then suc (length h + value_bytes kind long hs) else 0) (c ∷ t)) ≡ [] ∷ (if d then h ∷ own long hs else [])
      next h hs true sep ih = split true sep (take (length h + value_bytes kind long hs) t) ∙ ap (λ ps. [] ∷ ps) ih
      next h hs false sep ih = refl

      by : (b : Bool) → is_separator c ≡ b → (ps : List (List ℕ)) → pieces t ≡ ps → HasFirst ps
          → pieces (take (bytes_by long (pieces t)) t) ≡ firsts_by long (pieces t)
          → pieces (take (bytes_by long (pieces (c ∷ t))) (c ∷ t)) ≡ firsts_by long (pieces (c ∷ t))
      by b is [] at has ih = absurd (cc has.parts)
      by true is (h ∷ hs) at has ih =
          let whole : pieces (c ∷ t) ≡ [] ∷ (h ∷ hs) = split true is t ∙ ap (λ ps. [] ∷ ps) at in
          let less : bytes_by long ([] ∷ (h ∷ hs)) ≡ value_bytes kind long (h ∷ hs) = omega arith in
          ap (λ ps. pieces (take (bytes_by long ps) (c ∷ t))) whole ∙ ap (λ k. pieces (take k (c ∷ t))) less
          ∙ next h hs (belongs kind long h) is (sym (ap (λ ps. pieces (take (bytes_by long ps) t)) at) ∙ ih ∙ ap (firsts_by long) at)
          ∙ sym (ap (firsts_by long) whole)
      by false is (h ∷ hs) at has ih =
          let whole : pieces (c ∷ t) ≡ (c ∷ h) ∷ hs = split false is t ∙ ap (onto_first c) at in
          let below : pieces (take (length h + value_bytes kind long hs) t) ≡ h ∷ own long hs =
          sym (ap (λ ps. pieces (take (bytes_by long ps) t)) at) ∙ ih ∙ ap (firsts_by long) at in
          let more : length (c ∷ h) + value_bytes kind long hs ≡ suc (length h + value_bytes kind long hs) = omega arith in
          ap (λ ps. pieces (take (bytes_by long ps) (c ∷ t))) whole ∙ ap (λ k. pieces (take k (c ∷ t))) more
          ∙ split false is (take (length h + value_bytes kind long hs) t) ∙ ap (onto_first c) below
          ∙ sym (ap (firsts_by long) whole)

  -- a part at the front of a text is spelled by its bytes
  front_spells : (ws : List (List ℕ)) (t : List ℕ) → begins kind ws (pieces t) ≡ true → spells_part kind ws (pieces (take (part_bytes kind (pieces t)) t)) ≡ true
  front_spells ws t e = by (pieces t) refl ws e
    where
      by : (ps : List (List ℕ)) → pieces t ≡ ps → (vs : List (List ℕ)) → begins kind vs ps ≡ true → spells_part kind vs (pieces (take (part_bytes kind (pieces t)) t)) ≡ true
      by [] at [] e = absurd (cc e)
      by [] at (v ∷ vs) e = absurd (cc e)
      by (p ∷ ps) at [] e = absurd (cc e)
      by (p ∷ ps) at (v ∷ vs) e =
          let cut : pieces (take (part_bytes kind (pieces t)) t) ≡ p ∷ own (length p) ps =
          ap (λ qs. pieces (take (part_bytes kind qs) t)) at ∙ sym (ap (λ qs. pieces (take (bytes_by (length p) qs) t)) at)
          ∙ cut_at (length p) t ∙ ap (firsts_by (length p)) at in
          ap (spells_part kind (v ∷ vs)) cut ∙ ap (λ b. is_spelled p v && b) (sym (own_spells (length p) vs ps)) ∙ e

  -- where a part stands in these pieces it is at the front of what is left
  abbrev IsFrontLater : (ws ps ms : List (List ℕ)) → Type 0
  IsFrontLater ws ps ms = (t : List ℕ) (n : ℕ) → pieces t ≡ ps → stand kind ms ws ps ≡ Some n → begins kind ws (pieces (drop n t)) ≡ true

  stands_front : (ws ps ms : List (List ℕ)) → IsFrontLater ws ps ms
  stands_front ws [] ms t n at e = absurd (none-some n e)
  stands_front ws (p ∷ ps) ms t n at e = by (not (any_piece ms) && begins kind ws (p ∷ ps)) refl (λ u m. stands_front ws ps (marks_behind p ms) u m)
    where
      chosen : (b : Bool) → (not (any_piece ms) && begins kind ws (p ∷ ps)) ≡ b → (if b then Some 0 else behind p (stand kind (marks_behind p ms) ws ps)) ≡ Some n
      chosen b is = sym (ap (λ d. if d then Some 0 else behind p (stand kind (marks_behind p ms) ws ps)) is) ∙ e

      cut : (m : ℕ) → stand kind (marks_behind p ms) ws ps ≡ Some m → behind p (Some m) ≡ Some n → IsFrontLater ws ps (marks_behind p ms)
          → (o : Option ℕ) → position is_separator t ≡ o → begins kind ws (pieces (drop n t)) ≡ true
      cut m is found ih None none =
          let alone : ps ≡ [] = cc (sym at ∙ slice_split-no_position is_separator t none) in
          absurd (none-some m (sym (ap (stand kind (marks_behind p ms) ws) alone) ∙ is))
      cut m is found ih (Some k) here =
          let parts : p ∷ ps ≡ take k t ∷ pieces (drop (k + 1) t) = sym at ∙ slice_split-position is_separator t k here in
          let first : p ≡ take k t = cc parts in
          let rest : pieces (drop (k + 1) t) ≡ ps = cc parts in
          let within : length (take k t) ≡ k = length-take-le k t (omega (arith, (position-Some is_separator t k 0 here).0)) in
          let moved : (k + 1) + m ≡ n = omega (arith, same_Some _ _ found, ap length first, within) in
          ap (λ u. begins kind ws (pieces u)) (sym (drop-drop m (k + 1) t ∙ ap (λ j. drop j t) moved))
          ∙ ih (drop (k + 1) t) m rest is

      later : (o : Option ℕ) → stand kind (marks_behind p ms) ws ps ≡ o → behind p o ≡ Some n → IsFrontLater ws ps (marks_behind p ms) → begins kind ws (pieces (drop n t)) ≡ true
      later None is found ih = absurd (none-some n found)
      later (Some m) is found ih = cut m is found ih (position is_separator t) refl

      by : (b : Bool) → (not (any_piece ms) && begins kind ws (p ∷ ps)) ≡ b → IsFrontLater ws ps (marks_behind p ms) → begins kind ws (pieces (drop n t)) ≡ true
      by true is ih =
          let none : 0 ≡ n = same_Some _ _ (chosen true is) in
          ap (λ j. begins kind ws (pieces (drop j t))) (sym none) ∙ ap (begins kind ws) at ∙ (and_parts (not (any_piece ms)) (begins kind ws (p ∷ ps)) is).1
      by false is ih = later (stand kind (marks_behind p ms) ws ps) refl (chosen false is) ih

pub spelled : (t : List ℕ) (kind : PartKind) (ms : List (List ℕ)) (w : List ℕ)
    → (place_of t kind ms w ≡ (0, length t)) ⊎ (spells_part kind (pieces w) (pieces (bytes_at (base_of t) (place_of t kind ms w))) ≡ true)
spelled t kind ms w = by (stand kind ms (pieces w) (pieces (base_of t))) refl
  where
    by : (o : Option ℕ) → stand kind ms (pieces w) (pieces (base_of t)) ≡ o
        → (span_of kind t o ≡ (0, length t)) ⊎ (spells_part kind (pieces w) (pieces (bytes_at (base_of t) (span_of kind t o))) ≡ true)
    by None is = inl refl
    by (Some n) is =
        let rest : List ℕ = drop n (base_of t) in
        let long : (n + part_bytes kind (pieces rest)) - n ≡ part_bytes kind (pieces rest) = omega arith in
        inr (ap (λ k. spells_part kind (pieces w) (pieces (take k rest))) long
        ∙ front_spells kind (pieces w) rest (stands_front kind (pieces w) (pieces (base_of t)) ms (base_of t) n refl is))
