-- The place of a part is where it lies first among the pieces of a text.
use Rattle.std.proofs.Common.{◌≡◌, ◌↔◌, ◌⊎◌, inl, inr, ℕ, ◌≤◌, ◌+◌, suc, Bool, true, false, not, ◌&&◌, if◌then◌else◌, List, [], ◌∷◌, ◌++◌, length, take, drop, Option, Some, None, refl, ap, sym, subst, ◌∙◌, arith, append_assoc, length-append}
use Rattle.std.specs.Cmp.Lexicographic.{pointwise}
use Rattle.std.specs.List.{list_all, position}
use Rattle.std.proofs.lemmas.Bool.{and_parts, false≢true, not-true}
use Rattle.std.proofs.lemmas.List.{drop-drop, length-take-le}
use Rattle.std.proofs.lemmas.List.Quantifiers.{position-Some}
use Rattle.std.proofs.lemmas.Option.{none-some, same_Some}
use Rattle.icu_locale_core.specs.Identifier.{is_separator, pieces}
use Rattle.icu_locale_core.specs.laws.Cuts.{slice_split-position, slice_split-no_position}
use Rattle.icu_locale_extensions.specs.Extensions.{any_piece}
use Rattle.icu_locale_validity.specs.Places.{IsPlaceOf, LiesAmong, PassMarks, base_of, begins, behind, belongs, is_spelled, marks_behind, part_bytes, place_of, spaced, span_of, spells_part, stand, value_bytes}
use Rattle.icu_locale_validity.specs.declared.part.PartKind.{PartKind}
use Rattle.icu_locale_validity.proofs.Spelled.{kept, own, own_spells}

spaced_append : (ps qs : List (List ℕ)) → spaced (ps ++ qs) ≡ spaced ps + spaced qs
spaced_append [] qs = omega arith
spaced_append (p ∷ ps) qs = omega (arith, spaced_append ps qs)

-- what follows pieces of a text and their separators has the pieces that are left
abbrev IsFollowed : List (List ℕ) → Type 0
IsFollowed before = (r : List ℕ) (rest : List (List ℕ)) (t : List ℕ) → pieces t ≡ before ++ (r ∷ rest) → pieces (drop (spaced before) t) ≡ r ∷ rest

followed : (before : List (List ℕ)) → IsFollowed before
followed [] r rest t at = at
followed (p ∷ ps) r rest t at = by (followed ps) (position is_separator t) refl
  where
    by : IsFollowed ps → (o : Option ℕ) → position is_separator t ≡ o → pieces (drop (spaced (p ∷ ps)) t) ≡ r ∷ rest
    by ih None none =
        let alone : ps ++ (r ∷ rest) ≡ [] = cc (sym at ∙ slice_split-no_position is_separator t none) in
        absurd (omega (arith, ap length alone, length-append ps (r ∷ rest)))
    by ih (Some k) here =
        let parts : p ∷ (ps ++ (r ∷ rest)) ≡ take k t ∷ pieces (drop (k + 1) t) = sym at ∙ slice_split-position is_separator t k here in
        let first : p ≡ take k t = cc parts in
        let later : pieces (drop (k + 1) t) ≡ ps ++ (r ∷ rest) = cc parts in
        let within : length (take k t) ≡ k = length-take-le k t (omega (arith, (position-Some is_separator t k 0 here).0)) in
        let moved : (k + 1) + spaced ps ≡ spaced (p ∷ ps) = omega (arith, ap length first, within) in
        ap pieces (sym (drop-drop (spaced ps) (k + 1) t ∙ ap (λ j. drop j t) moved)) ∙ ih r rest (drop (k + 1) t) later

-- without pieces no marks are passed but none
none_to_pass : (ms : List (List ℕ)) → any_piece ms ≡ false → PassMarks [] ms
none_to_pass [] e = tt
none_to_pass (m ∷ ms) e = absurd (cc e)

none_passed : (ms : List (List ℕ)) → PassMarks [] ms → any_piece ms ≡ false
none_passed [] h = refl
none_passed (m ∷ ms) h = absurd (omega (arith, ap length h.3, length-append h.0 (h.1 ∷ h.2)))

-- what some pieces pass is passed with others before them
passed_behind : (front back ms : List (List ℕ)) → PassMarks back ms → PassMarks (front ++ back) ms
passed_behind front back [] h = tt
passed_behind front back (m ∷ ms) h = (front ++ h.0, h.1, h.2, ap (λ qs. front ++ qs) h.3 ∙ sym (append_assoc front h.0 (h.1 ∷ h.2)), h.4, h.5)

fewer_passed : (m : List ℕ) (ms ps : List (List ℕ)) → PassMarks ps (m ∷ ms) → PassMarks ps ms
fewer_passed m ms ps h =
    subst (λ qs. PassMarks qs ms) (sym h.3) (passed_behind h.0 (h.1 ∷ h.2) ms (passed_behind (h.1 ∷ []) h.2 ms h.5))

-- the first piece passes the first mark, or the others do
first_or_others : (p m : List ℕ) (ps ms : List (List ℕ)) → PassMarks (p ∷ ps) (m ∷ ms) → ((is_spelled p m ≡ true) × PassMarks ps ms) ⊎ PassMarks ps (m ∷ ms)
first_or_others p m ps ms h = by h.0 h.3
  where
    by : (front : List (List ℕ)) → p ∷ ps ≡ front ++ (h.1 ∷ h.2) → ((is_spelled p m ≡ true) × PassMarks ps ms) ⊎ PassMarks ps (m ∷ ms)
    by [] e =
        let same : p ≡ h.1 = cc e in
        let left : ps ≡ h.2 = cc e in
        inl (ap (λ q. is_spelled q m) same ∙ h.4, subst (λ qs. PassMarks qs ms) (sym left) h.5)
    by (q ∷ qs) e =
        let left : ps ≡ qs ++ (h.1 ∷ h.2) = cc e in
        inr (qs, h.1, h.2, left, h.4, h.5)

-- pieces pass marks where those behind the first pass what the first leaves
passed_later : (p : List ℕ) (ps ms : List (List ℕ)) → PassMarks (p ∷ ps) ms → PassMarks ps (marks_behind p ms)
passed_later p ps [] h = tt
passed_later p ps (m ∷ ms) h = by (is_spelled p m) refl (first_or_others p m ps ms h)
  where
    by : (b : Bool) → is_spelled p m ≡ b → ((is_spelled p m ≡ true) × PassMarks ps ms) ⊎ PassMarks ps (m ∷ ms) → PassMarks ps (if b then ms else m ∷ ms)
    by true is (inl here) = here.1
    by true is (inr later) = fewer_passed m ms ps later
    by false is (inl here) = absurd (false≢true (sym is ∙ here.0))
    by false is (inr later) = later

passed_sooner : (p : List ℕ) (ps ms : List (List ℕ)) → PassMarks ps (marks_behind p ms) → PassMarks (p ∷ ps) ms
passed_sooner p ps [] h = tt
passed_sooner p ps (m ∷ ms) h = by (is_spelled p m) refl h
  where
    by : (b : Bool) → is_spelled p m ≡ b → PassMarks ps (if b then ms else m ∷ ms) → PassMarks (p ∷ ps) (m ∷ ms)
    by true is left = ([], p, ps, refl, is, left)
    by false is left = (p ∷ left.0, left.1, left.2, ap (λ qs. p ∷ qs) left.3, left.4, left.5)

module _ (kind : PartKind) where
  -- the first of these pieces does not belong to a part
  abbrev IsEnded : ℕ → List (List ℕ) → Type 0
  IsEnded long after = (p : List ℕ) (ps : List (List ℕ)) → after ≡ p ∷ ps → belongs kind long p ≡ false

  -- pieces that all belong to a part, before some of which the first does not, are those that belong to it
  own_all : (long : ℕ) (value after : List (List ℕ)) → list_all (belongs kind long) value ≡ true → IsEnded long after → own kind long (value ++ after) ≡ value
  own_all long [] [] all ended = refl
  own_all long [] (p ∷ ps) all ended = ap (λ b. if b then p ∷ own kind long ps else []) (ended p ps refl)
  own_all long (v ∷ vs) after all ended =
      let parts = and_parts (belongs kind long v) (list_all (belongs kind long) vs) all in
      ap (λ b. if b then v ∷ own kind long (vs ++ after) else []) parts.0 ∙ ap (λ ps. v ∷ ps) (own_all long vs after parts.1 ended)

  bytes_all : (long : ℕ) (value after : List (List ℕ)) → list_all (belongs kind long) value ≡ true → IsEnded long after → value_bytes kind long (value ++ after) ≡ spaced value
  bytes_all long [] [] all ended = refl
  bytes_all long [] (p ∷ ps) all ended = ap (λ b. if b then suc (length p + value_bytes kind long ps) else 0) (ended p ps refl)
  bytes_all long (v ∷ vs) after all ended =
      let parts = and_parts (belongs kind long v) (list_all (belongs kind long) vs) all in
      ap (λ b. if b then suc (length v + value_bytes kind long (vs ++ after)) else 0) parts.0 ∙ ap (λ n. suc (length v + n)) (bytes_all long vs after parts.1 ended)

  -- the pieces behind those that belong to a part
  abbrev others : ℕ → List (List ℕ) → List (List ℕ)
  others long [] = []
  others long (p ∷ ps) = if belongs kind long p then others long ps else p ∷ ps

  own_others : (long : ℕ) (ps : List (List ℕ)) → ps ≡ own kind long ps ++ others long ps
  own_others long [] = refl
  own_others long (p ∷ ps) = by (belongs kind long p) (own_others long ps)
    where
      by : (b : Bool) → ps ≡ own kind long ps ++ others long ps → p ∷ ps ≡ (if b then p ∷ own kind long ps else []) ++ (if b then others long ps else p ∷ ps)
      by true ih = ap (λ qs. p ∷ qs) ih
      by false ih = refl

  all_own : (long : ℕ) (ps : List (List ℕ)) → list_all (belongs kind long) (own kind long ps) ≡ true
  all_own long [] = refl
  all_own long (p ∷ ps) = by (belongs kind long p) refl (all_own long ps)
    where
      by : (b : Bool) → belongs kind long p ≡ b → list_all (belongs kind long) (own kind long ps) ≡ true → list_all (belongs kind long) (if b then p ∷ own kind long ps else []) ≡ true
      by true is ih = ap (λ d. d && list_all (belongs kind long) (own kind long ps)) is ∙ ih
      by false is ih = refl

  others_ended : (long : ℕ) (ps : List (List ℕ)) → IsEnded long (others long ps)
  others_ended long [] = λ q qs e. absurd (cc e)
  others_ended long (p ∷ ps) = by (belongs kind long p) refl (others_ended long ps)
    where
      by : (b : Bool) → belongs kind long p ≡ b → IsEnded long (others long ps) → IsEnded long (if b then others long ps else p ∷ ps)
      by true is ih = ih
      by false is ih = λ q qs e. (let same : p ≡ q = cc e in ap (belongs kind long) (sym same) ∙ is)

  -- own pieces that spell a part are at the front, and those at the front spell it
  front : (ws : List (List ℕ)) (first : List ℕ) (value after : List (List ℕ)) → spells_part kind ws (first ∷ value) ≡ true
      → list_all (belongs kind (length first)) value ≡ true → IsEnded (length first) after → begins kind ws (first ∷ (value ++ after)) ≡ true
  front [] first value after e all ended = absurd (cc e)
  front (w ∷ ws) first value after e all ended =
      ap (λ b. is_spelled first w && b)
      (own_spells kind (length first) ws (value ++ after) ∙ ap (λ qs. pointwise is_spelled (kept kind qs) ws) (own_all (length first) value after all ended)) ∙ e

  spelled_front : (ws : List (List ℕ)) (p : List ℕ) (ps : List (List ℕ)) → begins kind ws (p ∷ ps) ≡ true → spells_part kind ws (p ∷ own kind (length p) ps) ≡ true
  spelled_front [] p ps e = absurd (cc e)
  spelled_front (w ∷ ws) p ps e = ap (λ b. is_spelled p w && b) (sym (own_spells kind (length p) ws ps)) ∙ e

  -- a part stands at a byte that is no later than another
  record StandsBy (ms ws ps : List (List ℕ)) (most : ℕ) : Type 0 where
    pub place : ℕ
    pub found : stand kind ms ws ps ≡ Some place
    pub within : place ≤ most

  -- where a part is at the front behind pieces that pass all marks, it stands there or sooner
  reached : (before ms ws : List (List ℕ)) (first : List ℕ) (rest : List (List ℕ)) → PassMarks before ms
      → begins kind ws (first ∷ rest) ≡ true → StandsBy ms ws (before ++ (first ∷ rest)) (spaced before)
  reached [] ms ws first rest passed begun = record {
    place = 0;
    found = ap (λ b. if b then Some 0 else behind first (stand kind (marks_behind first ms) ws rest)) (ap (λ b. not b && begins kind ws (first ∷ rest)) (none_passed ms passed) ∙ begun);
    within = omega arith;
  }
  reached (p ∷ ps) ms ws first rest passed begun =
      by (not (any_piece ms) && begins kind ws (p ∷ (ps ++ (first ∷ rest)))) refl (reached ps (marks_behind p ms) ws first rest (passed_later p ps ms passed) begun)
    where
      chosen : (b : Bool) → (not (any_piece ms) && begins kind ws (p ∷ (ps ++ (first ∷ rest)))) ≡ b
          → stand kind ms ws (p ∷ (ps ++ (first ∷ rest))) ≡ (if b then Some 0 else behind p (stand kind (marks_behind p ms) ws (ps ++ (first ∷ rest))))
      chosen b is = ap (λ d. if d then Some 0 else behind p (stand kind (marks_behind p ms) ws (ps ++ (first ∷ rest)))) is

      by : (b : Bool) → (not (any_piece ms) && begins kind ws (p ∷ (ps ++ (first ∷ rest)))) ≡ b → StandsBy (marks_behind p ms) ws (ps ++ (first ∷ rest)) (spaced ps)
          → StandsBy ms ws (p ∷ (ps ++ (first ∷ rest))) (spaced (p ∷ ps))
      by true is ih = record { place = 0; found = chosen true is; within = omega arith }
      by false is ih = record { place = suc (length p) + ih.place; found = chosen false is ∙ ap (behind p) ih.found; within = omega (arith, ih.within) }

  stands_by : (ms ws ps before : List (List ℕ)) (first : List ℕ) (value after : List (List ℕ)) → LiesAmong kind ms ws ps before first value after → StandsBy ms ws ps (spaced before)
  stands_by ms ws ps before first value after lies =
      subst (λ qs. StandsBy ms ws qs (spaced before)) (sym lies.split)
      (reached before ms ws first (value ++ after) lies.passed (front ws first value after lies.spelled lies.belong lies.ended))

  -- a part lies among pieces, and behind so many bytes
  record LiesBehind (ms ws ps : List (List ℕ)) (n : ℕ) : Type 0 where
    pub before : List (List ℕ)
    pub first : List ℕ
    pub value : List (List ℕ)
    pub after : List (List ℕ)
    pub lies : LiesAmong kind ms ws ps before first value after
    pub here : n ≡ spaced before

  -- where a part stands, it lies
  lies_behind : (ws ps ms : List (List ℕ)) (n : ℕ) → stand kind ms ws ps ≡ Some n → LiesBehind ms ws ps n
  lies_behind ws [] ms n e = absurd (none-some n e)
  lies_behind ws (p ∷ ps) ms n e = by (not (any_piece ms) && begins kind ws (p ∷ ps)) refl (λ m is. lies_behind ws ps (marks_behind p ms) m is)
    where
      chosen : (b : Bool) → (not (any_piece ms) && begins kind ws (p ∷ ps)) ≡ b → (if b then Some 0 else behind p (stand kind (marks_behind p ms) ws ps)) ≡ Some n
      chosen b is = sym (ap (λ d. if d then Some 0 else behind p (stand kind (marks_behind p ms) ws ps)) is) ∙ e

      moved : (m : ℕ) → behind p (Some m) ≡ Some n → LiesBehind (marks_behind p ms) ws ps m → LiesBehind ms ws (p ∷ ps) n
      moved m found ih = record {
        before = p ∷ ih.before;
        first = ih.first;
        value = ih.value;
        after = ih.after;
        lies = record {
          split = ap (λ qs. p ∷ qs) ih.lies.split;
          passed = passed_sooner p ih.before ms ih.lies.passed;
          spelled = ih.lies.spelled;
          belong = ih.lies.belong;
          ended = ih.lies.ended;
        };
        here = omega (arith, same_Some _ _ found, ih.here);
      }

      later : (o : Option ℕ) → stand kind (marks_behind p ms) ws ps ≡ o → behind p o ≡ Some n
          → ((m : ℕ) → stand kind (marks_behind p ms) ws ps ≡ Some m → LiesBehind (marks_behind p ms) ws ps m) → LiesBehind ms ws (p ∷ ps) n
      later None is found ih = absurd (none-some n found)
      later (Some m) is found ih = moved m found (ih m is)

      by : (b : Bool) → (not (any_piece ms) && begins kind ws (p ∷ ps)) ≡ b
          → ((m : ℕ) → stand kind (marks_behind p ms) ws ps ≡ Some m → LiesBehind (marks_behind p ms) ws ps m) → LiesBehind ms ws (p ∷ ps) n
      by true is ih =
          let both = and_parts (not (any_piece ms)) (begins kind ws (p ∷ ps)) is in
          record {
            before = [];
            first = p;
            value = own kind (length p) ps;
            after = others (length p) ps;
            lies = record {
              split = ap (λ qs. p ∷ qs) (own_others (length p) ps);
              passed = none_to_pass ms (not-true (any_piece ms) both.0);
              spelled = spelled_front ws p ps both.1;
              belong = all_own (length p) ps;
              ended = others_ended (length p) ps;
            };
            here = sym (same_Some _ _ (chosen true is));
          }
      by false is ih = later (stand kind (marks_behind p ms) ws ps) refl (chosen false is) ih

  -- the bytes of a part that lies in a text end with its own pieces
  ends : (ms ws : List (List ℕ)) (t : List ℕ) (before : List (List ℕ)) (first : List ℕ) (value after : List (List ℕ))
      → LiesAmong kind ms ws (pieces t) before first value after
      → suc (spaced before + part_bytes kind (pieces (drop (spaced before) t))) ≡ spaced (before ++ (first ∷ value))
  ends ms ws t before first value after lies =
      omega (
        arith,
        ap (part_bytes kind) (followed before first (value ++ after) t lies.split),
        bytes_all (length first) value after lies.belong lies.ended,
        spaced_append before (first ∷ value),
      )

module _ (t : List ℕ) (kind : PartKind) (ms : List (List ℕ)) (w : List ℕ) where
  abbrev whole : List (List ℕ)
  whole = pieces (base_of t)

  abbrev stood : Option ℕ
  stood = stand kind ms (pieces w) whole

  abbrev IsHere : ℕ × ℕ → Type 0
  IsHere place = IsPlaceOf t kind ms w place

  is_place : IsHere (place_of t kind ms w)
  is_place = by stood refl
    where
      at : (n : ℕ) → stood ≡ Some n → LiesBehind kind ms (pieces w) whole n → IsHere (span_of kind t (Some n))
      at n is l = inl (record {
        before = l.before;
        first = l.first;
        value = l.value;
        after = l.after;
        lies = l.lies;
        begins_at = l.here;
        ends_at =
            ap (λ k. suc (k + part_bytes kind (pieces (drop k (base_of t))))) l.here
            ∙ ends kind ms (pieces w) (base_of t) l.before l.first l.value l.after l.lies;
        soonest = λ others p vs qs other.
            let found = stands_by kind ms (pieces w) whole others p vs qs other in
            omega (arith, same_Some _ _ (sym is ∙ found.found), found.within);
      })

      by : (o : Option ℕ) → stood ≡ o → IsHere (span_of kind t o)
      by None is = inr (
        (λ before first value after lies.
            let found = stands_by kind ms (pieces w) whole before first value after lies in
            none-some found.place (sym is ∙ found.found)),
        refl,
      )
      by (Some n) is = at n is (lies_behind kind (pieces w) whole ms n is)

  only : (place : ℕ × ℕ) → IsHere place → place_of t kind ms w ≡ place
  only place (inl l) = by (stands_by kind ms (pieces w) whole l.before l.first l.value l.after l.lies)
    where
      by : StandsBy kind ms (pieces w) whole (spaced l.before) → place_of t kind ms w ≡ place
      by s =
          let sooner : LiesBehind kind ms (pieces w) whole s.place = lies_behind kind (pieces w) whole ms s.place s.found in
          let from : s.place ≡ place.0 =
          omega (arith, s.within, l.begins_at, sooner.here, l.soonest sooner.before sooner.first sooner.value sooner.after sooner.lies) in
          let to : s.place + part_bytes kind (pieces (drop s.place (base_of t))) ≡ place.1 =
          omega (
            arith,
            ap (λ k. k + part_bytes kind (pieces (drop k (base_of t)))) (from ∙ l.begins_at),
            ends kind ms (pieces w) (base_of t) l.before l.first l.value l.after l.lies,
            l.ends_at,
          ) in
          let same : (s.place, s.place + part_bytes kind (pieces (drop s.place (base_of t)))) ≡ place = λ i. (from i, to i) in
          ap (span_of kind t) s.found ∙ same
  only place (inr none) = by stood refl
    where
      by : (o : Option ℕ) → stood ≡ o → span_of kind t o ≡ place
      by None is = sym none.1
      by (Some n) is =
          let l : LiesBehind kind ms (pieces w) whole n = lies_behind kind (pieces w) whole ms n is in
          absurd (none.0 l.before l.first l.value l.after l.lies)

  there : (place : ℕ × ℕ) → place_of t kind ms w ≡ place → IsHere place
  there place e = subst IsHere e is_place

pub places : (t : List ℕ) (kind : PartKind) (ms : List (List ℕ)) (w : List ℕ) (place : ℕ × ℕ) → (place_of t kind ms w ≡ place) ↔ IsPlaceOf t kind ms w place
places t kind ms w place = (there t kind ms w place, only t kind ms w place)
