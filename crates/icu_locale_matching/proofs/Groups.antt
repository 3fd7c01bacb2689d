-- The candidates by their languages.
use Rattle.std.proofs.Common.{◌≡◌, ◌≢◌, ◌⊎◌, ℕ, ◌+◌, ◌<◌, zero, suc, Bool, true, false, List, [], ◌∷◌, length, Option, Some, None, IsSome, is_some, refl, ap, sym, ◌∙◌, subst, inl, inr, ⊎_elim, arith, if◌then◌else◌}
use Rattle.std.specs.Prelude.{Vec}
use Rattle.std.specs.Global.{Global}
use Rattle.std.specs.List.{All, slice_get, filter, enumerate_from}
use Rattle.std.specs.Option.{option_map}
use Rattle.std.specs.BTreeMap.{insert_entry}
use Rattle.std.specs.declared.cmp.Ordering.{Ordering}
use Rattle.std.specs.declared.cmp.Ordering.TheVariants.{Less, Equal, Greater}
use Rattle.std.proofs.lemmas.Bool.{cases_lt, false≢true}
use Rattle.std.proofs.lemmas.Option.{same_Some, none-some, slice_get_within, slice_get-map, slice_get_cases, get_or_from_slice_get}
use Rattle.std.proofs.lemmas.List.{length-map}
use Rattle.std.proofs.lemmas.List.Elements.{All-same, All-filter}
use Rattle.std.proofs.lemmas.List.FromFn.{length-enumerate_from}
use Rattle.std.proofs.lemmas.Slice.Eq.{bytes_eq-Decides}
use Rattle.icu_locale_core.specs.TextSet.{text_cmp}
use Rattle.icu_locale_core.specs.Maps.{value_at}
use Rattle.icu_locale_core.specs.laws.TextSets.{text_same, text_total}
use Rattle.icu_provider.specs.laws.SortedMaps.{found_inserted, others_inserted}
use Rattle.icu_locale_matching.specs.inner.Made.{candidate_of, candidates_of, has_language, IsGrouped}
use Rattle.icu_locale_matching.specs.inner.Asked.{IsRowOf}
use Rattle.icu_locale_core.specs.declared.langid.LanguageIdentifier.{LanguageIdentifier}
use Rattle.icu_provider.specs.declared.matching.LanguageMatching.{LanguageMatching}
use Rattle.icu_locale.specs.LikelySubtags.{LikelySubtags}
use Rattle.icu_locale_matching.specs.declared.candidates.Candidate.{Candidate}

-- ---- one more candidate

tie_or_not : (o : Ordering) → (o ≡ Equal) ⊎ (o ≢ Equal)
tie_or_not Less = inr (λ e. absurd (cc))
tie_or_not Equal = inl refl
tie_or_not Greater = inr (λ e. absurd (cc))

some_of : {A : Type 0} (o : Option A) (x : A) → o ≡ Some x → IsSome o
some_of o x e = ap is_some e

module _ (forms : List Candidate) (n : ℕ) (c : Candidate) (stands : slice_get forms n ≡ Some c) where
  each_more : (groups : List (List ℕ × Vec Candidate Global)) → IsSome (value_at text_cmp groups c.form.language)
      → ((k : ℕ) (d : Candidate) → k < n → slice_get forms k ≡ Some d → IsSome (value_at text_cmp groups d.form.language))
      → (k : ℕ) (d : Candidate) → k < n + 1 → slice_get forms k ≡ Some d → IsSome (value_at text_cmp groups d.form.language)
  each_more groups here before k d upto is = ⊎_elim
      (λ earlier. before k d earlier is)
      (λ later.
      let same : k ≡ n = omega arith in
      let one : c ≡ d = same_Some _ _ (sym stands ∙ ap (slice_get forms) (sym same) ∙ is) in
      subst (λ (e : Candidate). IsSome (value_at text_cmp groups e.form.language)) one here)
      (cases_lt k n)

  -- its language has a group already
  pub IsGrouped-kept : (groups : List (List ℕ × Vec Candidate Global)) → IsGrouped forms n groups
      → is_some (value_at text_cmp groups c.form.language) ≡ true → IsGrouped forms (n + 1) groups
  IsGrouped-kept groups grouped there =
      record { group = grouped.group; each = each_more groups there grouped.each }

  -- its language gets one
  module _ (old new : List (List ℕ × Vec Candidate Global)) (g : Vec Candidate Global) (grouped : IsGrouped forms n old)
      (is_group : g.items ≡ filter (has_language c.form.language) forms) (rows : new ≡ insert_entry text_cmp old c.form.language g) where
    found_new : value_at text_cmp new c.form.language ≡ Some g
    found_new = found_inserted text_total old new c.form.language g rows

    new_at : (l : List ℕ) → (c.form.language ≡ l) ⊎ (value_at text_cmp new l ≡ value_at text_cmp old l)
    new_at l = ⊎_elim
        (λ tied. inl (text_same c.form.language l tied))
        (λ other. inr (others_inserted text_total old new c.form.language g rows l other))
        (tie_or_not (text_cmp c.form.language l))

    pub IsGrouped-put : IsGrouped forms (n + 1) new
    IsGrouped-put = record {
      group = λ l h found. ⊎_elim
          (λ same.
          let one : g ≡ h = same_Some _ _ (sym found_new ∙ ap (value_at text_cmp new) same ∙ found) in
          ap (λ (v : Vec Candidate Global). v.items) (sym one) ∙ is_group ∙ ap (λ k. filter (has_language k) forms) same)
          (λ kept. grouped.group l h (sym kept ∙ found))
          (new_at l);
      each = each_more new (some_of _ g found_new) (λ k d earlier is. ⊎_elim
          (λ same. some_of _ g (ap (value_at text_cmp new) (sym same) ∙ found_new))
          (λ kept. subst IsSome (sym kept) (grouped.each k d earlier is))
          (new_at d.form.language));
    }

-- ---- rows

enumerated : {X : Type 0} (n : ℕ) (xs : List X) (k : ℕ) (y : X) → slice_get xs k ≡ Some y → slice_get (enumerate_from n xs) k ≡ Some (n + k, y)
enumerated n [] k y is = absurd (none-some y is)
enumerated n (x ∷ xs) zero y is = let place : n ≡ n + 0 = omega arith in λ k. Some (place k, same_Some x y is k)
enumerated n (x ∷ xs) (suc k) y is =
    let place : n + 1 + k ≡ n + suc k = omega arith in enumerated (n + 1) xs k y is ∙ (λ i. Some (place i, y))

module _ (likely : LikelySubtags) (t : LanguageMatching) (xs : List LanguageIdentifier) (forms : List Candidate) (made : forms ≡ candidates_of likely t xs) where
  -- the candidate of an available identifier
  pub row_at : (k : ℕ) (y : LanguageIdentifier) → slice_get xs k ≡ Some y → slice_get forms k ≡ Some (candidate_of likely t k y)
  row_at k y is =
      let f : ℕ × LanguageIdentifier → Candidate = λ p. candidate_of likely t p.0 p.1 in
      ap (λ cs. slice_get cs k) made ∙ slice_get-map f (enumerate_from 0 xs) k ∙ ap (option_map f) (enumerated 0 xs k y is)
      ∙ (let place : 0 + k ≡ k = omega arith in λ i. Some (candidate_of likely t (place i) y))

  size : length forms ≡ length xs
  size = ap length made ∙ length-map (enumerate_from 0 xs) (λ p. candidate_of likely t p.0 p.1) ∙ length-enumerate_from 0 xs

  -- each stands for its own
  pub rows_known : All (IsRowOf likely t xs) forms
  rows_known k d within = ⊎_elim
      (λ there.
      let row = get_or_from_slice_get forms k (candidate_of likely t k there.0) d (row_at k there.0 there.2) in
      subst (IsRowOf likely t xs) (sym row) (record { identifier = there.0; offered = there.2; is = refl }))
      (λ past. absurd (omega (arith, within, past.0, size)))
      (slice_get_cases xs k).1

-- ---- groups

kept_first : (b : Bool) (x : Candidate) (rest : List Candidate) → b ≡ true → slice_get (if b then x ∷ rest else rest) 0 ≡ Some x
kept_first true x rest is = refl
kept_first false x rest is = absurd (false≢true is)

kept_later : (b : Bool) (x c : Candidate) (rest : List Candidate) (k : ℕ) → slice_get rest k ≡ Some c
    → (l : ℕ) × (slice_get (if b then x ∷ rest else rest) l ≡ Some c)
kept_later true x c rest k is = (suc k, is)
kept_later false x c rest k is = (k, is)

-- what passes is among what passes
pub filter_has : (p : Candidate → Bool) (xs : List Candidate) (k : ℕ) (c : Candidate) → slice_get xs k ≡ Some c → p c ≡ true
    → (l : ℕ) × (slice_get (filter p xs) l ≡ Some c)
filter_has p [] k c is passes = absurd (none-some c is)
filter_has p (x ∷ xs) zero c is passes =
    let same = same_Some x c is in (0, kept_first (p x) x (filter p xs) (ap p same ∙ passes) ∙ is)
filter_has p (x ∷ xs) (suc k) c is passes = let rest = filter_has p xs k c is passes in kept_later (p x) x c (filter p xs) rest.0 rest.1

dropped : (b : Bool) (x : Candidate) (rest : List Candidate) → (b ≡ true → ⊥) → rest ≡ [] → (if b then x ∷ rest else rest) ≡ []
dropped true x rest not_it none = absurd (not_it refl)
dropped false x rest not_it none = none

filter_none : (p : Candidate → Bool) (xs : List Candidate) → ((k : ℕ) (c : Candidate) → slice_get xs k ≡ Some c → p c ≡ true → ⊥) → filter p xs ≡ []
filter_none p [] none = refl
filter_none p (x ∷ xs) none = dropped (p x) x (filter p xs) (none 0 x refl) (filter_none p xs (λ k c is. none (suc k) c is))

-- a language without a group has no candidates
pub no_group : (forms : List Candidate) (groups : List (List ℕ × Vec Candidate Global)) (l : List ℕ) → IsGrouped forms (length forms) groups
    → None ≡ value_at text_cmp groups l → filter (has_language l) forms ≡ []
no_group forms groups l grouped none = filter_none (has_language l) forms (λ k c is passes.
    let same = (bytes_eq-Decides c.form.language l).0 passes in
    let there : IsSome (value_at text_cmp groups c.form.language) = grouped.each k c (slice_get_within forms k c is) is in
    false≢true (ap is_some (none ∙ ap (value_at text_cmp groups) (sym same)) ∙ there))

-- the candidates of a language stand for their own
pub group_known : (likely : LikelySubtags) (t : LanguageMatching) (xs : List LanguageIdentifier) (forms part : List Candidate) (l : List ℕ)
    → forms ≡ candidates_of likely t xs → part ≡ filter (has_language l) forms → All (IsRowOf likely t xs) part
group_known likely t xs forms part l made is = All-same (IsRowOf likely t xs) part (filter (has_language l) forms) is
    (All-filter (has_language l) (IsRowOf likely t xs) forms (rows_known likely t xs forms made))
