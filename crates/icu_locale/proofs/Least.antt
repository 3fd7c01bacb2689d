-- The first of the three trials that has the maximal form is the least of the class.
use Rattle.std.proofs.Common.{◌≡◌, ◌⊎◌, ◌+◌, ◌<◌, ◌≤◌, ℕ, List, Bool, true, false, Option, Some, None, IsSome, if◌then◌else◌, refl, ap, subst, sym}
use Rattle.std.proofs.Common.{◌∙◌, inl, inr, ⊎_elim, arith}
use Rattle.std.proofs.lemmas.Bool.{cases_lt, false≢true}
use Rattle.icu_locale_core.specs.TextSet.{len}
use Rattle.icu_locale_core.specs.declared.langid.LanguageIdentifier.{LanguageIdentifier}
use Rattle.icu_provider.specs.declared.data_locale.DataLocale.{DataLocale}
use Rattle.icu_locale.specs.LikelySubtags.{LikelySubtags, known_subtag, unknown_script, unknown_region, bare_locale, first_found, keys}
use Rattle.icu_locale.specs.LikelySubtags.{maximal_locale, subtags_of, with_locale}
use Rattle.icu_locale.specs.declared.expander.Favor.{Favor}
use Rattle.icu_locale.specs.declared.expander.Favor.TheVariants.{RegionFirst, ScriptFirst}
use Rattle.icu_locale.specs.Minimal.{count, Precedes, IsInClass, IsMinimalForm}
use Rattle.icu_locale.specs.Locales.{same_locale}
use Rattle.icu_locale.specs.inner.Trials.{alone, with_favored, with_other, first_trial, trials}
use Rattle.icu_locale.specs.laws.Locales.{same_locale-Decides, known_subtag-cases, maximal_locale-bare}
use Rattle.icu_locale.proofs.Maximal.{filled_from-script, filled_from-region}

-- a subtag, taken or left
abbrev chosen : Bool → Option (List ℕ) → Option (List ℕ)
chosen true x = x
chosen false x = None

-- 1 for a subtag that is taken
abbrev one : Bool → ℕ
one true = 1
one false = 0

-- the language of m, with its script and its region, each taken or left
abbrev candidate : DataLocale → Bool → Bool → DataLocale
candidate m s r = record { language = m.language; script = chosen s m.script; region = chosen r m.region }

-- x has no fewer subtags than what is taken of y, and is that where it has as many
record Part (x y : Option (List ℕ)) (taken : Bool) : Type 0 where
  at_least : one taken ≤ count x
  equal : count x ≤ one taken → x ≡ chosen taken y

count-one : (x : Option (List ℕ)) → count x ≤ 1
count-one None = omega arith
count-one (Some t) = omega arith

count-chosen : (taken : Bool) (x : Option (List ℕ)) → count (chosen taken x) ≤ one taken
count-chosen true x = count-one x
count-chosen false x = omega arith

-- which part of y a subtag is, once placeholders are removed
abbrev HasPart : Option (List ℕ) → Option (List ℕ) → Option (List ℕ) → Type 0
HasPart known x y = (taken : Bool) × (known ≡ chosen taken y) × Part x y taken

part_left : (known : Option (List ℕ)) (t : List ℕ) (y : Option (List ℕ)) → known ≡ None → HasPart known (Some t) y
part_left known t y gone = (false, gone, record { at_least = omega arith; equal = λ few. absurd (omega arith) })

part_taken : (known : Option (List ℕ)) (t : List ℕ) (y : Option (List ℕ)) → known ≡ Some t → (known ≡ None) ⊎ (y ≡ known) → HasPart known (Some t) y
part_taken known t y stays (inl gone) = absurd (cc)
part_taken known t y stays (inr same) = (true, sym same, record { at_least = omega arith; equal = λ few. sym (same ∙ stays) })

part_of : (unknown : List ℕ) (x y : Option (List ℕ)) → (known_subtag unknown x ≡ None) ⊎ (y ≡ known_subtag unknown x) → HasPart (known_subtag unknown x) x y
part_of unknown None y fits = (false, refl, record { at_least = omega arith; equal = λ few. refl })
part_of unknown (Some t) y fits = ⊎_elim (λ gone. part_left _ t y gone) (λ stays. part_taken _ t y stays fits) (known_subtag-cases unknown t)

presence : (x : Option (List ℕ)) → (count x ≡ 0) ⊎ ((count x ≡ 1) × IsSome x)
presence None = inl refl
presence (Some t) = inr (refl, refl)

count-zero : (x : Option (List ℕ)) → count x ≡ 0 → IsSome x → ⊥
count-zero None e is = false≢true is
count-zero (Some t) e is = omega (arith, e)

module _ (likely : LikelySubtags) (x : LanguageIdentifier) where
  -- the maximal form of x
  abbrev m : DataLocale
  m = maximal_locale likely (subtags_of x)

  -- whether a candidate has the maximal form
  abbrev leads : Bool → Bool → Bool
  leads s r = same_locale (maximal_locale likely (candidate m s r)) m

  -- a candidate with the variants of x
  abbrev trial : Bool → Bool → LanguageIdentifier
  trial s r = with_locale x (candidate m s r)

  -- a member of the class is a candidate that leads to the maximal form, with placeholders beside
  record IsShaped (z : LanguageIdentifier) (s r : Bool) : Type 0 where
    leading : leads s r ≡ true
    script : Part z.script m.script s
    region : Part z.region m.region r
    language : z.language ≡ m.language
    variants : z.variants ≡ x.variants

  shaped : (z : LanguageIdentifier) → IsInClass likely x z → (s : Bool) × (r : Bool) × IsShaped z s r
  shaped z member =
      let bare : DataLocale = bare_locale (subtags_of z) in
      let is_m : maximal_locale likely (subtags_of z) ≡ m = ap subtags_of member.same in
      let found = first_found likely (keys bare) in
      let script = part_of unknown_script z.script m.script (⊎_elim inl (λ e. inr (sym (ap (λ (w : DataLocale). w.script) is_m) ∙ e))
      (filled_from-script bare found)) in
      let region = part_of unknown_region z.region m.region (⊎_elim inl (λ e. inr (sym (ap (λ (w : DataLocale). w.region) is_m) ∙ e))
      (filled_from-region bare found)) in
      let language : z.language ≡ m.language = member.language in
      let same : bare ≡ candidate m script.0 region.0 = λ i. record { language = language i; script = script.1 i; region = region.1 i } in (
        script.0,
        region.0,
        record {
          leading = (same_locale-Decides _ m).1 (ap (maximal_locale likely) (sym same) ∙ maximal_locale-bare likely (subtags_of z) ∙ is_m);
          script = script.2;
          region = region.2;
          language = language;
          variants = ap (λ (w : LanguageIdentifier). w.variants) member.same;
        },
      )

  -- a member with no more subtags than its candidate is the candidate
  meets : (z : LanguageIdentifier) (s r : Bool) → IsShaped z s r → count z.script + count z.region ≤ one s + one r → trial s r ≡ z
  meets z s r shape few =
      let script : z.script ≡ chosen s m.script = shape.script.equal (omega (arith, shape.script.at_least, shape.region.at_least)) in
      let region : z.region ≡ chosen r m.region = shape.region.equal (omega (arith, shape.script.at_least, shape.region.at_least)) in
      λ i. record { language = sym shape.language i; script = sym script i; region = sym region i; variants = sym shape.variants i }

  -- a candidate is the member of its shape, or has fewer subtags
  abbrev Beats : Favor → Bool → Bool → LanguageIdentifier → Type 0
  Beats favor s r z = (trial s r ≡ z) ⊎ Precedes favor (trial s r) z

  fewer : (favor : Favor) (z : LanguageIdentifier) (s r : Bool) → z.variants ≡ x.variants → one s + one r < count z.script + count z.region
      → Precedes favor (trial s r) z
  fewer favor z s r variants lt = inl (omega (arith, count-chosen s m.script, count-chosen r m.region, ap len variants))

  beats_own : (favor : Favor) (z : LanguageIdentifier) (s r : Bool) → IsShaped z s r → Beats favor s r z
  beats_own favor z s r shape = ⊎_elim (λ lt. inr (fewer favor z s r shape.variants lt)) (λ few. inl (meets z s r shape few))
      (cases_lt (one s + one r) (count z.script + count z.region))

  -- of two that are equally short, the one with the region precedes
  tied_region : (z : LanguageIdentifier) → z.variants ≡ x.variants → 1 ≤ count z.script → count z.script + count z.region ≤ 1
      → Precedes RegionFirst (trial false true) z
  tied_region z variants there few = ⊎_elim
      (λ absent. inl (omega (arith, absent, ap len variants)))
      (λ present. inr (omega (arith, present.0, count-one z.script, ap len variants), present.1, count-zero z.region (omega arith)))
      (presence m.region)

  -- or the one with the script
  tied_script : (z : LanguageIdentifier) → z.variants ≡ x.variants → 1 ≤ count z.region → count z.script + count z.region ≤ 1
      → Precedes ScriptFirst (trial true false) z
  tied_script z variants there few = ⊎_elim
      (λ absent. inl (omega (arith, absent, ap len variants)))
      (λ present. inr (omega (arith, present.0, count-one z.region, ap len variants), present.1, count-zero z.script (omega arith)))
      (presence m.script)

  beats_region : (z : LanguageIdentifier) → IsShaped z true false → Beats RegionFirst false true z
  beats_region z shape = inr (⊎_elim (λ lt. fewer RegionFirst z false true shape.variants lt)
      (λ few. tied_region z shape.variants shape.script.at_least few) (cases_lt 1 (count z.script + count z.region)))

  beats_script : (z : LanguageIdentifier) → IsShaped z false true → Beats ScriptFirst true false z
  beats_script z shape = inr (⊎_elim (λ lt. fewer ScriptFirst z true false shape.variants lt)
      (λ few. tied_script z shape.variants shape.region.at_least few) (cases_lt 1 (count z.script + count z.region)))

  -- the language alone is the least where it leads to the maximal form
  least_alone : (favor : Favor) (z : LanguageIdentifier) (s r : Bool) → IsShaped z s r → Beats favor false false z
  least_alone favor z false false shape = beats_own favor z false false shape
  least_alone favor z false true shape = inr (fewer favor z false false shape.variants (omega (arith, shape.region.at_least)))
  least_alone favor z true false shape = inr (fewer favor z false false shape.variants (omega (arith, shape.script.at_least)))
  least_alone favor z true true shape = inr (fewer favor z false false shape.variants (omega (arith, shape.script.at_least)))

  -- then the favored trial
  least_region : leads false false ≡ false → (z : LanguageIdentifier) (s r : Bool) → IsShaped z s r → Beats RegionFirst false true z
  least_region a z false false shape = absurd (false≢true (sym a ∙ shape.leading))
  least_region a z false true shape = beats_own RegionFirst z false true shape
  least_region a z true false shape = beats_region z shape
  least_region a z true true shape = inr (fewer RegionFirst z false true shape.variants (omega (arith, shape.script.at_least, shape.region.at_least)))

  least_script : leads false false ≡ false → (z : LanguageIdentifier) (s r : Bool) → IsShaped z s r → Beats ScriptFirst true false z
  least_script a z false false shape = absurd (false≢true (sym a ∙ shape.leading))
  least_script a z true false shape = beats_own ScriptFirst z true false shape
  least_script a z false true shape = beats_script z shape
  least_script a z true true shape = inr (fewer ScriptFirst z true false shape.variants (omega (arith, shape.script.at_least, shape.region.at_least)))

  -- then the other trial
  least_other_script : leads false false ≡ false → leads false true ≡ false → (z : LanguageIdentifier) (s r : Bool) → IsShaped z s r
      → Beats RegionFirst true false z
  least_other_script a b z false false shape = absurd (false≢true (sym a ∙ shape.leading))
  least_other_script a b z false true shape = absurd (false≢true (sym b ∙ shape.leading))
  least_other_script a b z true false shape = beats_own RegionFirst z true false shape
  least_other_script a b z true true shape = inr (fewer RegionFirst z true false shape.variants (omega (arith, shape.script.at_least, shape.region.at_least)))

  least_other_region : leads false false ≡ false → leads true false ≡ false → (z : LanguageIdentifier) (s r : Bool) → IsShaped z s r
      → Beats ScriptFirst false true z
  least_other_region a b z false false shape = absurd (false≢true (sym a ∙ shape.leading))
  least_other_region a b z true false shape = absurd (false≢true (sym b ∙ shape.leading))
  least_other_region a b z false true shape = beats_own ScriptFirst z false true shape
  least_other_region a b z true true shape = inr (fewer ScriptFirst z false true shape.variants (omega (arith, shape.script.at_least, shape.region.at_least)))

  -- then the maximal form itself
  least_whole : (favor : Favor) → leads false false ≡ false → leads false true ≡ false → leads true false ≡ false
      → (z : LanguageIdentifier) (s r : Bool) → IsShaped z s r → Beats favor true true z
  least_whole favor a b c z false false shape = absurd (false≢true (sym a ∙ shape.leading))
  least_whole favor a b c z false true shape = absurd (false≢true (sym b ∙ shape.leading))
  least_whole favor a b c z true false shape = absurd (false≢true (sym c ∙ shape.leading))
  least_whole favor a b c z true true shape = beats_own favor z true true shape

  -- where no candidate leads to the maximal form the class is empty
  empty : leads false false ≡ false → leads false true ≡ false → leads true false ≡ false → leads true true ≡ false
      → (z : LanguageIdentifier) (s r : Bool) → IsShaped z s r → ⊥
  empty a b c d z false false shape = false≢true (sym a ∙ shape.leading)
  empty a b c d z false true shape = false≢true (sym b ∙ shape.leading)
  empty a b c d z true false shape = false≢true (sym c ∙ shape.leading)
  empty a b c d z true true shape = false≢true (sym d ∙ shape.leading)

  -- a candidate that leads to the maximal form and beats each member is the minimal form
  is_minimal : (favor : Favor) (s r : Bool) → leads s r ≡ true → ((z : LanguageIdentifier) (s' r' : Bool) → IsShaped z s' r'
      → Beats favor s r z) → IsMinimalForm favor likely x (trial s r)
  is_minimal favor s r leading beats = inl (
    record { language = refl; same = ap (with_locale x) ((same_locale-Decides _ m).0 leading) },
    λ z
        member. let shape = shaped z member in beats z shape.0 shape.1 shape.2,
  )

  is_whole : (favor : Favor) (d : Bool) → leads true true ≡ d → leads false false ≡ false → leads false true ≡ false
      → leads true false ≡ false → IsMinimalForm favor likely x (with_locale x m)
  is_whole favor true d a b c = is_minimal favor true true d (least_whole favor a b c)
  is_whole favor false d a b c = inr (λ z member. let shape = shaped z member in empty a b c d z shape.0 shape.1 shape.2, refl)

  by_region : (a b c : Bool) → leads false false ≡ a → leads false true ≡ b → leads true false ≡ c
      → IsMinimalForm RegionFirst likely x (with_locale x (if a then alone m else
      (if b then with_favored RegionFirst m else (if c then with_other RegionFirst m else m))))
  by_region true b c ea eb ec = is_minimal RegionFirst false false ea (least_alone RegionFirst)
  by_region false true c ea eb ec = is_minimal RegionFirst false true eb (least_region ea)
  by_region false false true ea eb ec = is_minimal RegionFirst true false ec (least_other_script ea eb)
  by_region false false false ea eb ec = is_whole RegionFirst (leads true true) refl ea eb ec

  by_script : (a b c : Bool) → leads false false ≡ a → leads true false ≡ b → leads false true ≡ c
      → IsMinimalForm ScriptFirst likely x (with_locale x (if a then alone m else
      (if b then with_favored ScriptFirst m else (if c then with_other ScriptFirst m else m))))
  by_script true b c ea eb ec = is_minimal ScriptFirst false false ea (least_alone ScriptFirst)
  by_script false true c ea eb ec = is_minimal ScriptFirst true false eb (least_script ea)
  by_script false false true ea eb ec = is_minimal ScriptFirst false true ec (least_other_region ea eb)
  by_script false false false ea eb ec = is_whole ScriptFirst (leads true true) refl ea ec eb

  -- the first trial that leads to the maximal form, or that form, is the minimal form
  pub IsMinimalForm-first_trial : (favor : Favor) → IsMinimalForm favor likely x (with_locale x (first_trial likely m (trials favor m)))
  IsMinimalForm-first_trial RegionFirst = by_region _ _ _ refl refl refl
  IsMinimalForm-first_trial ScriptFirst = by_script _ _ _ refl refl refl

-- so what the trials leave of an identifier is its minimal form
pub IsMinimalForm-trials : (favor : Favor) (likely : LikelySubtags) (x y : LanguageIdentifier) (given minimal : DataLocale)
    → given ≡ subtags_of x → minimal ≡ first_trial likely (maximal_locale likely given) (trials favor (maximal_locale likely given))
    → y ≡ with_locale x minimal → IsMinimalForm favor likely x y
IsMinimalForm-trials favor likely x y given minimal is tried leaves =
    let tried_of : DataLocale → DataLocale = λ l. first_trial likely (maximal_locale likely l) (trials favor (maximal_locale likely l)) in
    subst (IsMinimalForm favor likely x) (sym (leaves ∙ ap (with_locale x) (tried ∙ ap tried_of is))) (IsMinimalForm-first_trial likely x favor)
