-- The first pieces of an identifier are one, and what more pieces change at the front of an identifier.
use Rattle.std.proofs.Common.{◌≡◌, ◌⊎◌, ℕ, Bool, true, false, List, [], ◌∷◌, ◌++◌, map, Option, Ok, Err, is_ok, if◌then◌else◌, refl, ap, sym, ◌∙◌, inl, inr}
use Rattle.std.proofs.lemmas.Bool.{false≢true}
use Rattle.icu_locale_core.specs.Cuts.{front, from, other_than, optional_subtag, after_optional_subtag}
use Rattle.icu_locale_core.specs.Readings.{are_variants, read_variants, with_variants, read_rest, read_pieces, after_head}
use Rattle.icu_locale_core.specs.Subtag.{is_language, is_script, is_region, is_variant, lowercase, titlecase, uppercase}
use Rattle.icu_locale_core.specs.TextSet.{from_list}
use Rattle.icu_locale_core.specs.declared.parse_error.ParseError.TheVariants.{InvalidLanguage, InvalidSubtag}
use Rattle.icu_locale_places.proofs.Once.{no_variants, variants_front}

-- ---- script and region

abbrev pub script_of : List (List ℕ) → Option (List ℕ)
script_of ps = optional_subtag is_script titlecase ps

abbrev pub region_of : List (List ℕ) → Option (List ℕ)
region_of ps = optional_subtag is_region uppercase (after_optional_subtag is_script ps)

-- more pieces leave the script and the region, and come after what follows them
pub record IsHeadStill (ps qs : List (List ℕ)) : Type 0 where
  pub script : script_of (ps ++ qs) ≡ script_of ps
  pub region : region_of (ps ++ qs) ≡ region_of ps
  pub behind : after_head (ps ++ qs) ≡ after_head ps ++ qs

-- so it is where a piece follows them, or the pieces end
pub heads : (ps : List (List ℕ)) → (after_head ps ≡ []) ⊎ ((qs : List (List ℕ)) → IsHeadStill ps qs)
heads [] = inl refl
heads (p ∷ []) = by (is_script p) refl
  where
    by : (b : Bool) → is_script p ≡ b → (after_head (p ∷ []) ≡ []) ⊎ ((qs : List (List ℕ)) → IsHeadStill (p ∷ []) qs)
    by true e = inl (rw e refl)
    by false e = inr (λ qs. at (is_region p) refl qs)
      where
        at : (b : Bool) → is_region p ≡ b → (qs : List (List ℕ)) → IsHeadStill (p ∷ []) qs
        at true f qs = record { script = rw e refl; region = rw (e, f) refl; behind = rw (e, f) refl }
        at false f qs = record { script = rw e refl; region = rw (e, f) refl; behind = rw (e, f) refl }
heads (p ∷ q ∷ ps) = inr (λ qs. by (is_script p) (is_region p) (is_region q) refl refl refl qs)
  where
    by : (b c d : Bool) → is_script p ≡ b → is_region p ≡ c → is_region q ≡ d → (qs : List (List ℕ)) → IsHeadStill (p ∷ q ∷ ps) qs
    by true c true e f g qs = record { script = rw e refl; region = rw (e, g) refl; behind = rw (e, g) refl }
    by true c false e f g qs = record { script = rw e refl; region = rw (e, g) refl; behind = rw (e, g) refl }
    by false true d e f g qs = record { script = rw e refl; region = rw (e, f) refl; behind = rw (e, f) refl }
    by false false d e f g qs = record { script = rw e refl; region = rw (e, f) refl; behind = rw (e, f) refl }

-- ---- variants

abbrev pub is_end : List ℕ → Bool
is_end = other_than is_variant

-- all pieces are variants, and what comes later may be more of them
pub record AreVariants (ps : List (List ℕ)) : Type 0 where
  pub all : front is_end ps ≡ ps
  pub none : from is_end ps ≡ []
  pub more : (qs : List (List ℕ)) → front is_end (ps ++ qs) ≡ ps ++ front is_end qs

-- a piece is none, and what comes later comes after it
pub record IsCut (ps qs : List (List ℕ)) : Type 0 where
  pub same : front is_end (ps ++ qs) ≡ front is_end ps
  pub behind : from is_end (ps ++ qs) ≡ from is_end ps ++ qs

pub cuts : (ps : List (List ℕ)) → AreVariants ps ⊎ ((qs : List (List ℕ)) → IsCut ps qs)
cuts [] = inl (record { all = refl; none = refl; more = λ qs. refl })
cuts (p ∷ ps) = by (is_variant p) refl (cuts ps)
  where
    by : (b : Bool) → is_variant p ≡ b → AreVariants ps ⊎ ((qs : List (List ℕ)) → IsCut ps qs) → AreVariants (p ∷ ps) ⊎ ((qs : List (List ℕ)) → IsCut (p ∷ ps) qs)
    by true e (inl are) = inl (record {
      all = rw e (ap (λ rs. p ∷ rs) are.all);
      none = rw e are.none;
      more = λ qs. rw e (ap (λ rs. p ∷ rs) (are.more qs));
    })
    by true e (inr is) = inr (λ qs. record { same = rw e (ap (λ rs. p ∷ rs) (is qs).same); behind = rw e (is qs).behind })
    by false e ih = inr (λ qs. record { same = rw e refl; behind = rw e refl })

-- ---- what is read

pub ok_variants : (l : List ℕ) (s r : Option (List ℕ)) (vs : List (List ℕ)) → is_ok (with_variants l s r (read_variants vs)) ≡ are_variants vs
ok_variants l s r vs = by (are_variants vs)
  where
    by : (b : Bool) → is_ok (with_variants l s r (if b then Ok (from_list (map lowercase vs)) else Err InvalidSubtag)) ≡ b
    by true = refl
    by false = refl

rest_front : (l : List ℕ) (ps qs : List (List ℕ)) → is_ok (read_rest l (ps ++ qs)) ≡ true → is_ok (read_rest l ps) ≡ true
rest_front l ps qs ok = by (heads ps)
  where
    variants : are_variants (after_head (ps ++ qs)) ≡ true
    variants = sym (ok_variants l (script_of (ps ++ qs)) (region_of (ps ++ qs)) (after_head (ps ++ qs))) ∙ ok

    by : (after_head ps ≡ []) ⊎ ((qs : List (List ℕ)) → IsHeadStill ps qs) → is_ok (read_rest l ps) ≡ true
    by (inl none) = ok_variants l (script_of ps) (region_of ps) (after_head ps) ∙ ap are_variants none ∙ no_variants
    by (inr still) = ok_variants l (script_of ps) (region_of ps) (after_head ps)
        ∙ variants_front (after_head ps) qs (ap are_variants (sym (still qs).behind) ∙ variants)

-- the first pieces of an identifier are read
pub pieces_front : (p : List ℕ) (ps qs : List (List ℕ)) → is_ok (read_pieces (p ∷ ps ++ qs)) ≡ true → is_ok (read_pieces (p ∷ ps)) ≡ true
pieces_front p ps qs ok = by (is_language p) ok
  where
    by : (b : Bool) → is_ok (if b then read_rest (lowercase p) (ps ++ qs) else Err InvalidLanguage) ≡ true
        → is_ok (if b then read_rest (lowercase p) ps else Err InvalidLanguage) ≡ true
    by true h = rest_front (lowercase p) ps qs h
    by false h = absurd (false≢true h)
