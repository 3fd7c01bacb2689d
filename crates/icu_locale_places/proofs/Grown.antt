-- Pieces that begin some that are read are read themselves, or are with one more.
use Rattle.std.proofs.Common.{◌≡◌, ◌⊎◌, ℕ, Bool, true, false, ◌||◌, List, [], ◌∷◌, ◌++◌, Option, None, Some, Result, Ok, Err, is_ok, if◌then◌else◌, refl, ap, sym, ◌∙◌, inl, inr}
use Rattle.std.proofs.lemmas.Bool.{false≢true, or_left, or_right}
use Rattle.icu_locale_core.specs.Cuts.{front, from}
use Rattle.icu_locale_core.specs.Readings.{are_variants, read_variants, with_variants, read_after, read_pieces, after_head}
use Rattle.icu_locale_core.specs.Subtag.{is_language, lowercase}
use Rattle.icu_locale_core.specs.declared.langid.LanguageIdentifier.{LanguageIdentifier}
use Rattle.icu_locale_core.specs.declared.parse_error.ParseError.{ParseError}
use Rattle.icu_locale_core.specs.declared.parse_error.ParseError.TheVariants.{InvalidLanguage, InvalidSubtag}
use Rattle.icu_locale_extensions.specs.Built.{bare}
use Rattle.icu_locale_extensions.specs.laws.Reader.{Part, belongs, first_is, begins, with_read, added, closed, opened, and_then, with_part, read_on, read}
use Rattle.icu_locale_extensions.specs.laws.Reader.Part.{whole, attributes, keywords, keyword, language, fields, field, other, private_use, nothing}
use Rattle.icu_locale_extensions.specs.declared.identifier.LocaleIdentifier.{LocaleIdentifier}
use Rattle.icu_locale_places.specs.Places.{begins_some, probe}
use Rattle.icu_locale_places.proofs.Heads.{AreVariants, IsCut, IsHeadStill, cuts, heads, is_end, ok_variants, pieces_front, region_of, script_of}
use Rattle.icu_locale_places.proofs.Once.{no_variants, variants_front}

abbrev Read : Type 0
Read = Result LocaleIdentifier ParseError

ok_first : {A : Type 0} (r : Result A ParseError) (next : A → Read) → is_ok (and_then r next) ≡ true → is_ok r ≡ true
ok_first (Ok a) next ok = refl
ok_first (Err e) next ok = absurd (false≢true ok)

-- ---- what a part has so far

ok_language : (x : LocaleIdentifier) (r : Result LanguageIdentifier ParseError) → is_ok (with_read x r) ≡ is_ok r
ok_language x (Ok l) = refl
ok_language x (Err e) = refl

-- with a piece less it is a part too
less : (part : Part) (ps : List (List ℕ)) (q : List ℕ) (x : LocaleIdentifier) → is_ok (added part (ps ++ q ∷ []) x) ≡ true → is_ok (added part ps x) ≡ true
less whole ps q x ok = refl
less attributes ps q x ok = refl
less keywords ps q x ok = refl
less (keyword k) ps q x ok = refl
less language [] q x ok = refl
less language (p ∷ ps) q x ok =
    ok_language x (read_pieces (p ∷ ps)) ∙ pieces_front p ps (q ∷ []) (sym (ok_language x (read_pieces (p ∷ ps ++ q ∷ []))) ∙ ok)
less fields ps q x ok = refl
less (field k) ps q x ok = refl
less (other s) ps q x ok = refl
less private_use ps q x ok = refl
less nothing ps q x ok = refl

-- what a piece that does not belong to a part does
abbrev stopped : Part → List (List ℕ) → LocaleIdentifier → List ℕ → List (List ℕ) → Read
stopped part rs x p ps = and_then (added part rs x) (λ y. with_part (opened (closed part) y p)
    (λ next. if begins next ps then read_on next [] y ps else Err InvalidSubtag))

-- where pieces are read, those before them are a part
ok_added : (part : Part) (rs : List (List ℕ)) (x : LocaleIdentifier) (qs : List (List ℕ)) → is_ok (read_on part rs x qs) ≡ true → is_ok (added part rs x) ≡ true
ok_added part rs x [] ok = ok
ok_added part rs x (q ∷ qs) ok = by (belongs part q) (ok_added part (rs ++ q ∷ []) x qs) ok
  where
    by : (b : Bool) → (is_ok (read_on part (rs ++ q ∷ []) x qs) ≡ true → is_ok (added part (rs ++ q ∷ []) x) ≡ true)
        → is_ok (if b then read_on part (rs ++ q ∷ []) x qs else stopped part rs x q qs) ≡ true → is_ok (added part rs x) ≡ true
    by true ih h = less part rs q x (ih h)
    by false ih h = ok_first (added part rs x) _ h

-- ---- what a piece opens

abbrev begun : Part → LocaleIdentifier → List (List ℕ) → Read
begun next y ps = if begins next ps then read_on next [] y ps else Err InvalidSubtag

closed_part : (y : LocaleIdentifier) (part : Part) (qs : List (List ℕ)) → is_ok (if first_is (λ p. false) qs then read_on part [] y qs else Err InvalidSubtag) ≡ true → ⊥
closed_part y part [] ok = false≢true ok
closed_part y part (q ∷ qs) ok = false≢true ok

-- a language of the one more
probe_is_language : (x : LocaleIdentifier) → is_ok (with_read x (read_pieces (probe ∷ []))) ≡ true
probe_is_language x = ok_language x (read_pieces (probe ∷ [])) ∙ ok_variants (lowercase probe) (script_of []) (region_of []) [] ∙ no_variants

opens : (next : Part) (y : LocaleIdentifier) (qs : List (List ℕ)) → is_ok (begun next y qs) ≡ true
    → (is_ok (begun next y []) ≡ true) ⊎ (is_ok (begun next y (probe ∷ [])) ≡ true)
opens whole y qs ok = absurd (closed_part y whole qs ok)
opens attributes y qs ok = inr refl
opens keywords y qs ok = absurd (closed_part y keywords qs ok)
opens (keyword k) y qs ok = inl refl
opens language y qs ok = inr (probe_is_language y)
opens fields y qs ok = absurd (closed_part y fields qs ok)
opens (field k) y qs ok = inr refl
opens (other s) y qs ok = inr refl
opens private_use y qs ok = inr refl
opens nothing y qs ok = absurd (closed_part y nothing qs ok)

-- whether a part begins is told by the first piece
first_tells : (next : Part) (p : List ℕ) (ps qs : List (List ℕ)) → begins next (p ∷ ps) ≡ begins next (p ∷ qs)
first_tells whole p ps qs = refl
first_tells attributes p ps qs = refl
first_tells keywords p ps qs = refl
first_tells (keyword k) p ps qs = refl
first_tells language p ps qs = refl
first_tells fields p ps qs = refl
first_tells (field k) p ps qs = refl
first_tells (other s) p ps qs = refl
first_tells private_use p ps qs = refl
first_tells nothing p ps qs = refl

-- ---- the pieces after an identifier

-- they are read, or are with one more
abbrev IsNear : (List (List ℕ) → Read) → List (List ℕ) → Type 0
IsNear reads ps = (is_ok (reads ps) ≡ true) ⊎ (is_ok (reads (ps ++ probe ∷ [])) ≡ true)

module _ (qs : List (List ℕ)) where
  begun_grown : (next : Part) (y : LocaleIdentifier) (ps : List (List ℕ))
      → (is_ok (read_on next [] y (ps ++ qs)) ≡ true → IsNear (read_on next [] y) ps) → is_ok (begun next y (ps ++ qs)) ≡ true → IsNear (begun next y) ps
  begun_grown next y [] ih ok = opens next y qs ok
  begun_grown next y (p ∷ ps) ih ok =
      let same = first_tells next p (ps ++ qs) ps in
      let alike = first_tells next p (ps ++ qs) (ps ++ probe ∷ []) in
      by (begins next (p ∷ ps ++ qs)) (begins next (p ∷ ps)) (begins next (p ∷ ps ++ probe ∷ [])) same alike ok
    where
      by : (b c d : Bool) → b ≡ c → b ≡ d → is_ok (if b then read_on next [] y (p ∷ ps ++ qs) else Err InvalidSubtag) ≡ true
          → (is_ok (if c then read_on next [] y (p ∷ ps) else Err InvalidSubtag) ≡ true) ⊎ (is_ok (if d then read_on next [] y (p ∷ ps ++ probe ∷ []) else Err InvalidSubtag) ≡ true)
      by true true true e f h = ih h
      by true true false e f h = absurd (false≢true (sym f))
      by true false d e f h = absurd (false≢true (sym e))
      by false c d e f h = absurd (false≢true h)

  opened_grown : (o : Option Part) (y : LocaleIdentifier) (ps : List (List ℕ))
      → ((next : Part) → is_ok (read_on next [] y (ps ++ qs)) ≡ true → IsNear (read_on next [] y) ps)
      → is_ok (with_part o (λ next. begun next y (ps ++ qs))) ≡ true → IsNear (λ rs. with_part o (λ next. begun next y rs)) ps
  opened_grown None y ps ih ok = absurd (false≢true ok)
  opened_grown (Some next) y ps ih ok = begun_grown next y ps (ih next) ok

  stopped_grown : (part : Part) (r : Read) (p : List ℕ) (ps : List (List ℕ))
      → ((next : Part) (y : LocaleIdentifier) → is_ok (read_on next [] y (ps ++ qs)) ≡ true → IsNear (read_on next [] y) ps)
      → is_ok (and_then r (λ y. with_part (opened (closed part) y p) (λ next. begun next y (ps ++ qs)))) ≡ true
      → IsNear (λ rs. and_then r (λ y. with_part (opened (closed part) y p) (λ next. begun next y rs))) ps
  stopped_grown part (Err e) p ps ih ok = absurd (false≢true ok)
  stopped_grown part (Ok y) p ps ih ok = opened_grown (opened (closed part) y p) y ps (λ next. ih next y) ok

  pub on_grown : (part : Part) (rs : List (List ℕ)) (x : LocaleIdentifier) (ps : List (List ℕ)) → is_ok (read_on part rs x (ps ++ qs)) ≡ true
      → IsNear (read_on part rs x) ps
  on_grown part rs x [] ok = inl (ok_added part rs x qs ok)
  on_grown part rs x (p ∷ ps) ok = by (belongs part p) (on_grown part (rs ++ p ∷ []) x ps) (λ next y. on_grown next [] y ps) ok
    where
      by : (b : Bool) → (is_ok (read_on part (rs ++ p ∷ []) x (ps ++ qs)) ≡ true → IsNear (read_on part (rs ++ p ∷ []) x) ps)
          → ((next : Part) (y : LocaleIdentifier) → is_ok (read_on next [] y (ps ++ qs)) ≡ true → IsNear (read_on next [] y) ps)
          → is_ok (if b then read_on part (rs ++ p ∷ []) x (ps ++ qs) else stopped part rs x p (ps ++ qs)) ≡ true
          → IsNear (λ zs. if b then read_on part (rs ++ p ∷ []) x zs else stopped part rs x p zs) ps
      by true goes stops h = goes h
      by false goes stops h = stopped_grown part (added part rs x) p ps stops h

-- ---- all pieces

abbrev behind : Result LanguageIdentifier ParseError → List (List ℕ) → Read
behind r ps = and_then r (λ id. read_on whole [] (bare id) ps)

abbrev of_rest : List ℕ → List (List ℕ) → Read
of_rest l ps = behind (with_variants l (script_of ps) (region_of ps) (read_variants (front is_end (after_head ps)))) (from is_end (after_head ps))

behind_ok : (r : Result LanguageIdentifier ParseError) → is_ok r ≡ true → is_ok (behind r []) ≡ true
behind_ok (Ok id) ok = refl
behind_ok (Err e) ok = absurd (false≢true ok)

module _ (l : List ℕ) (s r : Option (List ℕ)) where
  -- with variants alone it is read
  variants_ok : (vs : List (List ℕ)) → are_variants vs ≡ true → is_ok (behind (with_variants l s r (read_variants vs)) []) ≡ true
  variants_ok vs are = behind_ok (with_variants l s r (read_variants vs)) (ok_variants l s r vs ∙ are)

behind_grown : (qs : List (List ℕ)) (r : Result LanguageIdentifier ParseError) (ps : List (List ℕ)) → is_ok (behind r (ps ++ qs)) ≡ true → IsNear (behind r) ps
behind_grown qs (Err e) ps ok = absurd (false≢true ok)
behind_grown qs (Ok id) ps ok = on_grown qs whole [] (bare id) ps ok

module _ (l : List ℕ) (ps : List (List ℕ)) where
  abbrev with_front : List (List ℕ) → Result LanguageIdentifier ParseError
  with_front vs = with_variants l (script_of ps) (region_of ps) (read_variants vs)

  -- what more pieces are read as, where script and region stay
  more : (rs : List (List ℕ)) → IsHeadStill ps rs
      → of_rest l (ps ++ rs) ≡ behind (with_front (front is_end (after_head ps ++ rs))) (from is_end (after_head ps ++ rs))
  more rs still = λ i. behind (with_variants l (still.script i) (still.region i) (read_variants (front is_end (still.behind i)))) (from is_end (still.behind i))

  ended : after_head ps ≡ [] → is_ok (of_rest l ps) ≡ true
  ended none = ap (λ hs. is_ok (behind (with_front (front is_end hs)) (from is_end hs))) none ∙ variants_ok l (script_of ps) (region_of ps) [] no_variants

  varied : (qs : List (List ℕ)) → IsHeadStill ps qs → AreVariants (after_head ps) → is_ok (of_rest l (ps ++ qs)) ≡ true → is_ok (of_rest l ps) ≡ true
  varied qs still are ok =
      let hs = after_head ps in
      let first = ok_first (with_front (front is_end (hs ++ qs))) _ (ap is_ok (sym (more qs still)) ∙ ok) in
      let each : are_variants (hs ++ front is_end qs) ≡ true =
      ap are_variants (sym (are.more qs)) ∙ sym (ok_variants l (script_of ps) (region_of ps) (front is_end (hs ++ qs))) ∙ first in
      (λ i. is_ok (behind (with_front (are.all i)) (are.none i)))
      ∙ variants_ok l (script_of ps) (region_of ps) hs (variants_front hs (front is_end qs) each)

  cut : (qs : List (List ℕ)) → ((rs : List (List ℕ)) → IsHeadStill ps rs) → ((rs : List (List ℕ)) → IsCut (after_head ps) rs)
      → is_ok (of_rest l (ps ++ qs)) ≡ true → IsNear (of_rest l) ps
  cut qs still is ok = by (behind_grown qs (with_front (front is_end (after_head ps))) (from is_end (after_head ps)) (ap is_ok (sym (grown qs)) ∙ ok))
    where
      grown : (rs : List (List ℕ)) → of_rest l (ps ++ rs) ≡ behind (with_front (front is_end (after_head ps))) (from is_end (after_head ps) ++ rs)
      grown rs = more rs (still rs) ∙ (λ i. behind (with_front ((is rs).same i)) ((is rs).behind i))

      by : IsNear (behind (with_front (front is_end (after_head ps)))) (from is_end (after_head ps)) → IsNear (of_rest l) ps
      by (inl now) = inl now
      by (inr later) = inr (ap is_ok (grown (probe ∷ [])) ∙ later)

  rest_grown : (qs : List (List ℕ)) → is_ok (of_rest l (ps ++ qs)) ≡ true → IsNear (of_rest l) ps
  rest_grown qs ok = by (heads ps) (cuts (after_head ps))
    where
      by : (after_head ps ≡ []) ⊎ ((rs : List (List ℕ)) → IsHeadStill ps rs) → AreVariants (after_head ps) ⊎ ((rs : List (List ℕ)) → IsCut (after_head ps) rs)
          → IsNear (of_rest l) ps
      by (inl none) either = inl (ended none)
      by (inr still) (inl are) = inl (varied qs (still qs) are ok)
      by (inr still) (inr is) = cut qs still is ok

pub read_grown : (p : List ℕ) (ps qs : List (List ℕ)) → is_ok (read (p ∷ ps ++ qs)) ≡ true → begins_some (p ∷ ps) ≡ true
read_grown p ps qs ok = near (by (is_language p) ok)
  where
    by : (b : Bool) → is_ok (and_then (if b then read_after (lowercase p) (ps ++ qs) else Err InvalidLanguage) (λ id. read_on whole [] (bare id) (from is_end (after_head (ps ++ qs))))) ≡ true
        → IsNear (λ rs. and_then (if b then read_after (lowercase p) rs else Err InvalidLanguage) (λ id. read_on whole [] (bare id) (from is_end (after_head rs)))) ps
    by true h = rest_grown (lowercase p) ps qs h
    by false h = absurd (false≢true h)

    near : IsNear (λ rs. read (p ∷ rs)) ps → (is_ok (read (p ∷ ps)) || is_ok (read (p ∷ (ps ++ probe ∷ [])))) ≡ true
    near (inl now) = or_left (is_ok (read (p ∷ ps))) (is_ok (read (p ∷ (ps ++ probe ∷ [])))) now
    near (inr later) = or_right (is_ok (read (p ∷ ps))) (is_ok (read (p ∷ (ps ++ probe ∷ [])))) later

-- a language alone is read
pub language_read : (p : List ℕ) → is_language p ≡ true → is_ok (read (p ∷ [])) ≡ true
language_read p is =
    ap (λ b. is_ok (behind (if b then read_after (lowercase p) [] else Err InvalidLanguage) [])) is
    ∙ variants_ok (lowercase p) None None [] no_variants
