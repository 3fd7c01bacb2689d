-- What the code tests is what the test of pieces says.
use Rattle.std.proofs.Common.{◌≡◌, ℕ, ◌⊎◌, ◌↔◌, ◌<◌, ◌≤◌, suc, zero, Bool, true, false, ◌||◌, List, [], ◌∷◌, ◌++◌, length, take, drop, get_or, codes, is_ok, refl, ap, sym, ◌∙◌, subst, inl, inr, arith}
use Rattle.std.proofs.lemmas.Bool.{or_cases, or_left}
use Rattle.std.proofs.lemmas.List.{take-append-drop, take_all, take_at}
use Rattle.icu_locale_core.specs.Identifier.{pieces, starts_with_language}
use Rattle.icu_locale_core.specs.Subtag.{is_language}
use Rattle.icu_locale_extensions.specs.Grammar.{IsLocaleId}
use Rattle.icu_locale_extensions.specs.laws.Reader.{read}
use Rattle.icu_locale_places.specs.Places.{BeginsSome, BeginsText, IsPlace, IsWrongAt, begins_some, probe}
use Rattle.icu_locale_places.specs.inner.Spans.{HasBytes}
use Rattle.icu_locale_places.proofs.Bytes.{HasFirst, front_pieces, has_first, joined_pieces, some_piece, stop_of}
use Rattle.icu_locale_places.proofs.Grown.{language_read}
use Rattle.icu_locale_places.proofs.Spans.{to_span}
use Rattle.icu_locale_places.proofs.Told.{BeginsIsTold, DerivedIsRead, place_here, one_place, value}

-- a text that is not read, with a piece more
pub probed : (t : List ℕ) → is_ok (read (pieces t)) ≡ false → is_ok (read (pieces t ++ probe ∷ [])) ≡ begins_some (pieces t)
probed t not_read = by (pieces t) (has_first t) not_read
  where
    by : (ps : List (List ℕ)) → HasFirst ps → is_ok (read ps) ≡ false → is_ok (read (ps ++ probe ∷ [])) ≡ begins_some ps
    by [] has not_read = absurd (cc has.parts)
    by (p ∷ ps) has not_read = ap (λ b. b || is_ok (read (p ∷ (ps ++ probe ∷ [])))) (sym not_read)

-- nothing begins with what is no language
no_language : (t : List ℕ) → starts_with_language t ≡ false → begins_some (take 1 (pieces t)) ≡ false
no_language t not_one = by (pieces t) (has_first t) not_one
  where
    by : (ps : List (List ℕ)) → HasFirst ps → is_language (get_or ps 0 []) ≡ false → begins_some (take 1 ps) ≡ false
    by [] has not_one = absurd (cc has.parts)
    by (p ∷ ps) has not_one = rw not_one refl

some_language : (t : List ℕ) → starts_with_language t ≡ true → begins_some (take 1 (pieces t)) ≡ true
some_language t is = by (pieces t) (has_first t) is
  where
    by : (ps : List (List ℕ)) → HasFirst ps → is_language (get_or ps 0 []) ≡ true → begins_some (take 1 ps) ≡ true
    by [] has is = refl
    by (p ∷ ps) has is = or_left (is_ok (read (p ∷ []))) (is_ok (read (p ∷ probe ∷ []))) (language_read p is)

module _ (law : BeginsIsTold) (t : List ℕ) where
  first_is_place : starts_with_language t ≡ false → IsPlace (pieces t) 0
  first_is_place not_one = place_here law (pieces t) 0 (omega arith) refl (λ inside. no_language t not_one)

  -- the place is the first piece exactly where that is no language
  pub first_is_language : (n : ℕ) → IsPlace (pieces t) n → (n ≡ 0) ↔ (starts_with_language t ≡ false)
  first_is_language n place = (by n place, λ not_one. one_place (pieces t) n 0 place (first_is_place not_one))
    where
      at_first : IsPlace (pieces t) 0 → (b : Bool) → starts_with_language t ≡ b → b ≡ false
      at_first place true is = absurd (place.there (some_piece t) ((law (take 1 (pieces t))).1 (some_language t is)))
      at_first place false is = refl

      by : (n : ℕ) → IsPlace (pieces t) n → n ≡ 0 → starts_with_language t ≡ false
      by zero place is = at_first place (starts_with_language t) refl
      by (suc n) place is = absurd (omega arith)

  -- the first piece is the place
  pub wrong_at_first : (from to : ℕ) → starts_with_language t ≡ false → HasBytes t 0 from to → IsWrongAt t from to
  wrong_at_first from to not_one span = record {
    piece = 0;
    place = first_is_place not_one;
    span = to_span t 0 from to (omega arith) span;
  }

  -- a piece with which those before it begin nothing
  pub wrong_at_piece : (n from to : ℕ) → n < length (pieces t) → begins_some (take n (pieces t)) ≡ true → begins_some (take (suc n) (pieces t)) ≡ false
      → HasBytes t n from to → IsWrongAt t from to
  wrong_at_piece n from to inside before there span = record {
    piece = n;
    place = place_here law (pieces t) n (omega arith) before (λ inside. there);
    span = to_span t n from to (omega arith) span;
  }

  -- the end
  pub wrong_at_end : begins_some (pieces t) ≡ true → IsWrongAt t (length t) (length t)
  wrong_at_end before = record {
    piece = length (pieces t);
    place = place_here law (pieces t) (length (pieces t)) (omega arith)
        (ap begins_some (take_all (length (pieces t)) (pieces t) (omega arith)) ∙ before) (λ inside. absurd (omega arith));
    span = to_span t (length (pieces t)) (length t) (length t) (omega arith)
        (record { piece = λ inside. absurd (omega arith); ending = λ is. (refl, refl) });
  }

-- ---- texts

-- pieces that are read, with these first
text_of : (law : DerivedIsRead) (ps : List (List ℕ)) (u : List ℕ) → take (length ps) (pieces u) ≡ ps → is_ok (read (pieces u)) ≡ true → BeginsText ps
text_of law ps u first ok = let x = value (read (pieces u)) ok in (u, (x.0, (first, (law (pieces u) x.0).1 x.1)))

module _ (law : DerivedIsRead) (told : BeginsIsTold) where
  -- a text up to the end of a piece, or that and a piece more
  front_text : (ps : List (List ℕ)) (u : List ℕ) → pieces u ≡ ps → begins_some (pieces u) ≡ true → BeginsText ps
  front_text ps u is begins = by (pieces u) (has_first u) refl begins
    where
      by : (qs : List (List ℕ)) → HasFirst qs → pieces u ≡ qs → begins_some qs ≡ true → BeginsText ps
      by [] has same begins = absurd (cc has.parts)
      by (q ∷ qs) has same begins = at (or_cases (is_ok (read (q ∷ qs))) (is_ok (read (q ∷ (qs ++ probe ∷ [])))) begins)
        where
          more : pieces (u ++ codes "-abc") ≡ q ∷ (qs ++ probe ∷ [])
          more = joined_pieces u (codes "abc") ∙ ap (λ rs. rs ++ probe ∷ []) same

          at : (is_ok (read (q ∷ qs)) ≡ true) ⊎ (is_ok (read (q ∷ (qs ++ probe ∷ []))) ≡ true) → BeginsText ps
          at (inl now) = text_of law ps u (ap (take (length ps)) is ∙ take_all (length ps) ps (omega arith)) (ap (λ rs. is_ok (read rs)) same ∙ now)
          at (inr later) = text_of law ps (u ++ codes "-abc")
              (ap (take (length ps)) (joined_pieces u (codes "abc") ∙ ap (λ rs. rs ++ probe ∷ []) is) ∙ take_at ps (probe ∷ []) (length ps) refl)
              (ap (λ rs. is_ok (read rs)) more ∙ later)

  some_text : (t : List ℕ) (n : ℕ) → n ≤ length (pieces t) → BeginsSome (take n (pieces t)) → BeginsText (take n (pieces t))
  some_text t zero within some = text_of law [] probe refl (language_read probe refl)
  some_text t (suc n) within some =
      let is = front_pieces t n (omega arith) in
      front_text (take (suc n) (pieces t)) (take (stop_of (pieces t) n) t) is (ap begins_some is ∙ (told (take (suc n) (pieces t))).0 some)

  begun_text : (ps : List (List ℕ)) → BeginsText ps → BeginsSome ps
  begun_text ps some =
      let u = some.0 in
      let rest = drop (length ps) (pieces u) in
      let whole : pieces u ≡ ps ++ rest = sym (take-append-drop (length ps) (pieces u)) ∙ ap (λ qs. qs ++ rest) some.1.1.0 in
      (rest, (some.1.0, subst (λ qs. IsLocaleId qs some.1.0) whole some.1.1.1))

  pub texts_begin : (t : List ℕ) (n : ℕ) → n ≤ length (pieces t) → BeginsSome (take n (pieces t)) ↔ BeginsText (take n (pieces t))
  texts_begin t n within = (some_text t n within, begun_text (take n (pieces t)))
