-- Which pieces begin some text that is read, and which piece is the place.
use Rattle.std.proofs.Common.{◌≡◌, ◌⊎◌, ◌↔◌, ℕ, ◌<◌, ◌≤◌, ◌+◌, suc, zero, Bool, true, false, List, [], ◌∷◌, ◌++◌, length, take, drop, Result, Ok, Err, is_ok, refl, ap, sym, ◌∙◌, subst, append_assoc, inl, inr, arith}
use Rattle.std.proofs.lemmas.Bool.{cases_order, false≢true, or_cases}
use Rattle.std.proofs.lemmas.List.{append-nil, take-append-drop, take-take}
use Rattle.icu_locale_core.specs.declared.parse_error.ParseError.{ParseError}
use Rattle.icu_locale_extensions.specs.Grammar.{IsLocaleId}
use Rattle.icu_locale_extensions.specs.laws.Reader.{read}
use Rattle.icu_locale_extensions.specs.declared.identifier.LocaleIdentifier.{LocaleIdentifier}
use Rattle.icu_locale_places.specs.Places.{BeginsSome, IsPlace, begins_some, probe}
use Rattle.icu_locale_places.proofs.Grown.{language_read, read_grown}

-- the public law of the grammar
abbrev pub DerivedIsRead : Type 0
DerivedIsRead = (ps : List (List ℕ)) (x : LocaleIdentifier) → IsLocaleId ps x ↔ (read ps ≡ Ok x)

pub value : (r : Result LocaleIdentifier ParseError) → is_ok r ≡ true → (x : LocaleIdentifier) × (r ≡ Ok x)
value (Ok x) ok = (x, refl)
value (Err e) ok = absurd (false≢true ok)

module _ (law : DerivedIsRead) where
  begins_with : (ps qs : List (List ℕ)) → is_ok (read (ps ++ qs)) ≡ true → BeginsSome ps
  begins_with ps qs ok = let x = value (read (ps ++ qs)) ok in (qs, (x.0, (law (ps ++ qs) x.0).1 x.1))

  told : (ps : List (List ℕ)) → BeginsSome ps → begins_some ps ≡ true
  told [] some = refl
  told (p ∷ ps) some = read_grown p ps some.0 (ap is_ok ((law (p ∷ ps ++ some.0) some.1.0).0 some.1.1))

  begun : (ps : List (List ℕ)) → begins_some ps ≡ true → BeginsSome ps
  begun [] is = begins_with [] (probe ∷ []) (language_read probe refl)
  begun (p ∷ ps) is = by (or_cases (is_ok (read (p ∷ ps))) (is_ok (read (p ∷ (ps ++ probe ∷ [])))) is)
    where
      by : (is_ok (read (p ∷ ps)) ≡ true) ⊎ (is_ok (read (p ∷ (ps ++ probe ∷ []))) ≡ true) → BeginsSome (p ∷ ps)
      by (inl now) = begins_with (p ∷ ps) [] (ap (λ rs. is_ok (read rs)) (append-nil (p ∷ ps)) ∙ now)
      by (inr later) = begins_with (p ∷ ps) (probe ∷ []) later

  pub begins_told : (ps : List (List ℕ)) → BeginsSome ps ↔ (begins_some ps ≡ true)
  begins_told ps = (told ps, begun ps)

-- the test that tells which pieces begin some text
abbrev pub BeginsIsTold : Type 0
BeginsIsTold = (ps : List (List ℕ)) → BeginsSome ps ↔ (begins_some ps ≡ true)

-- ---- one place

fewer : (ps qs : List (List ℕ)) → BeginsSome (ps ++ qs) → BeginsSome ps
fewer ps qs some = (qs ++ some.0, (some.1.0, subst (λ rs. IsLocaleId rs some.1.0) (append_assoc ps qs some.0) some.1.1))

-- a front of a front
pub fronts : (ps : List (List ℕ)) (m n : ℕ) → m ≤ n → BeginsSome (take n ps) → BeginsSome (take m ps)
fronts ps m n less some =
    subst BeginsSome (take-take m n ps less) (fewer (take m (take n ps)) (drop m (take n ps)) (subst BeginsSome (sym (take-append-drop m (take n ps))) some))

not_before : (ps : List (List ℕ)) (m n : ℕ) → IsPlace ps m → IsPlace ps n → m < n → ⊥
not_before ps m n first other less = first.there (omega (arith, other.within)) (fronts ps (suc m) n (omega arith) other.before)

pub one_place : (ps : List (List ℕ)) (m n : ℕ) → IsPlace ps m → IsPlace ps n → m ≡ n
one_place ps m n first other = by (cases_order m n)
  where
    by : (m ≡ n) ⊎ ((m < n) ⊎ (n < m)) → m ≡ n
    by (inl same) = same
    by (inr (inl less)) = absurd (not_before ps m n first other less)
    by (inr (inr more)) = absurd (not_before ps n m other first more)

module _ (law : BeginsIsTold) (ps : List (List ℕ)) where
  -- the place where the test first fails
  pub place_here : (n : ℕ) → n ≤ length ps → begins_some (take n ps) ≡ true → (n < length ps → begins_some (take (suc n) ps) ≡ false) → IsPlace ps n
  place_here n within begins fails = record {
    within = within;
    before = (law (take n ps)).1 begins;
    there = λ inside some. false≢true (sym (fails inside) ∙ (law (take (suc n) ps)).0 some);
  }

  from_here : (m n : ℕ) → m + n ≡ length ps → begins_some (take n ps) ≡ true → (k : ℕ) × IsPlace ps k
  from_here zero n sum begins = (n, place_here n (omega arith) begins (λ inside. absurd (omega arith)))
  from_here (suc m) n sum begins = by (begins_some (take (suc n) ps)) refl (λ e. from_here m (suc n) (omega arith) e)
    where
      by : (b : Bool) → begins_some (take (suc n) ps) ≡ b → (begins_some (take (suc n) ps) ≡ true → (k : ℕ) × IsPlace ps k) → (k : ℕ) × IsPlace ps k
      by true e next = next e
      by false e next = (n, place_here n (omega arith) begins (λ inside. e))

  pub some_place : (n : ℕ) × IsPlace ps n
  some_place = from_here (length ps) 0 (omega arith) refl
