-- Texts that are written one after the other are one text.
use Rattle.std.proofs.Common.{◌≡◌, ℕ, List, [], ◌++◌, take, drop, length, ap, sym, refl, ◌∙◌, append_assoc, append-nil, Result, Ok, Err, OnErr, IsErr}
use Rattle.std.proofs.Math.Seq.{take-append_seam}
use Rattle.std.proofs.lemmas.Bool.{false≢true}
use Rattle.std.proofs.lemmas.Grind.{put_two}
use Rattle.std.proofs.lemmas.List.{take-append-drop}
use Rattle.std.specs.Fmt.{WritesOnOk}
use Rattle.std.specs.declared.fmt.Error.{Error}
use Rattle.std.specs.declared.fmt.Formatter.{Formatter}
use Rattle.icu_locale_core.specs.TextSinks.{AppendsOrKeeps}

-- what begins with a longer list begins with its front
pub front_of : (old more middle new : List ℕ) → middle ≡ old ++ more
    → take (length middle) new ≡ middle → take (length old) new ≡ old
front_of old more middle new is part =
    let rest : List ℕ = drop (length middle) new in
    let whole : new ≡ old ++ (more ++ rest) =
    sym (take-append-drop (length middle) new) ∙ ap (λ t. t ++ rest) (part ∙ is)
    ∙ append_assoc old more rest in
    ap (take (length old)) whole ∙ take-append_seam old (more ++ rest)

-- what holds holds of a refusal too
pub on_err : {T E P : Type 0} (r : Result T E) → P → OnErr r P
on_err (Ok x) holds = tt
on_err (Err e) holds = holds

-- what a call leaves of what was there leaves what an earlier call left
pub after_call : {T E : Type 0} (r : Result T E) (old more middle new : List ℕ)
    → middle ≡ old ++ more → OnErr r (take (length middle) new ≡ middle)
    → OnErr r (take (length old) new ≡ old)
after_call (Ok x) old more middle new is part = tt
after_call (Err e) old more middle new is part = front_of old more middle new is part

-- ---- a list of bytes

pub appended_nothing : (s : List ℕ) → AppendsOrKeeps s [] (Ok tt) s
appended_nothing s = record {
  appended = sym (append-nil s);
  kept = tt;
}

pub appended_further : (s t u front rest : List ℕ) (r : Result (Unit {0}) Error)
    → AppendsOrKeeps s front (Ok tt) t → AppendsOrKeeps t rest r u
    → AppendsOrKeeps s (front ++ rest) r u
appended_further s t u front rest (Ok x) first second = record {
  appended = second.appended ∙ ap (λ l. l ++ rest) first.appended ∙ append_assoc s front rest;
  kept = tt;
}
appended_further s t u front rest (Err e) first second = record {
  appended = tt;
  kept = front_of s front t u first.appended second.kept;
}

pub appended_broken : (s t text other : List ℕ) (e f : Error)
    → AppendsOrKeeps s text (Err e) t → AppendsOrKeeps s other (Err f) t
appended_broken s t text other e f first = record {
  appended = tt;
  kept = first.kept;
}

-- ---- a formatter

module _ {W : Type 0} (took : W → List ℕ → W → Type 0) where
  pub formatted_nothing : (s : Formatter W) → WritesOnOk took s (Ok tt) [] s
  formatted_nothing s = λ plain ok. record {
    wrote = record { parts = []; calls = refl; whole = refl };
    plain = plain;
  }

  pub formatted_further : (s t u : Formatter W) (front rest : List ℕ)
      (r : Result (Unit {0}) Error) → WritesOnOk took s (Ok tt) front t
      → WritesOnOk took t r rest u → WritesOnOk took s r (front ++ rest) u
  formatted_further s t u front rest r one two = λ plain ok.
      let first = one plain refl in
      put_two took s t u front rest (front ++ rest) first (two first.plain ok) refl

  pub formatted_broken : (s t : Formatter W) (text other : List ℕ) (e f : Error)
      → WritesOnOk took s (Err e) text t → WritesOnOk took s (Err f) other t
  formatted_broken s t text other e f first = λ plain ok. absurd (false≢true ok)

-- ---- any sink

-- what is refused later is refused of the whole
pub refused_later : {S : Type 0} (writes : S → List ℕ → Result (Unit {0}) Error → S → Type 0)
    → ((s t u : S) (front rest : List ℕ) (r : Result (Unit {0}) Error)
    → writes s front (Ok tt) t → writes t rest r u → writes s (front ++ rest) r u)
    → ((s t : S) (text other : List ℕ) (e f : Error)
    → writes s text (Err e) t → writes s other (Err f) t)
    → (s t u : S) (front rest whole : List ℕ) (e : Error) (q : Result (Unit {0}) Error)
    → writes s front (Ok tt) t → writes t rest (Err e) u → IsErr q → writes s whole q u
refused_later writes further broken s t u front rest whole e (Ok x) first second is =
    absurd (false≢true is)
refused_later writes further broken s t u front rest whole e (Err f) first second is =
    broken s u (front ++ rest) whole e f (further s t u front rest (Err e) first second)
