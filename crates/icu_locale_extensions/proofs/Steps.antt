-- A part is taken whole: its pieces, and then what is left.
use Rattle.std.specs.Prelude.{◌≡◌, ℕ, Bool, true, false, List, [], ◌∷◌, ◌++◌, Result, Ok, Err}
use Rattle.std.proofs.Common.{refl, ap, sym, ◌∙◌, append_assoc}
use Rattle.std.proofs.lemmas.List.{append-nil}
use Rattle.icu_locale_core.specs.declared.parse_error.ParseError.{ParseError}
use Rattle.icu_locale_core.specs.Cuts.{front, from, other_than}
use Rattle.icu_locale_extensions.specs.declared.identifier.LocaleIdentifier.{LocaleIdentifier}
use Rattle.icu_locale_extensions.specs.laws.Reader.{Part, belongs, added, closed, opened, and_then, read_on}
use Rattle.icu_locale_extensions.specs.inner.Takes.{read_opened}
use Rattle.icu_locale_extensions.specs.laws.Reader.Part.{whole, attributes, keywords, keyword, language, fields, field, other, private_use, nothing}

-- where all is closed, a piece opens a part
pub at_closed : (part : Part) (y : LocaleIdentifier) (p : List ℕ) (ps : List (List ℕ))
    → read_on (closed part) [] y (p ∷ ps) ≡ read_opened (opened (closed part) y p) y ps
at_closed whole y p ps = refl
at_closed attributes y p ps = refl
at_closed keywords y p ps = refl
at_closed (keyword k) y p ps = refl
at_closed language y p ps = refl
at_closed fields y p ps = refl
at_closed (field k) y p ps = refl
at_closed (other s) y p ps = refl
at_closed private_use y p ps = refl
at_closed nothing y p ps = refl

-- and at the end nothing is added
at_end : (part : Part) (y : LocaleIdentifier) → added (closed part) [] y ≡ Ok y
at_end whole y = refl
at_end attributes y = refl
at_end keywords y = refl
at_end (keyword k) y = refl
at_end language y = refl
at_end fields y = refl
at_end (field k) y = refl
at_end (other s) y = refl
at_end private_use y = refl
at_end nothing y = refl

ends : (part : Part) (r : Result LocaleIdentifier ParseError) → r ≡ and_then r (λ y. read_on (closed part) [] y [])
ends part (Err e) = refl
ends part (Ok y) = sym (at_end part y)

stops : (part : Part) (r : Result LocaleIdentifier ParseError) (p : List ℕ) (ps : List (List ℕ))
    → and_then r (λ y. read_opened (opened (closed part) y p) y ps) ≡ and_then r (λ y. read_on (closed part) [] y (p ∷ ps))
stops part (Err e) p ps = refl
stops part (Ok y) p ps = sym (at_closed part y p ps)

pub taken : (part : Part) (qs : List (List ℕ)) (x : LocaleIdentifier) (ps : List (List ℕ)) → read_on part qs x ps
    ≡ and_then (added part (qs ++ front (other_than (belongs part)) ps) x) (λ y. read_on (closed part) [] y (from (other_than (belongs part)) ps))
taken part qs x [] = rw append-nil (ends part (added part qs x))
taken part qs x (p ∷ ps) = by (taken part (qs ++ p ∷ []) x ps) (belongs part p) refl
  where
    by : read_on part (qs ++ p ∷ []) x ps
        ≡ and_then (added part ((qs ++ p ∷ []) ++ front (other_than (belongs part)) ps) x) (λ y. read_on (closed part) [] y (from (other_than (belongs part)) ps))
        → (b : Bool) → belongs part p ≡ b → read_on part qs x (p ∷ ps)
        ≡ and_then (added part (qs ++ front (other_than (belongs part)) (p ∷ ps)) x)
        (λ y. read_on (closed part) [] y (from (other_than (belongs part)) (p ∷ ps)))
    by ih true e = rw e (ih ∙ ap (λ rs. and_then (added part rs x) (λ y. read_on (closed part) [] y (from (other_than (belongs part)) ps)))
        (append_assoc qs (p ∷ []) (front (other_than (belongs part)) ps)))
    by ih false e = rw (e, append-nil) (stops part (added part qs x) p ps)
