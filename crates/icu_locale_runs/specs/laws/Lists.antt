-- What lists and options contain, one element or one list at a time.
use Rattle.std.proofs.Common.{◌≡◌, ◌⊎◌, inl, inr, Option, Some, None, refl, zero, suc, List, [], ◌∷◌, map, Bool, true, false, cond, sym, subst, arith}
use Rattle.std.specs.Option.{option_or, option_map}
use Rattle.std.proofs.lemmas.Option.{none-some, same_Some}
use Rattle.std.specs.List.{Contains, flat_map, find}
use Rattle.std.proofs.lemmas.List.Elements.{Contains-append_left, Contains-append_right, Contains-append_cases}

pub some_map : {X Y : Type 0} (f : X → Y) (o : Option X) (z : Y) → option_map f o ≡ Some z → (b : X) × (o ≡ Some b) × (f b ≡ z)
some_map f None z e = absurd (none-some z e)
some_map f (Some b) z e = (b, refl, same_Some (f b) z e)

pub some_or : {X : Type 0} (a b : Option X) (z : X) → option_or a b ≡ Some z → (a ≡ Some z) ⊎ (b ≡ Some z)
some_or None b z e = inr e
some_or (Some y) b z e = inl e

pub Contains-here : {X : Type 0} (x : X) (xs : List X) → Contains (x ∷ xs) x
Contains-here x xs = (0, omega arith, refl)

pub Contains-there : {X : Type 0} (x y : X) (xs : List X) → Contains xs y → Contains (x ∷ xs) y
Contains-there x y xs (k, within, is) = (suc k, omega arith, is)

pub Contains-cons_cases : {X : Type 0} (x y : X) (xs : List X) → Contains (x ∷ xs) y → (x ≡ y) ⊎ Contains xs y
Contains-cons_cases x y xs (zero, within, is) = inl is
Contains-cons_cases x y xs (suc k, within, is) = inr (k, omega arith, is)

pub Contains-nil : {X : Type 0} (y : X) → ¬ (Contains [] y)
Contains-nil y (k, within, is) = absurd (omega arith)

pub Contains-map : {X Y : Type 0} (f : X → Y) (xs : List X) (y : X) → Contains xs y → Contains (map f xs) (f y)
Contains-map f [] y here = absurd (Contains-nil y here)
Contains-map f (x ∷ xs) y here =
    elim (Contains-cons_cases x y xs here) [
      | inl same ↦ subst (λ z. Contains (f x ∷ map f xs) (f z)) same (Contains-here (f x) (map f xs))
      | inr later ↦ Contains-there (f x) (f y) (map f xs) (Contains-map f xs y later)
    ]

pub Contains-from_map : {X Y : Type 0} (f : X → Y) (xs : List X) (z : Y) → Contains (map f xs) z → (x : X) × Contains xs x × (f x ≡ z)
Contains-from_map f [] z here = absurd (Contains-nil z here)
Contains-from_map f (x ∷ xs) z here =
    elim (Contains-cons_cases (f x) z (map f xs) here) [
      | inl same ↦ (x, Contains-here x xs, same)
      | inr later ↦ let found = Contains-from_map f xs z later in (found.0, Contains-there x found.0 xs found.1, found.2)
    ]

pub Contains-flat_map : {X Y : Type 0} (f : X → List Y) (xs : List X) (x : X) (y : Y) → Contains xs x → Contains (f x) y → Contains (flat_map f xs) y
Contains-flat_map f [] x y here inside = absurd (Contains-nil x here)
Contains-flat_map f (w ∷ xs) x y here inside =
    elim (Contains-cons_cases w x xs here) [
      | inl same ↦ Contains-append_left (f w) (flat_map f xs) y (subst (λ z. Contains (f z) y) (sym same) inside)
      | inr later ↦ Contains-append_right (f w) (flat_map f xs) y (Contains-flat_map f xs x y later inside)
    ]

pub Contains-from_flat_map : {X Y : Type 0} (f : X → List Y) (xs : List X) (y : Y) → Contains (flat_map f xs) y → (x : X) × Contains xs x × Contains (f x) y
Contains-from_flat_map f [] y here = absurd (Contains-nil y here)
Contains-from_flat_map f (w ∷ xs) y here =
    elim (Contains-append_cases (f w) (flat_map f xs) y here) [
      | inl first ↦ (w, Contains-here w xs, first)
      | inr later ↦ let found = Contains-from_flat_map f xs y later in (found.0, Contains-there w found.0 xs found.1, found.2)
    ]

find-step : {X : Type 0} (p : X → Bool) (w : X) (xs : List X) (x : X) (test : Bool) → p w ≡ test → cond test (Some w) (find p xs) ≡ Some x
    → (find p xs ≡ Some x → Contains xs x) → Contains (w ∷ xs) x
find-step p w xs x true e found rest = subst (Contains (w ∷ xs)) (same_Some w x found) (Contains-here w xs)
find-step p w xs x false e found rest = Contains-there w x xs (rest found)

-- what is found in a list is there
pub Contains-find : {X : Type 0} (p : X → Bool) (xs : List X) (x : X) → find p xs ≡ Some x → Contains xs x
Contains-find p [] x found = absurd (none-some x found)
Contains-find p (w ∷ xs) x found = find-step p w xs x (p w) refl found (Contains-find p xs x)
