-- Subtags that are listed, one more at a time.
use Rattle.std.proofs.Common.{◌≡◌, ◌+◌, ◌<◌, ℕ, Bool, true, false, ◌||◌, List, [], ◌∷◌, ◌++◌, take, get_or, length, codes, nat_eq, Option, None, Some, refl, ap, sym, ◌∙◌, append-nil, append_assoc}
use Rattle.std.specs.Prelude.{if◌then◌else◌}
use Rattle.std.specs.List.{flat_map, starts_with}
use Rattle.std.proofs.lemmas.List.{take_more}
use Rattle.std.proofs.lemmas.List.Concat.{flat_map-append}
use Rattle.icu_locale_extensions.specs.Extensions.{any_piece}
use Rattle.icu_locale_parts.specs.Parts.{members}
use Rattle.icu_provider.specs.declared.names.NameKey.{NameKey}
use Rattle.icu_locale_lines.specs.SubtagLists.{after_any, began, if_begun, subtag_of}
use Rattle.icu_locale_lines.specs.declared.work.subtag.SubtagKind.{SubtagKind}

-- one key more
pub began_more : (kind : SubtagKind) (front : List ℕ) (ks : List NameKey) (i : ℕ) (d : NameKey) → i < length ks
    → began kind front (take (i + 1) ks) ≡ began kind front (take i ks) ++ if_begun front (subtag_of kind (get_or ks i d))
began_more kind front ks i d inside = ap (began kind front) (take_more ks i d inside)
    ∙ flat_map-append (λ k. if_begun front (subtag_of kind k)) (take i ks) (get_or ks i d ∷ [])
    ∙ ap (λ xs. began kind front (take i ks) ++ xs) (append-nil (if_begun front (subtag_of kind (get_or ks i d))))

-- one member more
members_push : (xs : List (List ℕ)) (x : List ℕ) → members (xs ++ x ∷ []) ≡ members xs ++ after_any (any_piece xs) (x ∷ [])
members_push [] x = refl
members_push (y ∷ ys) x = ap (λ t. y ++ t) (flat_map-append (λ z. codes " " ++ z) ys (x ∷ [])) ∙ sym (append_assoc y (flat_map (λ z. codes " " ++ z) ys) _)

module _ (done : List (List ℕ)) (front : List ℕ) where
  none_more : members (done ++ []) ≡ members done ++ []
  none_more = ap members (append-nil done) ∙ sym (append-nil (members done))

  pub members_more : (o : Option (List ℕ)) → members (done ++ if_begun front o) ≡ members done ++ after_any (any_piece done) (if_begun front o)
  members_more None = none_more
  members_more (Some x) = by (starts_with nat_eq x front)
    where
      by : (b : Bool) → members (done ++ (if b then x ∷ [] else [])) ≡ members done ++ after_any (any_piece done) (if b then x ∷ [] else [])
      by true = members_push done x
      by false = none_more

pub any_more : (xs : List (List ℕ)) (ys : List (List ℕ)) → any_piece (xs ++ ys) ≡ (any_piece xs || any_piece ys)
any_more [] ys = refl
any_more (x ∷ xs) ys = refl
