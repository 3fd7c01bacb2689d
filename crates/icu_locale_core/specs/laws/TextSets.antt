-- A set of texts is known by its members, and its list by the order.
use Rattle.std.specs.Prelude.{◌≡◌, ℕ, Bool, true, false, not, cond, ◌&&◌, ◌||◌, is_some, nat_eq, List, [], ◌∷◌, ◌++◌, length, get_or, Option, Some, None}
use Rattle.std.proofs.Common.{refl, ap, sym, ◌∙◌}
use Rattle.std.specs.List.{list_any, filter, Contains}
use Rattle.std.specs.Cmp.{IsTotalOrder, Equal-is}
use Rattle.std.specs.Cmp.Lexicographic.{pointwise, slice_cmp, lists_ties, texts_ties, nat_list_cmp_total}
use Rattle.std.specs.Ordering.{eq_by_cmp, is_eq}
use Rattle.std.specs.FinMap as fin
use Rattle.std.specs.FinMap.{IsAntisymmetric, slice_cmp-IsAntisymmetric, nat_cmp-IsAntisymmetric}
use Rattle.std.proofs.lemmas.Bool.{false≢true}
use Rattle.std.proofs.lemmas.Cmp.{tied_itself}
use Rattle.std.proofs.lemmas.List.{length-map}
use Rattle.std.proofs.lemmas.List.Folds.{Any-from_list_any, list_any-from_Any, list_any-append}
use Rattle.std.proofs.lemmas.Map.Views.{any-filter_same}
use Rattle.icu_locale_core.specs.TextSet.{text_cmp, TextSet, contains, from_list, rising, empty, union, difference}

-- ---- texts in order

pub text_total : IsTotalOrder text_cmp
text_total = nat_list_cmp_total

-- texts that tie are one
pub text_same : IsAntisymmetric text_cmp
text_same = slice_cmp-IsAntisymmetric nat_cmp-IsAntisymmetric

pub same_from_tied : (q t : List ℕ) → eq_by_cmp text_cmp q t ≡ true → q ≡ t
same_from_tied q t e = text_same q t ((Equal-is (text_cmp q t)).0 e)

-- ---- texts of a list

-- whether a text is in a list
abbrev pub is_among : List ℕ → List (List ℕ) → Bool
is_among t ts = list_any (λ u. eq_by_cmp text_cmp t u) ts

pub Contains-is_among : (t : List ℕ) (ts : List (List ℕ)) → is_among t ts ≡ true → Contains ts t
Contains-is_among t ts among =
    let found = Any-from_list_any (λ u. eq_by_cmp text_cmp t u) ts among in
    let same : t ≡ found.1 = text_same t found.1 ((Equal-is (text_cmp t found.1)).0 found.4) in
    let here : get_or ts found.0 t ≡ t = (λ i. get_or ts found.0 (same i)) ∙ found.3 ∙ sym same in
    (found.0, found.2, here)

pub is_among-Contains : (t : List ℕ) (ts : List (List ℕ)) → Contains ts t → is_among t ts ≡ true
is_among-Contains t ts (k, within, is) =
    list_any-from_Any (λ u. eq_by_cmp text_cmp t u) ts
    (k, t, within, is, ap is_eq (tied_itself text_total t))

pub is_among-append : (q : List ℕ) (ts us : List (List ℕ))
    → is_among q (ts ++ us) ≡ (is_among q ts || is_among q us)
is_among-append q ts us = list_any-append (λ u. eq_by_cmp text_cmp q u) ts us

pub is_among-filter : (p : List ℕ → Bool) (q : List ℕ) (ts : List (List ℕ))
    → is_among q (filter p ts) ≡ (p q && is_among q ts)
is_among-filter p q ts =
    any-filter_same (λ u. eq_by_cmp text_cmp q u) p (p q)
    (λ k tied. ap p (sym (same_from_tied q k tied))) ts

-- ---- members of sets

same_option : (x y : Option (Unit {0})) → is_some x ≡ is_some y → x ≡ y
same_option None None e = refl
same_option (Some u) (Some v) e = refl
same_option None (Some u) e = absurd (false≢true e)
same_option (Some u) None e = absurd (false≢true (sym e))

-- two sets with the same members are equal
pub same_set : (s u : TextSet) → ((q : List ℕ) → contains s q ≡ contains u q) → s ≡ u
same_set s u same = fin.same_map text_total text_same s u (λ q. same_option _ _ (same q))

put : (b : Bool) (x : Option (Unit {0})) → is_some (cond b (Some tt) x) ≡ (b || is_some x)
put true x = refl
put false x = refl

-- a text that is put in is a member, and the others stay
pub contains-insert : (s : TextSet) (t q : List ℕ)
    → contains (fin.insert s t tt) q ≡ (eq_by_cmp text_cmp q t || contains s q)
contains-insert s t q =
    ap is_some (fin.get-insert text_total s t tt q) ∙ put (eq_by_cmp text_cmp q t) (fin.get s q)

-- a set of a list has the texts of the list
pub contains-from_list : (ts : List (List ℕ)) (q : List ℕ)
    → contains (from_list ts) q ≡ is_among q ts
contains-from_list [] q = ap is_some (fin.get-empty text_cmp q)
contains-from_list (t ∷ ts) q =
    contains-insert (from_list ts) t q
    ∙ ap (λ b. eq_by_cmp text_cmp q t || b) (contains-from_list ts q)

-- the rising list has the members
pub contains-rising : (s : TextSet) (q : List ℕ) → contains s q ≡ is_among q (rising s)
contains-rising s q = fin.contains_key-keys s q

-- and is a list of that set
pub from_list-rising : (s : TextSet) → from_list (rising s) ≡ s
from_list-rising s =
    same_set (from_list (rising s)) s
    (λ q. contains-from_list (rising s) q ∙ sym (contains-rising s q))

pub contains-empty : (q : List ℕ) → contains empty q ≡ false
contains-empty q = contains-from_list [] q

pub length-rising_empty : length (rising empty) ≡ 0
length-rising_empty =
    length-map (fin.entries empty) (λ e. e.0)
    ∙ sym (fin.len-entries empty) ∙ fin.len-empty text_cmp (Unit {0})

pub contains-union : (s u : TextSet) (q : List ℕ)
    → contains (union s u) q ≡ (contains s q || contains u q)
contains-union s u q =
    contains-from_list (rising s ++ rising u) q
    ∙ is_among-append q (rising s) (rising u)
    ∙ (λ i. sym (contains-rising s q) i || sym (contains-rising u q) i)

pub contains-difference : (s u : TextSet) (q : List ℕ)
    → contains (difference s u) q ≡ (not (contains u q) && contains s q)
contains-difference s u q =
    contains-from_list (filter (λ t. not (contains u t)) (rising s)) q
    ∙ is_among-filter (λ t. not (contains u t)) q (rising s)
    ∙ ap (λ b. not (contains u q) && b) (sym (contains-rising s q))

-- the members of s without those of r, together with those of a
pub contains-replaced : (s r a : TextSet) (q : List ℕ)
    → contains (union (difference s r) a) q ≡ ((not (contains r q) && contains s q) || contains a q)
contains-replaced s r a q =
    contains-union (difference s r) a q ∙ ap (λ b. b || contains a q) (contains-difference s r q)

-- lists of texts are equal exactly where their order ties
pub piece_lists_ties : (xs ys : List (List ℕ)) → pointwise (pointwise nat_eq) xs ys
    ≡ eq_by_cmp (slice_cmp text_cmp) xs ys
piece_lists_ties = lists_ties text_cmp texts_ties

-- sets tie exactly where they have the same texts
pub text_lists_ties : (s u : TextSet) → pointwise (pointwise nat_eq) (rising s) (rising u)
    ≡ eq_by_cmp (slice_cmp text_cmp) (rising s) (rising u)
text_lists_ties s u = piece_lists_ties (rising s) (rising u)
