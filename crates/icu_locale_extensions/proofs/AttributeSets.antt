-- A rising list of texts with one put in or taken out.
use Rattle.std.proofs.Common.{◌≡◌, ℕ, Bool, true, false, cond, not, ◌||◌, List, [], ◌∷◌, filter, refl, ap, sym, ◌∙◌}
use Rattle.std.specs.BTreeMap.{is_at}
use Rattle.std.specs.List.{AllByRecursion}
use Rattle.std.specs.List.Sorted.{IsStrictlySortedBy}
use Rattle.std.specs.Ordering.{eq_by_cmp, is_eq}
use Rattle.std.specs.Set.{remove_key}
use Rattle.std.specs.Cmp.Lexicographic.{texts_ties}
use Rattle.std.specs.declared.cmp.Ordering.TheVariants.{Less}
use Rattle.std.proofs.lemmas.Cmp.{eq_by_cmp_equiv}
use Rattle.std.proofs.lemmas.Map.Keys.{sorted_head, sorted_tail}
use Rattle.icu_locale_core.specs.TextSet.{text_cmp, from_list, rising}
use Rattle.icu_locale_core.specs.laws.Identifiers.{same_text}
use Rattle.icu_locale_core.specs.laws.RisingLists.{rising-from_list}
use Rattle.icu_locale_core.specs.laws.TextSets.{is_among, same_set, contains-from_list, text_total, same_from_tied}

turned : (t q : List ℕ) → eq_by_cmp text_cmp t q ≡ eq_by_cmp text_cmp q t
turned t q = (eq_by_cmp_equiv text_total).symm t q

first_true : (a b : Bool) → cond a true b ≡ (a || b)
first_true true b = refl
first_true false b = refl

-- a rising list with the texts of another and one more
pub put_in : (t : List ℕ) (ts new : List (List ℕ)) → IsStrictlySortedBy text_cmp new
    → ((q : List ℕ) → is_among q new ≡ cond (eq_by_cmp text_cmp t q) true (is_among q ts))
    → new ≡ rising (from_list (t ∷ ts))
put_in t ts new rises has =
    sym (rising-from_list new rises)
    ∙ ap rising (same_set (from_list new) (from_list (t ∷ ts)) (λ q.
    contains-from_list new q ∙ has q ∙ first_true (eq_by_cmp text_cmp t q) (is_among q ts)
    ∙ ap (λ b. b || is_among q ts) (turned t q) ∙ sym (contains-from_list (t ∷ ts) q)))

-- texts above another are not it
all_above : (t x : List ℕ) (xs : List (List ℕ)) → t ≡ x → AllByRecursion (λ y. text_cmp x y ≡ Less) xs
    → filter (λ u. not (same_text u t)) xs ≡ xs
all_above t x [] is above = refl
all_above t x (y ∷ ys) is above =
    let apart : same_text y t ≡ false = ap (same_text y) is ∙ texts_ties y x ∙ turned y x ∙ ap is_eq above.0 in
    ap (λ b. cond (not b) (y ∷ filter (λ u. not (same_text u t)) ys) (filter (λ u. not (same_text u t)) ys)) apart
    ∙ ap (λ r. y ∷ r) (all_above t x ys is above.1)

-- a rising list without a text
pub taken_out : (t : List ℕ) (ts : List (List ℕ)) → IsStrictlySortedBy text_cmp ts
    → remove_key (is_at (text_cmp t)) ts ≡ filter (λ u. not (same_text u t)) ts
taken_out t [] rises = refl
taken_out t (x ∷ xs) rises = by (eq_by_cmp text_cmp t x) refl (taken_out t xs (sorted_tail text_cmp x xs rises))
  where
    other : (b : Bool) → eq_by_cmp text_cmp t x ≡ b → same_text x t ≡ b
    other b e = texts_ties x t ∙ turned x t ∙ e

    by : (b : Bool) → eq_by_cmp text_cmp t x ≡ b → remove_key (is_at (text_cmp t)) xs ≡ filter (λ u. not (same_text u t)) xs
        → cond (eq_by_cmp text_cmp t x) xs (x ∷ remove_key (is_at (text_cmp t)) xs)
        ≡ cond (not (same_text x t)) (x ∷ filter (λ u. not (same_text u t)) xs) (filter (λ u. not (same_text u t)) xs)
    by true e rest =
        ap (λ b. cond b xs (x ∷ remove_key (is_at (text_cmp t)) xs)) e
        ∙ sym (all_above t x xs (same_from_tied t x e) (sorted_head text_cmp x xs rises))
        ∙ ap (λ b. cond (not b) (x ∷ filter (λ u. not (same_text u t)) xs) (filter (λ u. not (same_text u t)) xs)) (sym (other true e))
    by false e rest =
        ap (λ b. cond b xs (x ∷ remove_key (is_at (text_cmp t)) xs)) e
        ∙ ap (λ r. x ∷ r) rest
        ∙ ap (λ b. cond (not b) (x ∷ filter (λ u. not (same_text u t)) xs) (filter (λ u. not (same_text u t)) xs)) (sym (other false e))
