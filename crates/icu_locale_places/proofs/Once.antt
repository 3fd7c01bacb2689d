-- Variants of which none comes twice: so are the first of them.
use Rattle.std.proofs.Common.{◌≡◌, ℕ, ◌≤◌, ◌+◌, suc, Bool, true, false, cond, not, ◌&&◌, ◌==◌, List, [], ◌∷◌, ◌++◌, length, map, ap, sym, ◌∙◌, arith}
use Rattle.std.specs.FinMap as fin
use Rattle.std.specs.List.{list_all}
use Rattle.std.proofs.lemmas.Bool.{and_parts, and_from, or_parts, not-true, not_from_false}
use Rattle.std.proofs.lemmas.Bool.Decides.{nat_tests}
use Rattle.std.proofs.lemmas.List.{length-map, map-append}
use Rattle.std.proofs.lemmas.List.Folds.{list_all-append}
use Rattle.icu_locale_core.specs.Readings.{are_variants}
use Rattle.icu_locale_core.specs.Subtag.{is_variant, lowercase}
use Rattle.icu_locale_core.specs.TextSet.{TextSet, from_list, len}
use Rattle.icu_locale_core.specs.laws.TextSets.{text_total, is_among, is_among-append, contains-from_list, length-rising_empty}

set_len : (s : TextSet) → fin.len s ≡ len s
set_len s = fin.len-entries s ∙ sym (length-map (fin.entries s) (λ e. e.0))

len_step : (t : List ℕ) (ts : List (List ℕ)) → len (from_list (t ∷ ts)) ≡ cond (is_among t ts) (len (from_list ts)) (len (from_list ts) + 1)
len_step t ts =
    sym (set_len (from_list (t ∷ ts))) ∙ fin.len-insert text_total (from_list ts) t tt
    ∙ (λ i. cond (contains-from_list ts t i) (set_len (from_list ts) i) (set_len (from_list ts) i + 1))

len_small : (ts : List (List ℕ)) → len (from_list ts) ≤ length ts
len_small [] = omega (arith, length-rising_empty)
len_small (t ∷ ts) = by (is_among t ts) (len_step t ts) (len_small ts)
  where
    by : (b : Bool) → len (from_list (t ∷ ts)) ≡ cond b (len (from_list ts)) (len (from_list ts) + 1)
        → len (from_list ts) ≤ length ts → len (from_list (t ∷ ts)) ≤ length (t ∷ ts)
    by true e small = omega arith
    by false e small = omega arith

-- none comes twice
abbrev are_once : List (List ℕ) → Bool
are_once ts = len (from_list ts) == length ts

one_more : (c : Bool) (n l : ℕ) → n ≤ l → (cond c n (n + 1) == suc l) ≡ (not c && (n == l))
one_more true n l small = grind (arith, nat_tests)
one_more false n l small = grind (arith, nat_tests)

once_step : (t : List ℕ) (ts : List (List ℕ)) → are_once (t ∷ ts) ≡ (not (is_among t ts) && are_once ts)
once_step t ts = ap (λ n. n == suc (length ts)) (len_step t ts) ∙ one_more (is_among t ts) (len (from_list ts)) (length ts) (len_small ts)

once_nil : are_once [] ≡ true
once_nil = ap (λ n. n == 0) length-rising_empty

once_front : (ts us : List (List ℕ)) → are_once (ts ++ us) ≡ true → are_once ts ≡ true
once_front [] us once = once_nil
once_front (t ∷ ts) us once =
    let both = and_parts (not (is_among t (ts ++ us))) (are_once (ts ++ us)) (sym (once_step t (ts ++ us)) ∙ once) in
    let new = or_parts (is_among t ts) (is_among t us) (sym (is_among-append t ts us) ∙ not-true (is_among t (ts ++ us)) both.0) in
    once_step t ts ∙ and_from (not (is_among t ts)) (are_once ts) (not_from_false (is_among t ts) new.0) (once_front ts us both.1)

pub no_variants : are_variants [] ≡ true
no_variants = once_nil

pub variants_front : (ps qs : List (List ℕ)) → are_variants (ps ++ qs) ≡ true → are_variants ps ≡ true
variants_front ps qs are =
    let both = and_parts (list_all is_variant (ps ++ qs)) (len (from_list (map lowercase (ps ++ qs))) == length (ps ++ qs)) are in
    let each = and_parts (list_all is_variant ps) (list_all is_variant qs) (sym (list_all-append is_variant ps qs) ∙ both.0) in
    let whole : are_once (map lowercase ps ++ map lowercase qs) ≡ true =
    ap are_once (sym (map-append lowercase ps qs))
    ∙ ap (λ n. len (from_list (map lowercase (ps ++ qs))) == n) (length-map (ps ++ qs) lowercase) ∙ both.1 in
    and_from (list_all is_variant ps) (len (from_list (map lowercase ps)) == length ps) each.0
    (ap (λ n. len (from_list (map lowercase ps)) == n) (sym (length-map ps lowercase)) ∙ once_front (map lowercase ps) (map lowercase qs) whole)
