-- The pieces of a value, and their text read back.
use Rattle.std.proofs.Common.{◌≡◌, ℕ, true, false, not, cond, filter, Ok, sym, arith, ◌&&◌, ◌||◌, ◌==◌, List, [], ◌∷◌, ◌++◌, length, codes, refl, ap, ◌∙◌}
use Rattle.std.specs.List.{All, list_all, flat_map}
use Rattle.std.proofs.lemmas.Bool.{false≢true, true≢false, and_parts, and_from}
use Rattle.std.proofs.Math.Dec.{eqb-suc-zero}
use Rattle.std.proofs.lemmas.Bool.Decides.{nat_tests}
use Rattle.std.proofs.lemmas.List.Splits.{slice_split_none}
use Rattle.std.proofs.lemmas.List.Elements.{All-nil, All-cons, All-append, All-head, All-tail}
use Rattle.std.proofs.lemmas.List.Folds.{list_all-append}
use Rattle.icu_locale_core.specs.Identifier.{pieces, is_separator}
use Rattle.icu_locale_core.specs.Subtag.{is_subtag, lowercase, IsSubtag}
use Rattle.icu_locale_core.specs.Value.{is_true, is_value, IsValue, ReadsValue, read_value, read_subtags, written_value}
use Rattle.icu_locale_core.specs.declared.classes.Class.TheVariants.{Subtag}
use Rattle.icu_locale_core.proofs.Written.{Whole, whole_member, pieces-join}

-- a value with one more piece
pub IsValue-more : (v : List (List ℕ)) (p : List ℕ) → IsValue v → IsSubtag p → is_true p ≡ false → IsValue (v ++ p ∷ [])
IsValue-more v p is piece plain = record {
  each = All-append IsSubtag v (p ∷ []) is.each (All-cons IsSubtag p [] piece (All-nil IsSubtag));
  plain = list_all-append (λ q. not (is_true q)) v (p ∷ []) ∙ and_from _ _ is.plain (ap (λ b. not b && true) plain);
}

module _ (p : List ℕ) (ps : List (List ℕ)) where
  head_of : IsValue (p ∷ ps) → IsSubtag p
  head_of is = All-head IsSubtag p ps is.each

  tail_of : IsValue (p ∷ ps) → IsValue ps
  tail_of is = record { each = All-tail IsSubtag p ps is.each; plain = (and_parts (not (is_true p)) _ is.plain).1 }

wholes : (v : List (List ℕ)) → IsValue v → All Whole v
wholes [] is = All-nil Whole
wholes (p ∷ ps) is = All-cons Whole p ps (whole_member Subtag p (head_of p ps is).member) (wholes ps (tail_of p ps is))

are_subtags : (v : List (List ℕ)) → IsValue v → list_all is_subtag v ≡ true
are_subtags [] is = refl
are_subtags (p ∷ ps) is = and_from (is_subtag p) (list_all is_subtag ps) (head_of p ps is).member (are_subtags ps (tail_of p ps is))

-- nothing of a value is dropped or changed
kept : (v : List (List ℕ)) → IsValue v → read_subtags v ≡ v
kept [] is = refl
kept (p ∷ ps) is =
    let lower = (head_of p ps is).written in
    (λ i. cond (not (is_true (lower i))) (lower i ∷ kept ps (tail_of p ps is) i) (kept ps (tail_of p ps is) i))
    ∙ ap (λ b. cond b (p ∷ ps) ps) (and_parts (not (is_true p)) _ is.plain).0

-- the text of a value with pieces is not empty
some_text : (p : List ℕ) (ps : List (List ℕ)) → IsValue (p ∷ ps) → (length (written_value (p ∷ ps)) == 0) ≡ false
some_text [] ps is = absurd (false≢true (head_of [] ps is).member)
some_text (c ∷ t) ps is = eqb-suc-zero (length (t ++ flat_map (λ q. codes "-" ++ q) ps))

pub value_reads_back : (v : List (List ℕ)) → IsValue v → read_value (written_value v) ≡ v
value_reads_back [] is = refl
value_reads_back (p ∷ ps) is =
    ap (λ b. cond b [] (read_subtags (pieces (written_value (p ∷ ps))))) (some_text p ps is)
    ∙ ap read_subtags (pieces-join p ps (wholes (p ∷ ps) is))
    ∙ kept (p ∷ ps) is

pub value_is_accepted : (v : List (List ℕ)) → IsValue v → is_value (written_value v) ≡ true
value_is_accepted [] is = refl
value_is_accepted (p ∷ ps) is =
    ap (λ b. b || list_all is_subtag (pieces (written_value (p ∷ ps)))) (some_text p ps is)
    ∙ ap (list_all is_subtag) (pieces-join p ps (wholes (p ∷ ps) is))
    ∙ are_subtags (p ∷ ps) is

-- a text that is one piece reads as that piece, unless it is `true`
pub one_is_read : (t piece : List ℕ) (v : List (List ℕ)) → is_subtag t ≡ true → piece ≡ lowercase t
    → v ≡ filter (λ p. not (is_true p)) (piece ∷ []) → ReadsValue t (Ok v)
one_is_read t piece v is lower kept =
    let one : pieces t ≡ t ∷ [] = slice_split_none is_separator t (whole_member Subtag t is) in
    let some : (length t == 0) ≡ false = grind (arith, nat_tests) in
    let all : is_value t ≡ true = rw some (rw one (rw is refl)) in
    record {
      read = rw (kept, lower, some, one) refl;
      refused = (λ e. absurd (cc), λ no. absurd (true≢false (sym all ∙ no)));
      language = λ e. cc;
      free = λ none e. cc;
    }
