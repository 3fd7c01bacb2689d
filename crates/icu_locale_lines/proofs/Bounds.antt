-- Lines within a bound.
use Rattle.std.proofs.Common.{◌≡◌, ◌≢◌, ◌⊎◌, ◌≤◌, ℕ, ◌-◌, take, drop, subst, append-nil, length-append, ◌==◌, true, false, ◌||◌, cond, List, [], ◌∷◌, ◌++◌, length, Option, None, Some, is_none, refl, ap}
use Rattle.std.proofs.Common.{sym, ◌∙◌, append_assoc, inl, inr, arith}
use Rattle.std.specs.List.{list_any, slice_split, onto_first}
use Rattle.std.proofs.lemmas.Bool.{false≢true, or_parts}
use Rattle.std.proofs.lemmas.Bool.Decides.{nat_tests}
use Rattle.std.proofs.lemmas.List.{append_cancel_right}
use Rattle.std.proofs.lemmas.List.Folds.{list_any-append}
use Rattle.std.proofs.Math.Seq.{take-append_seam, drop-append_seam}
use Rattle.icu_locale_lines.specs.Lines.{is_line_feed, without_empty_last, lines, first_line, after_first_line, exceeds, AreWithin}
use Rattle.icu_locale_lines.specs.Streams.{part_size, EndsLines, IsUnended, IsFew}
use Rattle.icu_locale_lines.specs.laws.Parts.{without_empty_last-more, lines_of_parts}
use Rattle.icu_locale_lines.proofs.FirstLines.{IsWhole, IsCut, cut_at, alone, first_line-grows}

-- the lines of whole lines and what follows them
pub lines_after : (done t : List ℕ) → EndsLines done → lines (done ++ t) ≡ lines done ++ lines t
lines_after done t (inl none) = ap (λ d. lines (d ++ t)) none ∙ ap (λ d. lines d ++ lines t) (sym none)
lines_after done t (inr (front, is)) = ap (λ d. lines (d ++ t)) is ∙ ap lines (append_assoc front (10 ∷ []) t) ∙ lines_of_parts front t
    ∙ ap (λ d. lines d ++ lines t) (sym is)

-- a text without a line feed is one piece, and with one at its end it is followed by an empty piece
pieces_alone : (t : List ℕ) → list_any is_line_feed t ≡ false → slice_split is_line_feed t ≡ t ∷ []
pieces_alone [] none = refl
pieces_alone (c ∷ t) none =
    let both = or_parts (is_line_feed c) (list_any is_line_feed t) none in
    let ps = slice_split is_line_feed t in
    ap (λ b. cond b ([] ∷ ps) (onto_first c ps)) both.0 ∙ ap (onto_first c) (pieces_alone t both.1)

pieces_ended : (t : List ℕ) → list_any is_line_feed t ≡ false → slice_split is_line_feed (t ++ 10 ∷ []) ≡ t ∷ [] ∷ []
pieces_ended [] none = refl
pieces_ended (c ∷ t) none =
    let both = or_parts (is_line_feed c) (list_any is_line_feed t) none in
    let ps = slice_split is_line_feed (t ++ 10 ∷ []) in
    ap (λ b. cond b ([] ∷ ps) (onto_first c ps)) both.0 ∙ ap (onto_first c) (pieces_ended t both.1)

-- so a line alone is one line, and with its line feed too
lines_alone : (t : List ℕ) → t ≢ [] → list_any is_line_feed t ≡ false → lines t ≡ t ∷ []
lines_alone [] some none = absurd (some refl)
lines_alone (c ∷ t) some none = ap without_empty_last (pieces_alone (c ∷ t) none)

pub lines_ended : (line : List ℕ) → list_any is_line_feed line ≡ false → lines (line ++ 10 ∷ []) ≡ line ∷ []
lines_ended line none = ap without_empty_last (pieces_ended line none) ∙ without_empty_last-more line [] []

-- the first line, and those behind it
pub lines_at : (t : List ℕ) → t ≢ [] → lines t ≡ first_line t ∷ lines (after_first_line t)
lines_at t some = by (cut_at t)
  where
    by : IsWhole t ⊎ IsCut t → lines t ≡ first_line t ∷ lines (after_first_line t)
    by (inl whole) = lines_alone t some whole.1 ∙ (λ i. sym whole.0 i ∷ lines (sym (alone t whole.1).1 i))
    by (inr cut) = ap lines cut.0 ∙ lines_of_parts (first_line t) (after_first_line t)
        ∙ ap (λ ls. ls ++ lines (after_first_line t)) (lines_ended (first_line t) cut.1)

pub not_empty : (t : List ℕ) → false ≡ (length t == 0) → t ≢ []
not_empty t some none = false≢true (some ∙ ap (λ x. length x == 0) none)

module _ (longest : Option ℕ) where
  pub within_none : AreWithin longest []
  within_none = refl

  one_line : (line : List ℕ) → exceeds longest line ≡ false → list_any (exceeds longest) (line ∷ []) ≡ false
  one_line line within = ap (λ b. b || false) within

  -- a line alone
  pub within_alone : (line : List ℕ) → IsUnended longest line → AreWithin longest line
  within_alone [] unended = refl
  within_alone (c ∷ t) unended = ap (list_any (exceeds longest)) (lines_alone (c ∷ t) (λ e. absurd (cc)) unended.0) ∙ one_line (c ∷ t) unended.1

  -- a line with its line feed
  pub within_ended : (line : List ℕ) → list_any is_line_feed line ≡ false → exceeds longest line ≡ false → AreWithin longest (line ++ 10 ∷ [])
  within_ended line none within = ap (list_any (exceeds longest)) (lines_ended line none) ∙ one_line line within

  -- whole lines, and what follows them
  pub within_after : (done t : List ℕ) → EndsLines done → AreWithin longest done → AreWithin longest t → AreWithin longest (done ++ t)
  within_after done t ends first later = ap (list_any (exceeds longest)) (lines_after done t ends)
      ∙ list_any-append (exceeds longest) (lines done) (lines t) ∙ (λ i. first i || later i)

pub nothing_exceeds : (longest : Option ℕ) → exceeds longest [] ≡ false
nothing_exceeds None = refl
nothing_exceeds (Some n) = grind (arith, nat_tests)

-- a longer text exceeds too
pub exceeds-longer : (longest : Option ℕ) (x y : List ℕ) → length x ≤ length y → exceeds longest x ≡ true → exceeds longest y ≡ true
exceeds-longer None x y longer is = absurd (false≢true is)
exceeds-longer (Some n) x y longer is = grind (arith, nat_tests)

pub exceeds-grows : (longest : Option ℕ) (a b : List ℕ) → exceeds longest (first_line a) ≡ true → exceeds longest (first_line (a ++ b)) ≡ true
exceeds-grows longest a b = exceeds-longer longest (first_line a) (first_line (a ++ b)) (first_line-grows a b)

-- a text without a line feed is its own first line
pub exceeds-unended : (longest : Option ℕ) (held rest text : List ℕ) → text ≡ held ++ rest → list_any is_line_feed held ≡ false
    → list_any is_line_feed rest ≡ false → exceeds longest text ≡ true → exceeds longest (first_line text) ≡ true
exceeds-unended longest held rest text is first later long =
    let none : list_any is_line_feed text ≡ false = ap (list_any is_line_feed) is ∙ list_any-append is_line_feed held rest
    ∙ (λ i. first i || later i) in
    ap (exceeds longest) (alone text none).0 ∙ long

-- what follows a line feed that was not held is of the last part
behind_held : (held part front left : List ℕ) → list_any is_line_feed held ≡ false → held ++ part ≡ (front ++ 10 ∷ []) ++ left
    → length left ≤ length part
behind_held [] part front left none all = let sizes = ap length all in let parts = length-append (front ++ 10 ∷ []) left in omega (arith, sizes, parts)
behind_held (c ∷ held) part [] left none all =
    let feed : c ≡ 10 = cc in
    let other = (or_parts (is_line_feed c) (list_any is_line_feed held) none).0 in
    absurd (false≢true (sym other ∙ ap is_line_feed feed))
behind_held (c ∷ held) part (d ∷ front) left none all =
    behind_held held part front left (or_parts (is_line_feed c) (list_any is_line_feed held) none).1 (by all)
  where
    by : c ∷ (held ++ part) ≡ d ∷ ((front ++ 10 ∷ []) ++ left) → held ++ part ≡ (front ++ 10 ∷ []) ++ left
    by e = cc

few_part : (longest : Option ℕ) (left : List ℕ) → length left ≤ part_size → IsFew longest left
few_part longest left short = record { begun = []; part = left; parted = refl; unended = (refl, nothing_exceeds longest); short = short }

-- so no more is left than what was held, and the last part
pub few_left : {P : Type 0} → (longest : Option ℕ) (held part ended left : List ℕ) → IsUnended longest held → length part ≤ part_size
    → held ++ part ≡ ended ++ left → EndsLines ended ⊎ (P × (left ≡ [])) → IsFew longest left
few_left longest held part ended left unended short all (inl (inl none)) = record {
  begun = held;
  part = part;
  parted = sym (all ∙ ap (λ e. e ++ left) none);
  unended = unended;
  short = short;
}
few_left longest held part ended left unended short all (inl (inr (front, is))) = few_part longest left
    (let less = behind_held held part front left unended.0 (all ∙ ap (λ e. e ++ left) is) in omega (arith, less, short))
few_left longest held part ended left unended short all (inr (p, none)) = few_part longest left (let size = ap length none in omega (arith, size))

-- ---- whole lines whose first is cut off

pub EndsLines-append : (a b : List ℕ) → EndsLines a → EndsLines b → EndsLines (a ++ b)
EndsLines-append a b first (inl none) = subst EndsLines (sym (ap (λ x. a ++ x) none ∙ append-nil a)) first
EndsLines-append a b first (inr (front, is)) = inr (a ++ front, ap (λ x. a ++ x) is ∙ sym (append_assoc a front (10 ∷ [])))

-- they have a line feed, if there are some
unended : (t : List ℕ) → EndsLines t → t ≢ [] → list_any is_line_feed t ≡ false → ⊥
unended t (inl none) some alone = some none
unended t (inr (front, is)) some alone =
    let feed = sym (list_any-append is_line_feed front (10 ∷ [])) ∙ ap (list_any is_line_feed) (sym is) ∙ alone in
    false≢true (sym (or_parts (list_any is_line_feed front) true feed).1)

-- what follows in whole lines is whole lines
ends_behind : (a b : List ℕ) → EndsLines (a ++ b) → EndsLines b
ends_behind [] b ends = ends
ends_behind (c ∷ a) b (inl none) = absurd (cc)
ends_behind (c ∷ a) b (inr ([], is)) = ends_behind a b (inl (by is))
  where
    by : c ∷ (a ++ b) ≡ 10 ∷ [] → a ++ b ≡ []
    by e = cc
ends_behind (c ∷ a) b (inr (d ∷ front, is)) = ends_behind a b (inr (front, by is))
  where
    by : c ∷ (a ++ b) ≡ d ∷ (front ++ 10 ∷ []) → a ++ b ≡ front ++ 10 ∷ []
    by e = cc

pub ends_split : (text front behind : List ℕ) → text ≡ front ++ behind → behind ≡ after_first_line text → EndsLines text
    → EndsLines front × EndsLines behind
ends_split text front behind parted rest ends = (by (cut_at text), ends_behind front behind (subst EndsLines parted ends))
  where
    by : IsWhole text ⊎ IsCut text → EndsLines front
    by (inl whole) = subst EndsLines (parted ∙ ap (λ b. front ++ b) (rest ∙ (alone text whole.1).1) ∙ append-nil front) ends
    by (inr cut) = inr (
      first_line text,
      append_cancel_right front (first_line text ++ 10 ∷ []) behind
          (sym parted ∙ cut.0 ∙ sym (append_assoc (first_line text) (10 ∷ []) (after_first_line text))
          ∙ ap (λ b. (first_line text ++ 10 ∷ []) ++ b) (sym rest)),
    )

-- ---- a text up to its first line that is too long

-- the lines before rest are within the bound
pub record WithinBefore (longest : Option ℕ) (text rest : List ℕ) : Type 0 where
  pub done : List ℕ
  pub parted : text ≡ done ++ rest
  pub whole : EndsLines done
  pub within : AreWithin longest done

-- one more line is
pub WithinBefore-more : (longest : Option ℕ) (text rest : List ℕ) → EndsLines text → rest ≢ [] → WithinBefore longest text rest
    → exceeds longest (first_line rest) ≡ false → WithinBefore longest text (after_first_line rest)
WithinBefore-more longest text rest ends some before short = by (cut_at rest)
  where
    by : IsWhole rest ⊎ IsCut rest → WithinBefore longest text (after_first_line rest)
    by (inl whole) = absurd (unended rest (ends_behind before.done rest (subst EndsLines before.parted ends)) some whole.1)
    by (inr cut) =
        let line = first_line rest ++ 10 ∷ [] in
        let ended = inr (first_line rest, refl) in record {
          done = before.done ++ line;
          parted = before.parted ∙ ap (λ r. before.done ++ r) (cut.0 ∙ sym (append_assoc (first_line rest) (10 ∷ []) (after_first_line rest)))
              ∙ sym (append_assoc before.done line (after_first_line rest));
          whole = EndsLines-append before.done line before.whole ended;
          within = within_after longest before.done line before.whole before.within (within_ended longest (first_line rest) cut.1 short);
        }

-- a text that is cut where rest begins
pub WithinBefore-front : (longest : Option ℕ) (text rest : List ℕ) (before : WithinBefore longest text rest)
    → take (length text - length rest) text ≡ before.done × drop (length text - length rest) text ≡ rest
WithinBefore-front longest text rest before =
    let at : length text - length rest ≡ length before.done =
    let all = ap length before.parted in let both = length-append before.done rest in omega (arith, all, both) in (
      (λ i. take (at i) (before.parted i)) ∙ take-append_seam before.done rest,
      (λ i. drop (at i) (before.parted i)) ∙ drop-append_seam before.done rest,
    )

-- where there is no bound, all is within it
pub within_unbounded : (longest : Option ℕ) → is_none longest ≡ true → (text : List ℕ) → AreWithin longest text
within_unbounded (Some n) none text = absurd (false≢true none)
within_unbounded None none text = by (lines text)
  where
    by : (ls : List (List ℕ)) → list_any (exceeds None) ls ≡ false
    by [] = refl
    by (l ∷ ls) = by ls
