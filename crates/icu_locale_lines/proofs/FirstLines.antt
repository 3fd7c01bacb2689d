-- First lines of texts that come by parts.
use Rattle.std.proofs.Common.{◌≡◌, ◌≢◌, ◌⊎◌, ◌≤◌, ℕ, suc, ◌+◌, not, true, false, ◌||◌, List, [], ◌∷◌, ◌++◌, length, inl, inr, refl, ap, sym, subst}
use Rattle.std.proofs.Common.{◌∙◌, length-append, take, drop, cond, arith}
use Rattle.std.specs.List.{list_any, position_or_len}
use Rattle.std.proofs.lemmas.Bool.{or_parts}
use Rattle.std.proofs.lemmas.Bool.Decides.{nat_tests}
use Rattle.icu_locale_lines.specs.Lines.{is_line_feed, first_line, after_first_line}

-- a text without a line feed is its first line
abbrev pub IsWhole : List ℕ → Type 0
IsWhole t = (first_line t ≡ t) × (list_any is_line_feed t ≡ false)

-- a text with one is cut there
abbrev pub IsCut : List ℕ → Type 0
IsCut t = (t ≡ first_line t ++ 10 ∷ after_first_line t) × (list_any is_line_feed (first_line t) ≡ false)

one_more : (n : ℕ) → 1 + n ≡ suc n
one_more n = omega arith

two_more : (n : ℕ) → 1 + n + 1 ≡ suc (n + 1)
two_more n = omega arith

-- a byte before a text
module _ (c : ℕ) (t : List ℕ) where
  first_behind : is_line_feed c ≡ false → first_line (c ∷ t) ≡ c ∷ first_line t
  first_behind other = ap (λ b. take (cond (not b) (1 + position_or_len is_line_feed t) 0) (c ∷ t)) other
      ∙ ap (λ n. take n (c ∷ t)) (one_more (position_or_len is_line_feed t))

  after_behind : is_line_feed c ≡ false → after_first_line (c ∷ t) ≡ after_first_line t
  after_behind other = ap (λ b. drop (cond (not b) (1 + position_or_len is_line_feed t) 0 + 1) (c ∷ t)) other
      ∙ ap (λ n. drop n (c ∷ t)) (two_more (position_or_len is_line_feed t))

  first_here : is_line_feed c ≡ true → first_line (c ∷ t) ≡ []
  first_here is = ap (λ b. take (cond (not b) (1 + position_or_len is_line_feed t) 0) (c ∷ t)) is

  after_here : is_line_feed c ≡ true → after_first_line (c ∷ t) ≡ t
  after_here is = ap (λ b. drop (cond (not b) (1 + position_or_len is_line_feed t) 0 + 1) (c ∷ t)) is

  none_behind : (ts : List ℕ) → is_line_feed c ≡ false → list_any is_line_feed ts ≡ false → list_any is_line_feed (c ∷ ts) ≡ false
  none_behind ts other none = ap (λ b. b || list_any is_line_feed ts) other ∙ none

  cut_behind : is_line_feed c ≡ false → IsWhole t ⊎ IsCut t → IsWhole (c ∷ t) ⊎ IsCut (c ∷ t)
  cut_behind other (inl whole) = inl (first_behind other ∙ ap (λ x. c ∷ x) whole.0, none_behind t other whole.1)
  cut_behind other (inr cut) = inr (
    ap (λ x. c ∷ x) cut.0 ∙ (λ i. sym (first_behind other) i ++ 10 ∷ sym (after_behind other) i),
    subst (λ x. list_any is_line_feed x ≡ false) (sym (first_behind other)) (none_behind (first_line t) other cut.1),
  )

  ten : is_line_feed c ≡ true → c ≡ 10
  ten is = grind (arith, nat_tests)

  cut_here : is_line_feed c ≡ true → IsCut (c ∷ t)
  cut_here is = (
    (λ i. ten is i ∷ t) ∙ (λ i. sym (first_here is) i ++ 10 ∷ sym (after_here is) i),
    ap (list_any is_line_feed) (first_here is),
  )

pub cut_at : (t : List ℕ) → IsWhole t ⊎ IsCut t
cut_at [] = inl (refl, refl)
cut_at (c ∷ t) = (elim (is_line_feed c) as (λ b. is_line_feed c ≡ b → IsWhole (c ∷ t) ⊎ IsCut (c ∷ t)) [
  | true ↦ λ is. inr (cut_here c t is)
  | false ↦ λ is. cut_behind c t is (cut_at t)
]) refl

-- a text whose first line is as long as it has no line feed, and every other is cut
pub whole_by_length : (t : List ℕ) → length (first_line t) ≡ length t → IsWhole t
whole_by_length t same = by (cut_at t)
  where
    by : IsWhole t ⊎ IsCut t → IsWhole t
    by (inl whole) = whole
    by (inr cut) =
        let longer : length t ≡ length (first_line t) + suc (length (after_first_line t)) = ap length cut.0
        ∙ length-append (first_line t) (10 ∷ after_first_line t) in
        absurd (omega (arith, longer, same))

pub cut_by_length : (t : List ℕ) → length (first_line t) ≢ length t → IsCut t
cut_by_length t other = by (cut_at t)
  where
    by : IsWhole t ⊎ IsCut t → IsCut t
    by (inl whole) = absurd (other (ap length whole.0))
    by (inr cut) = cut

-- the first line of a line and its line feed, whatever follows
pub place_of_end : (line t : List ℕ) → list_any is_line_feed line ≡ false → first_line (line ++ 10 ∷ t) ≡ line × after_first_line (line ++ 10 ∷ t) ≡ t
place_of_end [] t none = (refl, refl)
place_of_end (c ∷ line) t none =
    let both = or_parts (is_line_feed c) (list_any is_line_feed line) none in
    let rest = place_of_end line t both.1 in
    (first_behind c (line ++ 10 ∷ t) both.0 ∙ ap (λ x. c ∷ x) rest.0, after_behind c (line ++ 10 ∷ t) both.0 ∙ rest.1)

-- without one all is the first line, and nothing follows it
pub alone : (t : List ℕ) → list_any is_line_feed t ≡ false → first_line t ≡ t × after_first_line t ≡ []
alone [] none = (refl, refl)
alone (c ∷ t) none =
    let both = or_parts (is_line_feed c) (list_any is_line_feed t) none in
    let rest = alone t both.1 in
    (first_behind c t both.0 ∙ ap (λ x. c ∷ x) rest.0, after_behind c t both.0 ∙ rest.1)

-- what is before a line feed goes on from one text to the next
pub first_line-behind : (a b : List ℕ) → list_any is_line_feed a ≡ false → first_line (a ++ b) ≡ a ++ first_line b
first_line-behind [] b none = refl
first_line-behind (c ∷ a) b none =
    let both = or_parts (is_line_feed c) (list_any is_line_feed a) none in
    first_behind c (a ++ b) both.0 ∙ ap (λ x. c ∷ x) (first_line-behind a b both.1)

-- a first line grows no shorter by what follows
pub first_line-grows : (a b : List ℕ) → length (first_line a) ≤ length (first_line (a ++ b))
first_line-grows [] b = omega arith
first_line-grows (c ∷ a) b = (elim (is_line_feed c) as (λ f. is_line_feed c ≡ f → length (first_line (c ∷ a)) ≤ length (first_line (c ∷ (a ++ b)))) [
  | true ↦ λ is. let none = ap length (first_here c a is) in omega (arith, none)
  | false ↦ λ is.
      let one = ap length (first_behind c a is) in
      let two = ap length (first_behind c (a ++ b) is) in
      let rest = first_line-grows a b in
      omega (arith, one, two, rest)
]) refl

-- of a text that is empty both parts are
pub none_front : (a b : List ℕ) → a ++ b ≡ [] → a ≡ []
none_front [] b none = refl
none_front (c ∷ a) b none = absurd (cc)

pub none_left : (a b : List ℕ) → a ++ b ≡ [] → b ≡ []
none_left [] b none = none
none_left (c ∷ a) b none = absurd (cc)
