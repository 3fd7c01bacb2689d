-- Codes that are added to rows, one after another.
use Rattle.std.proofs.Common.{◌≡◌, ◌≤◌, ℕ, suc, if◌then◌else◌, get_or, ◌+◌, ◌-◌, Bool, true, false, List, [], ◌∷◌, ◌++◌, length, map, Option, Some, None, option_map, Ok, refl, sym, ap, ◌∙◌, append_assoc, arith}
use Rattle.std.proofs.lemmas.List.{append-nil, length_push, take_at, get_or-append_right}
use Rattle.std.proofs.lemmas.Str.{IsUtf8-from_is_utf8, is_utf8-from_IsUtf8}
use Rattle.std.specs.Str.{IsUtf8, is_utf8}
use Rattle.icu_locale_validity.specs.declared.table.Status.{Status}
use Rattle.serde_json.specs.Data.{Data}
use Rattle.serde_json.specs.Find.{as_str}
use Rattle.icu_tables.specs.Names.{named_in}
use Rattle.icu_tables.specs.Rows.{seen_rows}
use Rattle.icu_tables.specs.Shape.{with_row}
use Rattle.icu_tables.specs.Validity.{numbers, endings, stem, last_of, codes_up_to, codes_of_word, codes_of_words, codes_listed, codes_by_status, statuses, if_text, rows_of_codes}
use Rattle.icu_tables.specs.inner.Reads.{Appends}
use Rattle.icu_tables.proofs.Members.{seen_rows-same}

-- ---- the codes of a range

-- the first of a range, and the others
pub endings-more : (s : List ℕ) (c last : ℕ) → c ≤ last → endings s c last ≡ (s ++ c ∷ []) ∷ endings s (c + 1) last
endings-more s c last within =
    let count : last + 1 - c ≡ suc (last + 1 - (c + 1)) = omega arith in
    ap (λ n. map (λ d. s ++ d ∷ []) (numbers c n)) count

-- no character is left
pub endings-none : (s : List ℕ) (c last : ℕ) → suc last ≤ c → endings s c last ≡ []
endings-none s c last past =
    let count : last + 1 - c ≡ 0 = omega arith in
    ap (λ n. map (λ d. s ++ d ∷ []) (numbers c n)) count

-- what is before the last character, and that character
pub codes_up_to-is : (s : List ℕ) (c last : ℕ) → codes_up_to (s ++ c ∷ []) (last ∷ []) ≡ endings s c last
codes_up_to-is [] c last = refl
codes_up_to-is (x ∷ xs) c last =
    let behind : length (xs ++ c ∷ []) ≡ length xs + 1 = length_push xs c in
    let count : length (x ∷ xs) ≡ length (x ∷ (xs ++ c ∷ [])) - 1 = grind (arith, behind) in
    let before : stem (x ∷ (xs ++ c ∷ [])) ≡ x ∷ xs = take_at (x ∷ xs) (c ∷ []) _ count in
    let none : length xs - length xs ≡ 0 = omega arith in
    let end : get_or (xs ++ c ∷ []) (length xs) 0 ≡ c =
    get_or-append_right xs (c ∷ []) (length xs) (length xs) 0 refl (omega arith) ∙ ap (λ n. get_or (c ∷ []) n 0) none in
    let at_end : last_of (x ∷ (xs ++ c ∷ [])) ≡ c = ap (λ n. get_or (x ∷ (xs ++ c ∷ [])) n 0) (sym count) ∙ end in
    λ i. endings (before i) (at_end i) last

-- ---- rows

module _ {K : Type 0} (reads : List ℕ → Option K) (status : Status) where
  abbrev rows : List (List ℕ) → List (K × Status)
  rows = rows_of_codes reads status

  with_row-append : (key : Option K) (first second : List (K × Status)) → with_row key status (first ++ second) ≡ with_row key status first ++ second
  with_row-append None first second = refl
  with_row-append (Some key) first second = refl

  rows-append : (first second : List (List ℕ)) → rows (first ++ second) ≡ rows first ++ rows second
  rows-append [] second = refl
  rows-append (t ∷ ts) second = ap (with_row (if_text reads t) status) (rows-append ts second) ∙ with_row-append (if_text reads t) (rows ts) (rows second)

  words-append : (words : List (List ℕ)) (w : List ℕ) → codes_of_words (words ++ w ∷ []) ≡ codes_of_words words ++ codes_of_word w
  words-append [] w = append-nil (codes_of_word w)
  words-append (v ∷ words) w = ap (λ codes. codes_of_word v ++ codes) (words-append words w)
      ∙ sym (append_assoc (codes_of_word v) (codes_of_words words) (codes_of_word w))

  -- the codes of one word more are added
  pub word-more : (old now next : List (K × Status)) (words : List (List ℕ)) (w : List ℕ)
      → now ≡ old ++ rows (codes_of_words words) → next ≡ now ++ rows (codes_of_word w)
      → next ≡ old ++ rows (codes_of_words (words ++ w ∷ []))
  word-more old now next words w so_far added =
      added
      ∙ ap (λ before. before ++ rows (codes_of_word w)) so_far
      ∙ append_assoc old (rows (codes_of_words words)) (rows (codes_of_word w))
      ∙ ap (λ more. old ++ more) (sym (rows-append (codes_of_words words) (codes_of_word w)))
      ∙ ap (λ codes. old ++ rows codes) (sym (words-append words w))

  -- what is left of a range decides
  abbrev pub becomes_of : List ℕ → List (K × Status) → ℕ → ℕ → List (K × Status)
  becomes_of s now c last = now ++ rows (endings s c last)

  -- one code of a range is added
  pub ending-more : (s : List ℕ) (now next : List (K × Status)) (c last : ℕ) → c ≤ last
      → next ≡ now ++ rows ((s ++ c ∷ []) ∷ []) → becomes_of s now c last ≡ becomes_of s next (c + 1) last
  ending-more s now next c last within added =
      ap (λ codes. now ++ rows codes) (endings-more s c last within)
      ∙ ap (λ more. now ++ more) (rows-append ((s ++ c ∷ []) ∷ []) (endings s (c + 1) last))
      ∙ sym (append_assoc now (rows ((s ++ c ∷ []) ∷ [])) (rows (endings s (c + 1) last)))
      ∙ ap (λ before. before ++ rows (endings s (c + 1) last)) (sym added)

  -- the codes that a member lists are added
  pub listed_added : (old new more : List (K × Status)) (said : Option (List (K × Status))) → new ≡ old ++ more → said ≡ Some more
      → Appends (Ok tt) (seen_rows (λ s. s) old) (seen_rows (λ s. s) new) said
  listed_added old new more said adds says =
      ap (option_map (λ rows. seen_rows (λ s. s) old ++ rows)) says
      ∙ ap (λ rows. Some rows) (ap (λ list. list ++ more) (seen_rows-same old) ∙ sym adds ∙ sym (seen_rows-same new))

-- bytes that are no text are read as none
by_utf8 : {K : Type 0} (reads : List ℕ → Option K) (t : List ℕ) (test : Bool) → is_utf8 t ≡ test → (IsUtf8 t → ⊥) → None ≡ (if test then reads t else None)
by_utf8 reads t true is none = absurd (none (IsUtf8-from_is_utf8 t is))
by_utf8 reads t false is none = refl

pub if_text-none : {K : Type 0} (reads : List ℕ → Option K) (t : List ℕ) → (IsUtf8 t → ⊥) → None ≡ if_text reads t
if_text-none reads t none = by_utf8 reads t (is_utf8 t) refl none

-- a text is read as it is
pub if_text-is : {K : Type 0} (reads : List ℕ → Option K) (t : List ℕ) → IsUtf8 t → if_text reads t ≡ reads t
if_text-is reads t utf8 = rw (is_utf8-from_IsUtf8 t utf8) refl

-- the codes of a member, where its name is that of a status and it is a text
pub codes_said : {K : Type 0} (reads : List ℕ → Option K) (name : List ℕ) (value : Data) (t : List ℕ) (status : Status)
    → named_in statuses name ≡ Some status → as_str value ≡ Some t
    → codes_by_status reads name value ≡ Some (rows_of_codes reads status (codes_listed t))
codes_said reads name value t status named text = rw (named, text) refl
