-- What is appended for parts, and what is told of a locale.
use Rattle.std.proofs.Common.{◌≡◌, ℕ, ◌-◌, Bool, true, false, not, cond, if◌then◌else◌, List, [], ◌∷◌, ◌++◌, map, filter, codes, length, take, refl, ap, sym, ◌∙◌, append_assoc, append-nil, length-append, arith, None}
use Rattle.std.specs.List.{flat_map, join_by, list_all}
use Rattle.std.proofs.Math.Seq.{take-append_seam}
use Rattle.std.proofs.lemmas.Bool.{and_from, and_parts, false≢true}
use Rattle.std.proofs.lemmas.Grind.{flat_map-append}
use Rattle.icu_locale_extensions.specs.declared.identifier.LocaleIdentifier.{LocaleIdentifier}
use Rattle.icu_locale_validity.specs.Parts.{Part, code_part, id_parts, is_valid, is_valid_part, keyword_part, kind_word, lang_parts, parts_of, row_part, status_of}
use Rattle.icu_locale_validity.specs.Places.{place_of}
use Rattle.icu_locale_validity.specs.Reports.{fault_text, fault_word, faults, part_text, place_text, report_of, told}
use Rattle.icu_locale_validity.specs.inner.Lines.{fault_line, line, lines, unlisted, whole_lines}
use Rattle.icu_locale_validity.specs.declared.part.PartKind.TheVariants.{Attribute, Field, Extension}
use Rattle.icu_locale_validity.specs.declared.table.Validity.{Validity}

-- ---- texts with a mark after each, and between two

module _ {X : Type 0} (f : X → List ℕ) (s : List ℕ) where
  after : List X → List ℕ
  after xs = flat_map (λ x. f x ++ s) xs

  before : List X → List ℕ
  before xs = flat_map (λ x. s ++ f x) xs

  moved : (xs : List X) → s ++ flat_map (λ x. f x ++ s) xs ≡ flat_map (λ x. s ++ f x) xs ++ s
  moved [] = append-nil s
  moved (x ∷ xs) =
      let q = flat_map (λ y. s ++ f y) xs in
      let r = flat_map (λ y. f y ++ s) xs in
      ap (λ t. s ++ t) (append_assoc (f x) s r ∙ ap (λ t. f x ++ t) (moved xs))
      ∙ sym (append_assoc s (f x) (q ++ s)) ∙ sym (append_assoc (s ++ f x) q s)

  pub ended : (x : X) (xs : List X) → flat_map (λ y. f y ++ s) (x ∷ xs) ≡ join_by f s (x ∷ xs) ++ s
  ended x xs =
      append_assoc (f x) s (flat_map (λ y. f y ++ s) xs) ∙ ap (λ t. f x ++ t) (moved xs)
      ∙ sym (append_assoc (f x) (flat_map (λ y. s ++ f y) xs) s)

pub cut_last : (old text : List ℕ) (c : ℕ) → take (length (old ++ (text ++ c ∷ [])) - 1) (old ++ (text ++ c ∷ [])) ≡ old ++ text
cut_last old text c =
    let all : List ℕ = old ++ text in
    let long : length (all ++ c ∷ []) - 1 ≡ length all = omega (arith, length-append all (c ∷ [])) in
    ap (λ w. take (length w - 1) w) (sym (append_assoc old text (c ∷ []))) ∙ ap (λ n. take n (all ++ c ∷ [])) long ∙ take-append_seam all (c ∷ [])

-- ---- lists of which no member is told

-- those that do not pass
abbrev failing : {X : Type 0} → (X → Bool) → List X → List X
failing p xs = filter (λ x. not (p x)) xs

none_told : {X : Type 0} (p : X → Bool) (xs : List X) → list_all p xs ≡ true → filter (λ x. not (p x)) xs ≡ []
none_told p [] e = refl
none_told p (x ∷ xs) e =
    let both = and_parts (p x) (list_all p xs) e in
    let left = filter (λ y. not (p y)) xs in
    ap (λ b. cond (not b) (x ∷ left) left) both.0 ∙ none_told p xs both.1

pub all_pass : {X : Type 0} (p : X → Bool) (xs : List X) → filter (λ x. not (p x)) xs ≡ [] → list_all p xs ≡ true
all_pass p [] e = refl
all_pass {X} p (x ∷ xs) e = by (p x) refl (all_pass p xs)
  where
    by : (b : Bool) → p x ≡ b → (failing p xs ≡ [] → list_all p xs ≡ true) → list_all p (x ∷ xs) ≡ true
    by true is rest = and_from (p x) (list_all p xs) is (rest (sym (ap (λ b. cond (not b) (x ∷ failing p xs) (failing p xs)) is) ∙ e))
    by false is rest = absurd (cc (sym (ap (λ b. cond (not b) (x ∷ failing p xs) (failing p xs)) is) ∙ e))

-- ---- texts one after the other

spread : (k a p b w c l d : List ℕ) → (k ++ a) ++ (p ++ ((b ++ (w ++ c)) ++ (l ++ d))) ≡ (k ++ (a ++ (p ++ (b ++ (w ++ (c ++ l)))))) ++ d
spread k a p b w c l d =
    append_assoc k a (p ++ ((b ++ (w ++ c)) ++ (l ++ d)))
    ∙ ap (λ t. k ++ (a ++ (p ++ t))) (append_assoc b (w ++ c) (l ++ d) ∙ ap (λ t. b ++ t) (append_assoc w c (l ++ d)))
    ∙ sym (append_assoc k (a ++ (p ++ (b ++ (w ++ (c ++ l))))) d ∙ ap (λ t. k ++ t) (append_assoc a (p ++ (b ++ (w ++ (c ++ l)))) d
    ∙ ap (λ t. a ++ t) (append_assoc p (b ++ (w ++ (c ++ l))) d ∙ ap (λ t. p ++ t) (append_assoc b (w ++ (c ++ l)) d
    ∙ ap (λ t. b ++ t) (append_assoc w (c ++ l) d ∙ ap (λ t. w ++ t) (append_assoc c l d))))))

-- ---- parts

module _ (v : Validity) (t : List ℕ) where
  attributes : (behind ps : List (List ℕ)) → unlisted t (map (code_part Attribute behind) ps) ≡ lines v t (map (code_part Attribute behind) ps)
  attributes behind [] = refl
  attributes behind (p ∷ ps) = ap (λ rest. line t None (code_part Attribute behind p) ++ rest) (attributes behind ps)

  others : (behind : List (List ℕ)) (rows : List (List ℕ × List (List ℕ))) → unlisted t (map (row_part Extension behind) rows) ≡ lines v t (map (row_part Extension behind) rows)
  others behind [] = refl
  others behind (row ∷ rows) = ap (λ rest. line t None (row_part Extension behind row) ++ rest) (others behind rows)

  line_none : (part : Part) → is_valid_part v part ≡ true → line t (status_of v part) part ≡ []
  line_none part e = ap (λ b. if b then [] else fault_line t (status_of v part) part) e

  line_is : (part : Part) → is_valid_part v part ≡ false → line t (status_of v part) part ≡ fault_text v t part ++ codes "\t"
  line_is part e =
      let text = part_text part in
      ap (λ b. if b then [] else fault_line t (status_of v part) part) e
      ∙ spread (kind_word part.kind) (codes " ") text (codes " ") (fault_word (status_of v part)) (codes " ")
      (place_text (place_of t part.kind part.behind text)) (codes "\t")

  abbrev each : List Part → List ℕ
  each ps = flat_map (λ q. fault_text v t q ++ codes "\t") ps

  faulted : (parts : List Part) → lines v t parts ≡ flat_map (λ part. fault_text v t part ++ codes "\t") (faults v parts)
  faulted [] = refl
  faulted (part ∷ parts) = by (is_valid_part v part) refl (faulted parts)
    where
      same : (b : Bool) → is_valid_part v part ≡ b → each (faults v (part ∷ parts)) ≡ each (cond (not b) (part ∷ faults v parts) (faults v parts))
      same b is = ap (λ c. each (cond (not c) (part ∷ faults v parts) (faults v parts))) is

      by : (b : Bool) → is_valid_part v part ≡ b → lines v t parts ≡ each (faults v parts) → lines v t (part ∷ parts) ≡ each (faults v (part ∷ parts))
      by true is rest = ap (λ l. l ++ lines v t parts) (line_none part is) ∙ rest ∙ sym (same true is)
      by false is rest = ap (λ l. l ++ lines v t parts) (line_is part is) ∙ ap (λ r. (fault_text v t part ++ codes "\t") ++ r) rest ∙ sym (same false is)

  some_told : (parts : List Part) → list_all (is_valid_part v) parts ≡ false → lines v t parts ≡ told v t (faults v parts) ++ codes "\t"
  some_told parts e = by (faults v parts) refl
    where
      by : (fs : List Part) → faults v parts ≡ fs → lines v t parts ≡ told v t (faults v parts) ++ codes "\t"
      by [] is = absurd (false≢true (sym e ∙ all_pass (is_valid_part v) parts is))
      by (f ∷ fs) is =
          faulted parts ∙ ap (λ ps. flat_map (λ q. fault_text v t q ++ codes "\t") ps) is ∙ ended (fault_text v t) (codes "\t") f fs
          ∙ ap (λ ps. told v t ps ++ codes "\t") (sym is)

  apart : (xs ys : List Part) → lines v t xs ++ lines v t ys ≡ lines v t (xs ++ ys)
  apart xs ys = sym (flat_map-append (λ part. line t (status_of v part) part) xs ys)

  module _ (x : LocaleIdentifier) where
    abbrev us : List (List ℕ)
    us = codes "u" ∷ []

    abbrev ts : List (List ℕ)
    ts = codes "t" ∷ []

    whole : whole_lines v t x ≡ lines v t (parts_of x)
    whole =
        let a = map (code_part Attribute us) x.attributes in
        let k = map (keyword_part x.locale.id.region) x.locale.extensions.unicode.keywords in
        let l = lang_parts x.locale.extensions.transform.lang in
        let f = map (row_part Field ts) x.fields in
        let o = map (row_part Extension []) x.others in
        let n = id_parts [] x.locale.id in
        let z : List Part → List ℕ = lines v t in
        (λ i. z n ++ ((attributes us x.attributes i ++ z k) ++ ((z l ++ z f) ++ others [] x.others i)))
        ∙ ap (λ r. z n ++ r) (append_assoc (z a) (z k) ((z l ++ z f) ++ z o) ∙ ap (λ r. z a ++ (z k ++ r)) (append_assoc (z l) (z f) (z o)))
        ∙ ap (λ r. z n ++ (z a ++ (z k ++ (z l ++ r)))) (apart f o)
        ∙ ap (λ r. z n ++ (z a ++ (z k ++ r))) (apart l (f ++ o))
        ∙ ap (λ r. z n ++ (z a ++ r)) (apart k (l ++ (f ++ o)))
        ∙ ap (λ r. z n ++ r) (apart a (k ++ (l ++ (f ++ o))))
        ∙ apart n (a ++ (k ++ (l ++ (f ++ o))))

    -- a valid locale is told by one word
    pub valid_told : is_valid v x ≡ true → report_of v t x ≡ codes "valid"
    valid_told e = ap (told v t) (none_told (is_valid_part v) (parts_of x) e)

    -- of another, what is appended has a tab at its end
    pub faults_told : is_valid v x ≡ false → whole_lines v t x ≡ report_of v t x ++ codes "\t"
    faults_told e = whole ∙ some_told (parts_of x) e
