-- Keys and their names, and what orders them: what only proofs cite.
use Rattle.std.specs.Prelude.{◌≡◌, ℕ, Bool, true, nat_lt, List, Option, Some, ◌<◌, nat_eq, refl, length, get_or, [], ◌∷◌, ◌++◌, None}
use Rattle.std.specs.declared.cmp.Ordering.{Ordering}
use Rattle.std.specs.List.{list_all, position_or_len, before_first, after_first}
use Rattle.std.specs.declared.cmp.Ordering.TheVariants.{Less, Equal, Greater}
use Rattle.std.specs.Char.{is_ascii_alphabetic, is_ascii_digit, is_ascii_alphanumeric}
use Rattle.std.specs.Cmp.{nat_cmp_is}
use Rattle.std.specs.Cmp.Lexicographic.{pointwise}
use Rattle.std.specs.Ordering.{ordering_then, nat_cmp}
use Rattle.std.proofs.Common.{sym, ap, ◌∙◌, arith}
use Rattle.std.proofs.lemmas.Bool.{and_parts}
use Rattle.std.proofs.lemmas.Bool.Decides.{nat_tests}
use Rattle.std.proofs.lemmas.List.Sums.{split_at_first, passes_at_first}
use Rattle.std.proofs.lemmas.Option.{cond_some, option_and_then_some, none-some, same_Some}
use Rattle.std.proofs.lemmas.Slice.Eq.{bytes_eq-Decides}
use borrow.Author.Tests.{ltb-true}
use Rattle.icu_locale_core.specs.TextSet.{text_cmp}
use Rattle.icu_locale_core.specs.Subtag.{is_language, is_script, is_region, is_variant, is_subtag, lowercase, titlecase, uppercase, is_alphabetic}
use Rattle.icu_locale_core.specs.Subtag.{is_numeric, is_alphanumeric}
use Rattle.icu_tables.specs.Shape.{both}
use Rattle.icu_tables.specs.Subtags.{in_class, if_written, key_of, key_pair, is_dash, has_dash, cut_at_dash, read_language, read_script, read_region}
use Rattle.icu_tables.specs.Subtags.{read_variant, read_subtag}

-- values compare as their texts do
abbrev pub ComparesTexts : {A : Type 0} → (A → List ℕ) → (A → A → Ordering) → Type 0
ComparesTexts {A} written compare = (x y : A) → compare x y ≡ text_cmp (written x) (written y)

-- keys compare as the names that they are read from
abbrev pub ComparesNames : {K : Type 0} → (List ℕ → Option K) → (K → K → Ordering) → Type 0
ComparesNames {K} key compare = (s t : List ℕ) (x y : K)
    → key s ≡ Some x → key t ≡ Some y → compare x y ≡ text_cmp s t

-- each character comes after `-`, which is 45
abbrev pub is_above_dash : List ℕ → Bool
is_above_dash t = list_all (λ c. nat_lt 45 c) t

-- a text that is read has no `-`, and no character before it
abbrev pub ReadsAboveDash : {A : Type 0} → (List ℕ → Option A) → Type 0
ReadsAboveDash {A} reads = (t : List ℕ) (x : A) → reads t ≡ Some x → is_above_dash t ≡ true

-- ---- letters and digits come after `-`

above_dash : (p : ℕ → Bool) → ((c : ℕ) → p c ≡ true → nat_lt 45 c ≡ true)
    → (t : List ℕ) → list_all p t ≡ true → is_above_dash t ≡ true
above_dash p above [] h = refl
above_dash p above (c ∷ cs) h = grind (arith, nat_tests, above c, above_dash p above cs)

alphabetic : (t : List ℕ) → is_alphabetic t ≡ true → is_above_dash t ≡ true
alphabetic t h = above_dash is_ascii_alphabetic (λ c h. grind (arith, nat_tests)) t h

numeric : (t : List ℕ) → is_numeric t ≡ true → is_above_dash t ≡ true
numeric t h = above_dash is_ascii_digit (λ c h. grind (arith, nat_tests)) t h

alphanumeric : (t : List ℕ) → is_alphanumeric t ≡ true → is_above_dash t ≡ true
alphanumeric t h = above_dash is_ascii_alphanumeric (λ c h. grind (arith, nat_tests)) t h

-- what is read of a text tells the class of the text
member : (class : List ℕ → Bool) (written : List ℕ → List ℕ) (t x : List ℕ)
    → in_class class written t ≡ Some x → class t ≡ true
member class written t x read = (cond_some (class t) (written t) x read).0

pub language_above_dash : ReadsAboveDash read_language
language_above_dash t x read =
    grind (arith, nat_tests, member is_language lowercase t x read, alphabetic t)

pub script_above_dash : ReadsAboveDash read_script
script_above_dash t x read =
    grind (arith, nat_tests, member is_script titlecase t x read, alphabetic t)

pub region_above_dash : ReadsAboveDash read_region
region_above_dash t x read =
    grind (arith, nat_tests, member is_region uppercase t x read, alphabetic t, numeric t)

pub variant_above_dash : ReadsAboveDash read_variant
variant_above_dash t x read =
    grind (arith, nat_tests, member is_variant lowercase t x read, alphanumeric t)

pub subtag_above_dash : ReadsAboveDash read_subtag
subtag_above_dash t x read =
    grind (arith, nat_tests, member is_subtag lowercase t x read, alphanumeric t)

-- ---- keys of one subtag

module _ {A : Type 0} (written : A → List ℕ) (reads : List ℕ → Option A) where
  -- a key is read from its name, and its own text is the name
  pub named : (t : List ℕ) (x : A) → key_of written reads t ≡ Some x
      → (reads t ≡ Some x) × (written x ≡ t)
  named t x is = option_and_then_some (if_written written t) (reads t) x is (λ y read kept.
      let same = cond_some (pointwise nat_eq (written y) t) y x kept in
      let text = (bytes_eq-Decides (written y) t).0 same.0 in
      (read ∙ ap (λ z. Some z) same.1, ap written (sym same.1) ∙ text))

  pub key_compares : (compare : A → A → Ordering)
      → ComparesTexts written compare → ComparesNames (key_of written reads) compare
  key_compares compare by_text s t x y is_x is_y =
      let at_x : written x ≡ s = (named s x is_x).1 in
      let at_y : written y ≡ t = (named t y is_y).1 in
      by_text x y ∙ rw (at_x, at_y)

  pub key_above_dash : ReadsAboveDash reads → ReadsAboveDash (key_of written reads)
  key_above_dash above t x is = above t x (named t x is).0

-- ---- keys of two subtags

-- pairs in the order of the first and then of the second
abbrev pub both_cmp : {A B : Type 0} → (A → A → Ordering) → (B → B → Ordering)
    → A × B → A × B → Ordering
both_cmp first second x y = ordering_then (first x.0 y.0) (second x.1 y.1)

-- a text is its two parts with the `-` between them
pub cut_joins : (t : List ℕ) (cut : List ℕ × List ℕ) → cut_at_dash t ≡ Some cut
    → t ≡ cut.0 ++ 45 ∷ cut.1
cut_joins t cut is =
    let front = before_first is_dash t in
    let back = after_first is_dash t in
    let parts = cond_some (has_dash t) (front, back) cut is in
    let within : position_or_len is_dash t < length t = grind (arith, nat_tests) in
    let passes = passes_at_first is_dash t 0 within in
    let dash : get_or t (position_or_len is_dash t) 0 ≡ 45 = grind (arith, nat_tests, passes) in
    split_at_first is_dash t 0 within
    ∙ ap (λ c. front ++ c ∷ back) dash
    ∙ ap (λ pair. pair.0 ++ 45 ∷ pair.1) parts.1

then_then : (o p q : Ordering)
    → ordering_then o (ordering_then p q) ≡ ordering_then (ordering_then o p) q
then_then Less p q = refl
then_then Equal p q = refl
then_then Greater p q = refl

above_head : (x : ℕ) (a : List ℕ) → is_above_dash (x ∷ a) ≡ true → nat_lt 45 x ≡ true
above_head x a p = (and_parts (nat_lt 45 x) (is_above_dash a) p).0

above_tail : (x : ℕ) (a : List ℕ) → is_above_dash (x ∷ a) ≡ true → is_above_dash a ≡ true
above_tail x a p = (and_parts (nat_lt 45 x) (is_above_dash a) p).1

-- texts joined by `-` are in the order of the first parts, and then of the second
joined : (a b c d : List ℕ) → is_above_dash a ≡ true → is_above_dash c ≡ true
    → ordering_then (text_cmp a c) (text_cmp b d) ≡ text_cmp (a ++ 45 ∷ b) (c ++ 45 ∷ d)
joined [] b [] d p q = refl
joined [] b (y ∷ c) d p q = rw (above_head y c q)
joined (x ∷ a) b [] d p q =
    let above = above_head x a p in
    let order = nat_cmp_is x 45 Greater (omega (arith, ltb-true 45 x)) in
    rw (← order)
joined (x ∷ a) b (y ∷ c) d p q =
    let rest = joined a b c d (above_tail x a p) (above_tail y c q) in
    sym (then_then (nat_cmp x y) (text_cmp a c) (text_cmp b d))
    ∙ ap (ordering_then (nat_cmp x y)) rest

-- two readings of which both are there
pub both_there : {A B : Type 0} (first : Option A) (second : Option B) (x : A × B)
    → both first second ≡ Some x → (first ≡ Some x.0) × (second ≡ Some x.1)
both_there None second x is = absurd (none-some x is)
both_there (Some a) None x is = absurd (none-some x is)
both_there (Some a) (Some b) x is =
    let same = same_Some (a, b) x is in
    (ap (λ p. Some p.0) same, ap (λ p. Some p.1) same)

module _ {A B : Type 0} (first : List ℕ → Option A) (second : List ℕ → Option B) where
  -- the name of a key of two subtags, and the names of both
  pub record Names (t : List ℕ) (x : A × B) : Type 0 where
    pub cut : List ℕ × List ℕ
    pub joins : t ≡ cut.0 ++ 45 ∷ cut.1
    pub first_is : first cut.0 ≡ Some x.0
    pub second_is : second cut.1 ≡ Some x.1

  pub names : (t : List ℕ) (x : A × B) → key_pair first second t ≡ Some x → Names t x
  names t x is = option_and_then_some _ (cut_at_dash t) x is (λ cut cuts there.
      let parts = both_there (first cut.0) (second cut.1) x there in
      record {
        cut = cut;
        joins = cut_joins t cut cuts;
        first_is = parts.0;
        second_is = parts.1;
      })

  pub pair_compares : {compare_first : A → A → Ordering} {compare_second : B → B → Ordering}
      → ComparesNames first compare_first
      → ComparesNames second compare_second
      → ReadsAboveDash first
      → ComparesNames (key_pair first second) (both_cmp compare_first compare_second)
  pair_compares by_first by_second above s t x y is_x is_y =
      let a = names s x is_x in
      let b = names t y is_y in
      let above_a = above _ _ a.first_is in
      let above_b = above _ _ b.first_is in
      let order = joined a.cut.0 a.cut.1 b.cut.0 b.cut.1 above_a above_b in
      let firsts = by_first _ _ _ _ a.first_is b.first_is in
      let seconds = by_second _ _ _ _ a.second_is b.second_is in
      (λ i. ordering_then (firsts i) (seconds i))
      ∙ order
      ∙ (λ i. text_cmp (sym a.joins i) (sym b.joins i))
