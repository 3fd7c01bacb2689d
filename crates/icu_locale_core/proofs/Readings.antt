-- Reading from the left finds exactly what a text spells.
use Rattle.std.proofs.Common.{◌≡◌, ℕ, ◌==◌, Bool, true, false, ◌&&◌, ◌||◌, List, [], ◌∷◌, ◌++◌, length, map, Option, Some, None, Result, Ok, Err}
use Rattle.std.proofs.Common.{IfOk, IfSome, MatchOption, ◌⊎◌, inl, inr, if◌then◌else◌, refl, ap, sym, subst, ◌∙◌}
use denote.Ref.{Bor}
use Rattle.std.specs.Option.{option_to_list}
use Rattle.std.specs.List.{list_all, list_any, Contains, All}
use Rattle.std.proofs.lemmas.Bool.{false≢true, eqb-true, eq-eqb, and_parts, or_right}
use Rattle.std.proofs.lemmas.List.{length-map}
use Rattle.std.proofs.lemmas.List.Elements.{All-nil, All-cons, All-tail, All-head, All-contains, All-contains_itself, All-weaker}
use Rattle.icu_locale_core.specs.Subtag.{is_language, is_script, is_region, is_variant, lowercase, titlecase, uppercase, IsWritten, IsScript}
use Rattle.icu_locale_core.specs.Subtag.{IsRegion, IsVariant}
use Rattle.icu_locale_core.specs.inner.Class.{is_member, written_case}
use Rattle.icu_locale_core.specs.declared.classes.Class.{Class}
use Rattle.icu_locale_core.specs.declared.classes.Class.TheVariants.{Language, Script, Region, Variant}
use Rattle.icu_locale_core.specs.declared.langid.LanguageIdentifier.{LanguageIdentifier}
use Rattle.icu_locale_core.specs.declared.parse_error.ParseError.{ParseError}
use Rattle.icu_locale_core.specs.declared.parse_error.ParseError.TheVariants.{InvalidLanguage, InvalidSubtag, Memory}
use Rattle.icu_locale_core.specs.TextSet.{TextSet, from_list, contains, len, empty}
use Rattle.icu_locale_core.specs.Identifier.{IsIdentifier, Lists, subtags, pieces, Spells, IsOkUnlessMemory}
use Rattle.icu_locale_core.specs.Cuts.{optional_subtag, after_optional_subtag}
use Rattle.icu_locale_core.specs.Readings.{are_variants, read_variants, with_variants, read_rest, read_pieces}
use Rattle.icu_locale_core.proofs.Cases.{is_member-lowercase, written_case-lowercase, lowercase-written_case, written_written, region_no_script}
use Rattle.icu_locale_core.proofs.Cases.{variant_no_script, variant_no_region}
use Rattle.icu_locale_core.specs.laws.TextSets.{contains-from_list, Contains-is_among, is_among-Contains, length-rising_empty}

-- the pieces ps are the subtags of x, case aside, with the variants in some order
pub record Reads (ps : List (List ℕ)) (x : LanguageIdentifier) : Type 0 where
  pub order : List (List ℕ)
  pub lists : Lists order x.variants
  pub same : map lowercase ps ≡ map lowercase (subtags x order)

head_same : (a b : List ℕ) (xs ys : List (List ℕ)) → a ∷ xs ≡ b ∷ ys → a ≡ b
head_same a b xs ys e = cc

tail_same : (a b : List ℕ) (xs ys : List (List ℕ)) → a ∷ xs ≡ b ∷ ys → xs ≡ ys
tail_same a b xs ys e = cc

map-append_lower : (xs ys : List (List ℕ)) → map lowercase (xs ++ ys) ≡ map lowercase xs ++ map lowercase ys
map-append_lower [] ys = refl
map-append_lower (x ∷ xs) ys = ap (λ r. lowercase x ∷ r) (map-append_lower xs ys)

-- ---- one piece that may be there

module _ (class : Class) where
  -- a piece that is a subtag of the class, case aside, belongs to it
  is_member-same : (p s : List ℕ) → lowercase p ≡ lowercase s → is_member class p ≡ is_member class s
  is_member-same p s e = sym (is_member-lowercase class p) ∙ ap (is_member class) e ∙ is_member-lowercase class s

  -- and is written as that subtag
  written_case-same : (p s : List ℕ) → lowercase p ≡ lowercase s → IsWritten (is_member class) (written_case class) s → written_case class p ≡ s
  written_case-same p s e is = sym (written_case-lowercase class p) ∙ ap (written_case class) e ∙ written_case-lowercase class s ∙ is.written

  -- the first piece is none of the class
  abbrev NoneFirst : List (List ℕ) → Type 0
  NoneFirst ps = (p : List ℕ) (rest : List (List ℕ)) → ps ≡ p ∷ rest → is_member class p ≡ false

  optional-none : (ps : List (List ℕ)) → NoneFirst ps → optional_subtag (is_member class) (written_case class) ps ≡ None
  optional-none [] none = refl
  optional-none (p ∷ ps) none = rw (none p ps refl) refl

  after_optional-none : (ps : List (List ℕ)) → NoneFirst ps → after_optional_subtag (is_member class) ps ≡ ps
  after_optional-none [] none = refl
  after_optional-none (p ∷ ps) none = rw (none p ps refl) refl

  optional-some : (p s : List ℕ) (ps : List (List ℕ)) → lowercase p ≡ lowercase s → IsWritten (is_member class) (written_case class) s
      → optional_subtag (is_member class) (written_case class) (p ∷ ps) ≡ Some s
  optional-some p s ps e is = rw (is_member-same p s e ∙ is.member) (ap Some (written_case-same p s e is))

  after_optional-some : (p s : List ℕ) (ps : List (List ℕ)) → lowercase p ≡ lowercase s → IsWritten (is_member class) (written_case class) s
      → after_optional_subtag (is_member class) (p ∷ ps) ≡ ps
  after_optional-some p s ps e is = rw (is_member-same p s e ∙ is.member) refl

  -- what is taken and what is left are the pieces, case aside
  optional-rest : (ps : List (List ℕ)) → map lowercase ps ≡ map lowercase (option_to_list
      (optional_subtag (is_member class) (written_case class) ps) ++ after_optional_subtag (is_member class) ps)
  optional-rest [] = refl
  optional-rest (p ∷ ps) =
      elim (is_member class p) as (λ b. map lowercase (p ∷ ps) ≡ map lowercase
      (option_to_list (if b then Some (written_case class p) else None) ++ (if b then ps else p ∷ ps))) [
        | true ↦ λ i. sym (lowercase-written_case class p) i ∷ map lowercase ps
        | false ↦ refl
      ]

  -- what is taken belongs to the class and is in its written case
  optional-written : (ps : List (List ℕ)) → IfSome (optional_subtag (is_member class) (written_case class) ps)
      (IsWritten (is_member class) (written_case class))
  optional-written [] = tt
  optional-written (p ∷ ps) =
      elim (is_member class p) as (λ b. is_member class p ≡ b → IfSome (if b then Some (written_case class p) else None)
      (IsWritten (is_member class) (written_case class))) [
        | true ↦ λ e. written_written class p e
        | false ↦ λ e. tt
      ] refl

-- ---- variants

-- texts in lower case stay
lowercase_each : (ts : List (List ℕ)) → All IsVariant ts → map lowercase ts ≡ ts
lowercase_each [] each = refl
lowercase_each (t ∷ ts) each = λ i. (All-head IsVariant t ts each).written i ∷ lowercase_each ts (All-tail IsVariant t ts each) i

all_variants-lowercase : (ps : List (List ℕ)) → list_all is_variant (map lowercase ps) ≡ list_all is_variant ps
all_variants-lowercase [] = refl
all_variants-lowercase (p ∷ ps) = λ i. is_member-lowercase Variant p i && all_variants-lowercase ps i

all_variants-written : (ts : List (List ℕ)) → All IsVariant ts → list_all is_variant ts ≡ true
all_variants-written [] each = refl
all_variants-written (t ∷ ts) each = λ i. (All-head IsVariant t ts each).member i && all_variants-written ts (All-tail IsVariant t ts each) i

written_variants : (ps : List (List ℕ)) → list_all is_variant ps ≡ true → All IsVariant (map lowercase ps)
written_variants [] h = All-nil IsVariant
written_variants (p ∷ ps) h = All-cons IsVariant (lowercase p) (map lowercase ps)
    (written_written Variant p ((and_parts (is_variant p) (list_all is_variant ps) h).0))
    (written_variants ps ((and_parts (is_variant p) (list_all is_variant ps) h).1))

-- a list of each variant once has variants alone
each_of_lists : (order : List (List ℕ)) (s : TextSet) → Lists order s → ((v : List ℕ) → contains s v ≡ true → IsVariant v) → All IsVariant order
each_of_lists order s lists each =
    All-weaker (Contains order) IsVariant (λ v here. each v (ap (λ u. contains u v) (sym lists.members) ∙ contains-from_list order v
    ∙ is_among-Contains v order here)) order (All-contains_itself order)

-- no pieces are no variants
pub no_pieces : read_variants [] ≡ Ok empty
no_pieces = rw length-rising_empty refl

-- pieces that are such a list, case aside, are read as the set
read_variants-lists : (ps order : List (List ℕ)) (s : TextSet) → Lists order s → All IsVariant order
    → map lowercase ps ≡ map lowercase order → read_variants ps ≡ Ok s
read_variants-lists ps order s lists each same =
    let lower : map lowercase ps ≡ order = same ∙ lowercase_each order each in
    let all : list_all is_variant ps ≡ true = sym (all_variants-lowercase ps) ∙ ap (list_all is_variant) lower ∙ all_variants-written order each in
    let set : from_list (map lowercase ps) ≡ s = ap from_list lower ∙ lists.members in
    let long : length ps ≡ len s = sym (length-map ps lowercase) ∙ ap length lower ∙ lists.once in
    let once : (len (from_list (map lowercase ps)) == length ps) ≡ true = eq-eqb (len (from_list (map lowercase ps))) (length ps) (ap len set ∙ sym long) in
    let are : are_variants ps ≡ true = λ i. all i && once i in
    rw are (ap Ok set)

-- ---- whole identifiers

module _ (x : LanguageIdentifier) (is : IsIdentifier x) (order : List (List ℕ)) (lists : Lists order x.variants) where
  each : All IsVariant order
  each = each_of_lists order x.variants lists is.variants

  -- the first of the variants that are left is no script and no region
  no_script_in_order : (ps : List (List ℕ)) → map lowercase ps ≡ map lowercase order → NoneFirst Script ps
  no_script_in_order ps same p rest is_first = by order each (sym same ∙ ap (map lowercase) is_first)
    where
      by : (vs : List (List ℕ)) → All IsVariant vs → map lowercase vs ≡ map lowercase (p ∷ rest) → is_script p ≡ false
      by [] all e = absurd (cc)
      by (v ∷ vs) all e = variant_no_script p (is_member-same Variant p v (sym
          (head_same (lowercase v) (lowercase p) (map lowercase vs) (map lowercase rest) e)) ∙ (All-head IsVariant v vs all).member)

  no_region_in_order : (ps : List (List ℕ)) → map lowercase ps ≡ map lowercase order → NoneFirst Region ps
  no_region_in_order ps same p rest is_first = by order each (sym same ∙ ap (map lowercase) is_first)
    where
      by : (vs : List (List ℕ)) → All IsVariant vs → map lowercase vs ≡ map lowercase (p ∷ rest) → is_region p ≡ false
      by [] all e = absurd (cc)
      by (v ∷ vs) all e = variant_no_region p (is_member-same Variant p v (sym
          (head_same (lowercase v) (lowercase p) (map lowercase vs) (map lowercase rest) e)) ∙ (All-head IsVariant v vs all).member)

  -- what follows the script
  record AfterScript (ps : List (List ℕ)) (r : Option (List ℕ)) : Type 0 where
    region : optional_subtag is_region uppercase ps ≡ r
    variants : read_variants (after_optional_subtag is_region ps) ≡ Ok x.variants

  after_script : (r : Option (List ℕ)) → IfSome r IsRegion → (ps : List (List ℕ))
      → map lowercase ps ≡ map lowercase (option_to_list r ++ order) → AfterScript ps r
  after_script None known ps same =
      let none = no_region_in_order ps same in
      record {
        region = optional-none Region ps none;
        variants = ap read_variants (after_optional-none Region ps none) ∙ read_variants-lists ps order x.variants lists each same;
      }
  after_script (Some r) known [] same = absurd (cc)
  after_script (Some r) known (p ∷ ps) same =
      let here = head_same (lowercase p) (lowercase r) (map lowercase ps) (map lowercase order) same in
      let behind = tail_same (lowercase p) (lowercase r) (map lowercase ps) (map lowercase order) same in
      record {
        region = optional-some Region p r ps here known;
        variants = ap read_variants (after_optional-some Region p r ps here known) ∙ read_variants-lists ps order x.variants lists each behind;
      }

  -- what follows the language
  record AfterLanguage (ps : List (List ℕ)) (s r : Option (List ℕ)) : Type 0 where
    script : optional_subtag is_script titlecase ps ≡ s
    rest : AfterScript (after_optional_subtag is_script ps) r

  no_script_behind : (r : Option (List ℕ)) → IfSome r IsRegion → (ps : List (List ℕ))
      → map lowercase ps ≡ map lowercase (option_to_list r ++ order) → NoneFirst Script ps
  no_script_behind None known ps same p rest is_first = no_script_in_order ps same p rest is_first
  no_script_behind (Some r) known ps same p rest is_first =
      let e : lowercase p ≡ lowercase r = head_same (lowercase p) (lowercase r) (map lowercase rest) (map lowercase order)
      (sym (ap (map lowercase) is_first) ∙ same) in
      region_no_script p (is_member-same Region p r e ∙ known.member)

  after_language : (s r : Option (List ℕ)) → IfSome s IsScript → IfSome r IsRegion → (ps : List (List ℕ))
      → map lowercase ps ≡ map lowercase (option_to_list s ++ (option_to_list r ++ order)) → AfterLanguage ps s r
  after_language None r known_s known_r ps same =
      let none = no_script_behind r known_r ps same in
      record {
        script = optional-none Script ps none;
        rest = subst (λ qs. AfterScript qs r) (sym (after_optional-none Script ps none)) (after_script r known_r ps same);
      }
  after_language (Some s) r known_s known_r [] same = absurd (cc)
  after_language (Some s) r known_s known_r (p ∷ ps) same =
      let here = head_same (lowercase p) (lowercase s) (map lowercase ps) (map lowercase (option_to_list r ++ order)) same in
      let behind = tail_same (lowercase p) (lowercase s) (map lowercase ps) (map lowercase (option_to_list r ++ order)) same in
      record {
        script = optional-some Script p s ps here known_s;
        rest = subst (λ qs. AfterScript qs r) (sym (after_optional-some Script p s ps here known_s)) (after_script r known_r ps behind);
      }

  -- pieces that are the subtags of x are read as x
  pub read_pieces-complete : (ps : List (List ℕ)) → map lowercase ps ≡ map lowercase (subtags x order) → read_pieces ps ≡ Ok x
  read_pieces-complete [] same = absurd (cc)
  read_pieces-complete (p ∷ ps) same =
      let rest = option_to_list x.script ++ (option_to_list x.region ++ order) in
      let here = head_same (lowercase p) (lowercase x.language) (map lowercase ps) (map lowercase rest) same in
      let behind = tail_same (lowercase p) (lowercase x.language) (map lowercase ps) (map lowercase rest) same in
      let language : lowercase p ≡ x.language = here ∙ is.language.written in
      let after = after_language x.script x.region is.script is.region ps behind in
      rw (is_member-same Language p x.language here ∙ is.language.member)
      ((λ i. with_variants (language i) (after.script i) (after.rest.region i) (after.rest.variants i)))

-- ---- what is read is spelled

-- the identifier that is read of a language, what may follow it, and variants
module _ (l : List ℕ) (ps : List (List ℕ)) (known : is_language l ≡ true) where
  after_script_of : List (List ℕ)
  after_script_of = after_optional_subtag is_script ps

  behind : List (List ℕ)
  behind = after_optional_subtag is_region after_script_of

  variants_of : TextSet
  variants_of = from_list (map lowercase behind)

  found_of : LanguageIdentifier
  found_of = record {
    language = lowercase l;
    script = optional_subtag is_script titlecase ps;
    region = optional_subtag is_region uppercase after_script_of;
    variants = variants_of;
  }

  -- the pieces are its subtags
  all_same : map lowercase (l ∷ ps) ≡ map lowercase (subtags found_of (map lowercase behind))
  unfolding found_of after_script_of behind variants_of
  all_same =
      let s = optional_subtag is_script titlecase ps in
      let r = optional_subtag is_region uppercase (after_optional_subtag is_script ps) in
      let rest = after_optional_subtag is_region (after_optional_subtag is_script ps) in
      let first : map lowercase ps ≡ map lowercase (option_to_list s) ++ map lowercase
      (after_optional_subtag is_script ps) = optional-rest Script ps ∙ map-append_lower (option_to_list s) (after_optional_subtag is_script ps) in
      let second : map lowercase (after_optional_subtag is_script ps) ≡ map lowercase (option_to_list r)
      ++ map lowercase rest = optional-rest Region (after_optional_subtag is_script ps) ∙ map-append_lower (option_to_list r) rest in
      let last : map lowercase rest ≡ map lowercase (map lowercase rest) = sym (lower_twice rest) in
      let joined : map lowercase ps ≡ map lowercase (option_to_list s ++ (option_to_list r ++ map lowercase rest)) =
      first
      ∙ ap (λ q. map lowercase (option_to_list s) ++ q) (second ∙ ap (λ q. map lowercase (option_to_list r) ++ q) last
      ∙ sym (map-append_lower (option_to_list r) (map lowercase rest)))
      ∙ sym (map-append_lower (option_to_list s) (option_to_list r ++ map lowercase rest)) in
      λ i. sym (lowercase-written_case Language l) i ∷ joined i
    where
      lower_twice : (ts : List (List ℕ)) → map lowercase (map lowercase ts) ≡ map lowercase ts
      lower_twice [] = refl
      lower_twice (t ∷ ts) = λ i. lowercase-written_case Language t i ∷ lower_twice ts i

  -- where the variants are variants, each once
  found_reads : are_variants behind ≡ true → IsIdentifier found_of × Reads (l ∷ ps) found_of
  unfolding found_of variants_of
  found_reads are =
      let all = (and_parts (list_all is_variant behind) (len (from_list (map lowercase behind)) == length behind) are).0 in
      let once = (and_parts (list_all is_variant behind) (len (from_list (map lowercase behind)) == length behind) are).1 in
      let each = written_variants behind all in (
        record {
          language = written_written Language l known;
          script = optional-written Script ps;
          region = optional-written Region after_script_of;
          variants = λ v here. All-contains IsVariant (map lowercase behind) v each
              (Contains-is_among v (map lowercase behind) (sym (contains-from_list (map lowercase behind) v) ∙ here));
        },
        record {
          order = map lowercase behind;
          lists = record { members = refl; once = length-map behind lowercase ∙ sym (eqb-true (len (from_list (map lowercase behind))) (length behind) once) };
          same = all_same;
        },
      )

  rest_sound : IfOk (read_rest (lowercase l) ps) (λ x. IsIdentifier x × Reads (l ∷ ps) x)
  unfolding found_of variants_of after_script_of behind
  rest_sound =
      elim (are_variants behind) as (λ b. are_variants behind ≡ b → IfOk (with_variants (lowercase l)
      (optional_subtag is_script titlecase ps) (optional_subtag is_region uppercase after_script_of)
      (if b then Ok (from_list (map lowercase behind)) else Err InvalidSubtag)) (λ x. IsIdentifier x × Reads (l ∷ ps) x)) [
        | true ↦ λ are. found_reads are
        | false ↦ λ are. tt
      ] refl

pub read_pieces-sound : (ps : List (List ℕ)) → IfOk (read_pieces ps) (λ x. IsIdentifier x × Reads ps x)
read_pieces-sound [] = tt
read_pieces-sound (p ∷ ps) =
    elim (is_language p) as (λ b. is_language p ≡ b → IfOk (if b then read_rest (lowercase p) ps else Err InvalidLanguage)
    (λ x. IsIdentifier x × Reads (p ∷ ps) x)) [
      | true ↦ λ e. rest_sound p ps e
      | false ↦ λ e. tt
    ] refl

-- ---- the refusals

-- a variant after an optional_subtag piece is a variant of all pieces
pub some_variant-after : (is_member : List ℕ → Bool) (ps : List (List ℕ)) → list_any is_variant (after_optional_subtag is_member ps) ≡ true
    → list_any is_variant ps ≡ true
some_variant-after is_member [] h = h
some_variant-after is_member (p ∷ ps) h =
    elim (is_member p) as (λ b. list_any is_variant (if b then ps else p ∷ ps) ≡ true → (is_variant p || list_any is_variant ps) ≡ true)
    [ true ↦ or_right (is_variant p) (list_any is_variant ps) | false ↦ λ g. g ] h

-- and so is one after the first piece
pub some_variant-next : (r : Option (Bor (List ℕ))) (ps rest : List (List ℕ))
    → MatchOption r ((ps ≡ []) × (rest ≡ [])) (λ p. ps ≡ p.now ∷ rest) → list_any is_variant rest ≡ true → list_any is_variant ps ≡ true
some_variant-next None ps rest gave h = absurd (false≢true (ap (list_any is_variant) (sym gave.1) ∙ h))
some_variant-next (Some p) ps rest gave h = ap (list_any is_variant) gave ∙ or_right (is_variant p.now) (list_any is_variant rest) h

-- what reading answers where memory is not refused, in the words of texts
module _ (t : List ℕ) (r : Result LanguageIdentifier ParseError) (read : (r ≡ Err Memory) ⊎ (r ≡ read_pieces (pieces t))) where
  pub found_from_read : IfOk r (λ x. IsIdentifier x × Spells t x)
  found_from_read = elim read [
    | inl e ↦ rw e tt
    | inr e ↦ rw e (spells (read_pieces (pieces t)) (read_pieces-sound (pieces t)))
  ]
    where
      spells : (q : Result LanguageIdentifier ParseError) → IfOk q (λ x. IsIdentifier x × Reads (pieces t) x) → IfOk q (λ x. IsIdentifier x × Spells t x)
      spells (Ok x) h = (h.0, record { order = h.1.order; lists = h.1.lists; same = h.1.same })
      spells (Err e) h = tt

  pub only_from_read : (x : LanguageIdentifier) → IsIdentifier x → Spells t x → IsOkUnlessMemory r x
  only_from_read x is spells = elim read [
    | inl e ↦ inr e
    | inr e ↦ inl (e ∙ read_pieces-complete x is spells.order spells.lists (pieces t) spells.same)
  ]

  pub subtag_from_read : r ≡ Err InvalidSubtag → (x : LanguageIdentifier) → IsIdentifier x → ¬ (Spells t x)
  subtag_from_read refused x is spells = elim (only_from_read x is spells) [ inl e ↦ absurd (cc) | inr e ↦ absurd (cc) ]
