-- A transformed language, taken from the left up to a piece that is none of it.
use Rattle.std.specs.Prelude.{◌≡◌, Option, ℕ, Bool, true, false, not, ◌||◌, ◌&&◌, ◌==◌, List, [], ◌∷◌, length, map, Some, None, Result, Ok, Err, IfOk, slice_index_or, if◌then◌else◌}
use Rattle.std.proofs.Common.{refl, ap, sym, ◌∙◌, arith}
use Rattle.std.specs.List.{list_all}
use Rattle.std.proofs.lemmas.Bool.{false≢true}
use Rattle.std.proofs.lemmas.Bool.Decides.{nat_tests}
use Rattle.icu_locale_core.specs.Readings.{are_variants, read_variants, with_variants, read_rest, read_pieces, read_after, read_front, after_head, after_front}
use Rattle.icu_locale_core.specs.Subtag.{is_language, is_script, is_region, is_variant, lowercase, titlecase, uppercase}
use Rattle.icu_locale_core.specs.TextSet.{from_list, len}
use Rattle.icu_locale_core.specs.declared.langid.LanguageIdentifier.{LanguageIdentifier}
use Rattle.icu_locale_core.specs.declared.parse_error.ParseError.{ParseError}
use Rattle.icu_locale_core.specs.declared.parse_error.ParseError.TheVariants.{InvalidLanguage, InvalidSubtag}
use Rattle.icu_locale_core.specs.Cuts.{front, from, other_than, optional_subtag, after_optional_subtag}
use Rattle.icu_locale_extensions.specs.Extensions.{is_singleton, is_tkey}
use Rattle.icu_locale_extensions.specs.declared.identifier.LocaleIdentifier.{LocaleIdentifier}
use Rattle.icu_locale_extensions.specs.laws.Reader.{first_is, belongs, begins, added, marked, with_read, and_then, read_on}
use Rattle.icu_locale_extensions.specs.Built.{with_language}
use Rattle.icu_locale_extensions.specs.laws.Reader.Part.{fields, language}
use Rattle.icu_locale_extensions.proofs.Steps.{taken}

abbrev pub begins_at_mark : (List ℕ → Bool) → List (List ℕ) → Bool
begins_at_mark is_mark [] = true
begins_at_mark is_mark (p ∷ ps) = is_mark p

abbrev pub ends_language : List ℕ → Bool
ends_language p = is_tkey p || is_singleton p

-- what is taken ends at a cut exactly where each piece before the cut is of the class
module _ (s own : List ℕ → Bool) (apart : (p : List ℕ) → s p ≡ true → own p ≡ false) where
  each-cut : (ps : List (List ℕ)) → begins_at_mark s (from (other_than own) ps) ≡ list_all own (front s ps)
  each-cut [] = refl
  each-cut (p ∷ ps) = by (each-cut ps) (s p) (own p) refl refl
    where
      by : begins_at_mark s (from (other_than own) ps) ≡ list_all own (front s ps) → (x y : Bool) → s p ≡ x → own p ≡ y → begins_at_mark s (from (other_than own) (p ∷ ps)) ≡ list_all own (front s (p ∷ ps))
      by ih true true e f = absurd (false≢true (sym (apart p e) ∙ f))
      by ih true false e f = rw (e, f) e
      by ih false true e f = rw (e, f) ih
      by ih false false e f = rw (e, f) e

  front-cut : (ps : List (List ℕ)) → list_all own (front s ps) ≡ true → front (other_than own) ps ≡ front s ps
  front-cut [] all = refl
  front-cut (p ∷ ps) all = by (front-cut ps) (s p) (own p) refl refl all
    where
      by : (list_all own (front s ps) ≡ true → front (other_than own) ps ≡ front s ps) → (x y : Bool) → s p ≡ x → own p ≡ y → list_all own (front s (p ∷ ps)) ≡ true → front (other_than own) (p ∷ ps) ≡ front s (p ∷ ps)
      by ih true true e f each = absurd (false≢true (sym (apart p e) ∙ f))
      by ih true false e f each = rw (e, f) refl
      by ih false true e f each = rw (e, f) (ap (λ qs. p ∷ qs) (ih (rw (e, f) at each)))
      by ih false false e f each = absurd (false≢true (rw (e, f) at each))

  from-cut : (ps : List (List ℕ)) → list_all own (front s ps) ≡ true → from (other_than own) ps ≡ from s ps
  from-cut [] all = refl
  from-cut (p ∷ ps) all = by (from-cut ps) (s p) (own p) refl refl all
    where
      by : (list_all own (front s ps) ≡ true → from (other_than own) ps ≡ from s ps) → (x y : Bool) → s p ≡ x → own p ≡ y → list_all own (front s (p ∷ ps)) ≡ true → from (other_than own) (p ∷ ps) ≡ from s (p ∷ ps)
      by ih true true e f each = absurd (false≢true (sym (apart p e) ∙ f))
      by ih true false e f each = rw (e, f) refl
      by ih false true e f each = rw (e, f) (ih (rw (e, f) at each))
      by ih false false e f each = absurd (false≢true (rw (e, f) at each))

-- a piece that ends an identifier is none of its subtags
pub record EndsIdentifiers (ends : List ℕ → Bool) : Type 0 where
  pub language : (p : List ℕ) → is_language p ≡ true → ends p ≡ false
  pub script : (p : List ℕ) → is_script p ≡ true → ends p ≡ false
  pub region : (p : List ℕ) → is_region p ≡ true → ends p ≡ false
  pub variant : (p : List ℕ) → ends p ≡ true → is_variant p ≡ false

-- pieces are refused for their first, or for another
abbrev refused : Bool → Result LanguageIdentifier ParseError
refused is = if is then Err InvalidSubtag else Err InvalidLanguage

-- what refuses variants refuses a piece
pub variants_fault : (l : List ℕ) (s r : Option (List ℕ)) (vs : List (List ℕ)) (f : ParseError) → with_variants l s r (read_variants vs) ≡ Err f → f ≡ InvalidSubtag
variants_fault l s r vs f is = by (are_variants vs) is
  where
    by : (h : Bool) → with_variants l s r (if h then Ok (from_list (map lowercase vs)) else Err InvalidSubtag) ≡ Err f → f ≡ InvalidSubtag
    by true e = absurd (cc e)
    by false e = sym (cc e)

-- what is read begins with a language
read_language : (ps : List (List ℕ)) (x : LanguageIdentifier) → read_front ps ≡ Ok x → is_language (slice_index_or ps 0 []) ≡ true
read_language [] x is = absurd (cc is)
read_language (p ∷ ps) x is = by (is_language p) is
  where
    by : (l : Bool) → (if l then read_after (lowercase p) ps else Err InvalidLanguage) ≡ Ok x → l ≡ true
    by true e = refl
    by false e = absurd (cc e)

read_fault : (ps : List (List ℕ)) (f : ParseError) → read_front ps ≡ Err f → refused (is_language (slice_index_or ps 0 [])) ≡ Err f
read_fault [] f is = is
read_fault (p ∷ ps) f is = by (is_language p) is
  where
    by : (l : Bool) → (if l then read_after (lowercase p) ps else Err InvalidLanguage) ≡ Err f → refused l ≡ Err f
    by true e =
        let script = optional_subtag is_script titlecase ps in
        let region = optional_subtag is_region uppercase (after_optional_subtag is_script ps) in
        ap Err (sym (variants_fault (lowercase p) script region (front (other_than is_variant) (after_head ps)) f e))
    by false e = e

module _ (ends : List ℕ → Bool) (apart : EndsIdentifiers ends) where
  module _ (c : List ℕ → Bool) (c_apart : (p : List ℕ) → c p ≡ true → ends p ≡ false) where
    opt : (w : List ℕ → List ℕ) (qs : List (List ℕ)) → optional_subtag c w (front ends qs) ≡ optional_subtag c w qs
    opt w [] = refl
    opt w (q ∷ qs) = by (ends q) refl (c q) refl
      where
        by : (h : Bool) → ends q ≡ h → (k : Bool) → c q ≡ k → optional_subtag c w (if h then [] else q ∷ front ends qs) ≡ (if k then Some (w q) else None)
        by true e true f = absurd (false≢true (sym (c_apart q f) ∙ e))
        by true e false f = refl
        by false e k f = ap (λ h. if h then Some (w q) else None) f

    aft : (qs : List (List ℕ)) → after_optional_subtag c (front ends qs) ≡ front ends (after_optional_subtag c qs)
    aft [] = refl
    aft (q ∷ qs) = by (ends q) refl (c q) refl
      where
        by : (h : Bool) → ends q ≡ h → (k : Bool) → c q ≡ k
            → after_optional_subtag c (if h then [] else q ∷ front ends qs) ≡ front ends (if k then qs else q ∷ qs)
        by true e true f = absurd (false≢true (sym (c_apart q f) ∙ e))
        by true e false f = ap (λ h. if h then [] else q ∷ front ends qs) (sym e)
        by false e true f = ap (λ h. if h then front ends qs else q ∷ front ends qs) f
        by false e false f = ap (λ h. if h then front ends qs else q ∷ front ends qs) f ∙ ap (λ h. if h then [] else q ∷ front ends qs) (sym e)

    aft_from : (qs : List (List ℕ)) → from ends qs ≡ from ends (after_optional_subtag c qs)
    aft_from [] = refl
    aft_from (q ∷ qs) = by (c q) refl
      where
        by : (k : Bool) → c q ≡ k → from ends (q ∷ qs) ≡ from ends (if k then qs else q ∷ qs)
        by true f = ap (λ h. if h then q ∷ qs else from ends qs) (c_apart q f)
        by false f = refl

  head_front : (qs : List (List ℕ)) → after_head (front ends qs) ≡ front ends (after_head qs)
  head_front qs = ap (after_optional_subtag is_region) (aft is_script apart.script qs) ∙ aft is_region apart.region (after_optional_subtag is_script qs)

  head_from : (qs : List (List ℕ)) → from ends qs ≡ from ends (after_head qs)
  head_from qs = aft_from is_script apart.script qs ∙ aft_from is_region apart.region (after_optional_subtag is_script qs)

  rest_front : (l : List ℕ) (qs : List (List ℕ)) → read_rest l (front ends qs)
      ≡ with_variants l (optional_subtag is_script titlecase qs) (optional_subtag is_region uppercase (after_optional_subtag is_script qs))
      (read_variants (front ends (after_head qs)))
  rest_front l qs = λ i. with_variants l (opt is_script apart.script titlecase qs i)
      ((ap (optional_subtag is_region uppercase) (aft is_script apart.script qs) ∙ opt is_region apart.region uppercase (after_optional_subtag is_script qs)) i)
      (read_variants (head_front qs i))

  -- what is left begins where it ends
  front_rest : (ps : List (List ℕ)) → begins_at_mark ends ps ≡ false → begins_at_mark ends (after_front ps) ≡ true
      → after_front ps ≡ from ends ps
  front_rest [] some stop = refl
  front_rest (p ∷ qs) some stop =
      from-cut ends is_variant apart.variant (after_head qs) (sym (each-cut ends is_variant apart.variant (after_head qs)) ∙ stop)
      ∙ sym (head_from qs) ∙ ap (λ h. if h then p ∷ qs else from ends qs) (sym some)

  at_end : (p : List ℕ) (qs : List (List ℕ)) → ends p ≡ true → read_pieces (front ends (p ∷ qs)) ≡ Err InvalidLanguage
  at_end p qs e = ap (λ h. read_pieces (if h then [] else p ∷ front ends qs)) e

  no_language_at_end : (p : List ℕ) → ends p ≡ true → is_language p ≡ false
  no_language_at_end p e = by (is_language p) refl
    where
      by : (l : Bool) → is_language p ≡ l → l ≡ false
      by true is = absurd (false≢true (sym (apart.language p is) ∙ e))
      by false is = refl

  -- it is read alike with and without what comes later
  front_read : (ps : List (List ℕ)) → begins_at_mark ends (after_front ps) ≡ true → read_pieces (front ends ps) ≡ read_front ps
  front_read [] stop = refl
  front_read (p ∷ qs) stop = by (ends p) refl
    where
      by : (h : Bool) → ends p ≡ h → read_pieces (front ends (p ∷ qs)) ≡ read_front (p ∷ qs)
      by true e = at_end p qs e ∙ ap (λ l. if l then read_after (lowercase p) qs else Err InvalidLanguage) (sym (no_language_at_end p e))
      by false e =
          let cut = front-cut ends is_variant apart.variant (after_head qs) (sym (each-cut ends is_variant apart.variant (after_head qs)) ∙ stop) in
          ap (λ h. read_pieces (if h then [] else p ∷ front ends qs)) e
          ∙ ap (λ r. if is_language p then r else Err InvalidLanguage) (rest_front (lowercase p) qs
          ∙ ap (λ vs. with_variants (lowercase p) (optional_subtag is_script titlecase qs)
          (optional_subtag is_region uppercase (after_optional_subtag is_script qs)) (read_variants vs)) (sym cut))

  -- with another piece before the end it is refused
  front_fails : (ps : List (List ℕ)) → begins_at_mark ends (after_front ps) ≡ false
      → read_pieces (front ends ps) ≡ refused (is_language (slice_index_or ps 0 []))
  front_fails [] stop = absurd (false≢true (sym stop))
  front_fails (p ∷ qs) stop = by (ends p) refl
    where
      by : (h : Bool) → ends p ≡ h → read_pieces (front ends (p ∷ qs)) ≡ refused (is_language p)
      by true e = at_end p qs e ∙ ap refused (sym (no_language_at_end p e))
      by false e =
          ap (λ h. read_pieces (if h then [] else p ∷ front ends qs)) e
          ∙ ap (λ r. if is_language p then r else Err InvalidLanguage) (rest_front (lowercase p) qs
          ∙ ap (λ h. with_variants (lowercase p) (optional_subtag is_script titlecase qs) (optional_subtag is_region uppercase (after_optional_subtag is_script qs))
          (if h && (len (from_list (map lowercase (front ends (after_head qs)))) == length (front ends (after_head qs)))
          then Ok (from_list (map lowercase (front ends (after_head qs)))) else Err InvalidSubtag))
          (sym (each-cut ends is_variant apart.variant (after_head qs)) ∙ stop))

  -- an identifier at the front of a list
  pub front_whole : (ps qs rest : List (List ℕ)) (l : LanguageIdentifier) → front ends ps ≡ qs → from ends ps ≡ rest → read_pieces qs ≡ Ok l
      → (read_front ps ≡ Ok l) × (after_front ps ≡ rest)
  front_whole ps qs rest l before behind is = by (begins_at_mark ends (after_front ps)) refl (begins_at_mark ends ps) refl
    where
      read : read_pieces (front ends ps) ≡ Ok l
      read = ap read_pieces before ∙ is

      fails : (b : Bool) → refused b ≡ Ok l → ⊥
      fails true e = cc e
      fails false e = cc e

      some : (ps : List (List ℕ)) → begins_at_mark ends ps ≡ true → read_pieces (front ends ps) ≡ Ok l → ⊥
      some [] e r = cc r
      some (p ∷ ps) e r = cc (sym (ap (λ h. read_pieces (if h then [] else p ∷ front ends ps)) e) ∙ r)

      by : (h : Bool) → begins_at_mark ends (after_front ps) ≡ h → (k : Bool) → begins_at_mark ends ps ≡ k
          → (read_front ps ≡ Ok l) × (after_front ps ≡ rest)
      by h stop true e = absurd (some ps e read)
      by false stop false e = absurd (fails (is_language (slice_index_or ps 0 [])) (sym (front_fails ps stop) ∙ read))
      by true stop false e = (sym (front_read ps stop) ∙ read, front_rest ps e stop ∙ behind)

  -- what is read at the front, and what is left
  pub front_parts : (ps : List (List ℕ)) (l : LanguageIdentifier) → begins_at_mark ends (after_front ps) ≡ true → read_front ps ≡ Ok l
      → (read_pieces (front ends ps) ≡ Ok l) × (after_front ps ≡ from ends ps)
  front_parts ps l stop is = (front_read ps stop ∙ is, by (begins_at_mark ends ps) refl)
    where
      none : (ps : List (List ℕ)) → begins_at_mark ends ps ≡ true → read_pieces (front ends ps) ≡ Ok l → ⊥
      none [] e r = cc r
      none (p ∷ ps) e r = cc (sym (ap (λ h. read_pieces (if h then [] else p ∷ front ends ps)) e) ∙ r)

      by : (h : Bool) → begins_at_mark ends ps ≡ h → after_front ps ≡ from ends ps
      by true e = absurd (none ps e (front_read ps stop ∙ is))
      by false e = front_rest ps e stop

  -- a refusal is alike too
  pub front_err : (ps : List (List ℕ)) (f : ParseError) → read_front ps ≡ Err f → read_pieces (front ends ps) ≡ Err f
  front_err ps f is = by (begins_at_mark ends (after_front ps)) refl
    where
      by : (h : Bool) → begins_at_mark ends (after_front ps) ≡ h → read_pieces (front ends ps) ≡ Err f
      by true stop = front_read ps stop ∙ is
      by false stop = front_fails ps stop ∙ read_fault ps f is

  pub front_ok : (ps : List (List ℕ)) (x : LanguageIdentifier) → read_front ps ≡ Ok x → begins_at_mark ends (after_front ps) ≡ false
      → read_pieces (front ends ps) ≡ Err InvalidSubtag
  front_ok ps x is stop = front_fails ps stop ∙ ap refused (read_language ps x is)

language_apart : (p : List ℕ) → is_language p ≡ true → ends_language p ≡ false
language_apart [] is = refl
language_apart (c ∷ []) is = absurd (false≢true is)
language_apart (c ∷ d ∷ []) is = grind (arith, nat_tests)
language_apart (c ∷ d ∷ e ∷ p) is = grind (arith, nat_tests)

script_apart : (p : List ℕ) → is_script p ≡ true → ends_language p ≡ false
script_apart [] is = refl
script_apart (c ∷ []) is = absurd (false≢true is)
script_apart (c ∷ d ∷ []) is = absurd (false≢true is)
script_apart (c ∷ d ∷ e ∷ p) is = grind (arith, nat_tests)

region_apart : (p : List ℕ) → is_region p ≡ true → ends_language p ≡ false
region_apart [] is = refl
region_apart (c ∷ []) is = absurd (false≢true is)
region_apart (c ∷ d ∷ []) is = grind (arith, nat_tests)
region_apart (c ∷ d ∷ e ∷ p) is = grind (arith, nat_tests)

variant_apart : (p : List ℕ) → ends_language p ≡ true → is_variant p ≡ false
variant_apart [] is = refl
variant_apart (c ∷ []) is = refl
variant_apart (c ∷ d ∷ []) is = refl
variant_apart (c ∷ d ∷ e ∷ p) is = absurd (false≢true (sym long ∙ is))
  where
    long : ends_language (c ∷ d ∷ e ∷ p) ≡ false
    long = grind (arith, nat_tests)

pub ends_languages : EndsIdentifiers ends_language
ends_languages = record { language = language_apart; script = script_apart; region = region_apart; variant = variant_apart }

-- a singleton ends an identifier
pub singletons_end : EndsIdentifiers is_singleton
singletons_end = record { language = language; script = script; region = region; variant = variant }
  where
    language : (p : List ℕ) → is_language p ≡ true → is_singleton p ≡ false
    language p is = grind (arith, nat_tests)

    script : (p : List ℕ) → is_script p ≡ true → is_singleton p ≡ false
    script p is = grind (arith, nat_tests)

    region : (p : List ℕ) → is_region p ≡ true → is_singleton p ≡ false
    region p is = grind (arith, nat_tests)

    variant : (p : List ℕ) → is_singleton p ≡ true → is_variant p ≡ false
    variant p is = grind (arith, nat_tests)

-- ---- as a step of the definition

not_not : (b : Bool) → not (not b) ≡ b
not_not true = refl
not_not false = refl

pub marks : other_than (belongs language) ≡ ends_language
marks = λ i p. not_not (ends_language p) i

and_false : (b : Bool) → (b && false) ≡ false
and_false true = refl
and_false false = refl

-- what is no singleton opens nothing
pub marked_none : (y : LocaleIdentifier) (p : List ℕ) → is_singleton p ≡ false → marked y p ≡ None
marked_none y [] is = refl
marked_none y (c ∷ []) is = absurd (false≢true (sym is))
marked_none y (c ∷ d ∷ p) is = grind (arith, nat_tests, and_false)

not_read : (y : LocaleIdentifier) (ps : List (List ℕ)) → first_is is_tkey ps ≡ false → first_is is_singleton ps ≡ false → first_is (λ p. true) ps ≡ true
    → read_on fields [] y ps ≡ Err InvalidSubtag
not_read y [] t s some = absurd (false≢true some)
not_read y (p ∷ ps) t s some = rw t (rw (marked_none y p s) refl)

stopped : (ps : List (List ℕ)) → begins_at_mark ends_language ps ≡ false
    → (first_is is_tkey ps ≡ false) × ((first_is is_singleton ps ≡ false) × (first_is (λ p. true) ps ≡ true))
stopped [] is = absurd (false≢true (sym is))
stopped (p ∷ ps) is = by (is_tkey p) (is_singleton p) refl refl is
  where
    by : (t s : Bool) → is_tkey p ≡ t → is_singleton p ≡ s → (t || s) ≡ false → (is_tkey p ≡ false) × ((is_singleton p ≡ false) × (true ≡ true))
    by true s e f is = absurd (false≢true (sym is))
    by false true e f is = absurd (false≢true (sym is))
    by false false e f is = (e, (f, refl))

-- what the language was read as
abbrev pub with_front : LocaleIdentifier → Result LanguageIdentifier ParseError → List (List ℕ) → Result LocaleIdentifier ParseError
with_front x r ps = and_then (with_read x r) (λ y. read_on fields [] y ps)

refused_any : (x : LocaleIdentifier) (b : Bool) → with_read x (refused b) ≡ Err InvalidSubtag
refused_any x true = refl
refused_any x false = refl

-- the language is read at the front
pub language_taken : (x : LocaleIdentifier) (ps : List (List ℕ)) → begins_at_mark ends_language ps ≡ false
    → read_on language [] x ps ≡ with_front x (read_front ps) (after_front ps)
language_taken x [] some = absurd (false≢true (sym some))
language_taken x (p ∷ ps) some =
    taken language [] x (p ∷ ps)
    ∙ (λ i. and_then (added language (front (marks i) (p ∷ ps)) x) (λ y. read_on fields [] y (from (marks i) (p ∷ ps))))
    ∙ (λ i. and_then (added language (if some i then [] else p ∷ front ends_language ps) x) (λ y. read_on fields [] y (from ends_language (p ∷ ps))))
    ∙ (λ i. and_then (with_read x (read_pieces (if sym some i then [] else p ∷ front ends_language ps))) (λ y. read_on fields [] y (from ends_language (p ∷ ps))))
    ∙ by (begins_at_mark ends_language (after_front (p ∷ ps))) refl (read_front (p ∷ ps)) refl
  where
    by : (h : Bool) → begins_at_mark ends_language (after_front (p ∷ ps)) ≡ h → (r : Result LanguageIdentifier ParseError) → read_front (p ∷ ps) ≡ r
        → and_then (with_read x (read_pieces (front ends_language (p ∷ ps)))) (λ y. read_on fields [] y (from ends_language (p ∷ ps)))
        ≡ with_front x (read_front (p ∷ ps)) (after_front (p ∷ ps))
    by true stop r e = λ i. and_then (with_read x (front_read ends_language ends_languages (p ∷ ps) stop i))
        (λ y. read_on fields [] y (sym (front_rest ends_language ends_languages (p ∷ ps) some stop) i))
    by false stop (Err f) e =
        (λ i. and_then (with_read x (front_fails ends_language ends_languages (p ∷ ps) stop i)) (λ y. read_on fields [] y (from ends_language (p ∷ ps))))
        ∙ ap (λ r. and_then r (λ y. read_on fields [] y (from ends_language (p ∷ ps)))) (refused_any x (is_language p))
        ∙ ap (λ r. with_front x r (after_front (p ∷ ps))) (sym e)
    by false stop (Ok l) e =
        let s = stopped (after_front (p ∷ ps)) stop in
        (λ i. and_then (with_read x (front_fails ends_language ends_languages (p ∷ ps) stop i)) (λ y. read_on fields [] y (from ends_language (p ∷ ps))))
        ∙ ap (λ r. and_then r (λ y. read_on fields [] y (from ends_language (p ∷ ps)))) (refused_any x (is_language p))
        ∙ sym (not_read (with_language x l) (after_front (p ∷ ps)) s.0 s.1.0 s.1.1)
        ∙ ap (λ r. with_front x r (after_front (p ∷ ps))) (sym e)

-- a language comes next
some_language : (ps : List (List ℕ)) → begins language ps ≡ true → first_is is_tkey ps ≡ false → begins_at_mark ends_language ps ≡ false
some_language [] some none = absurd (false≢true some)
some_language (p ∷ ps) some none = by (is_tkey p) (is_singleton p) none some
  where
    by : (t s : Bool) → t ≡ false → not s ≡ true → (t || s) ≡ false
    by true s e f = absurd (false≢true (sym e))
    by false true e f = absurd (false≢true f)
    by false false e f = refl

pub language_read : (x : LocaleIdentifier) (ps : List (List ℕ)) (l : LanguageIdentifier) → begins language ps ≡ true → first_is is_tkey ps ≡ false
    → read_front ps ≡ Ok l → read_on language [] x ps ≡ read_on fields [] (with_language x l) (after_front ps)
language_read x ps l some none is = language_taken x ps (some_language ps some none) ∙ ap (λ r. with_front x r (after_front ps)) is

pub language_refused : (x : LocaleIdentifier) (ps : List (List ℕ)) → begins language ps ≡ true → first_is is_tkey ps ≡ false
    → IfOk (read_front ps) (λ l. ⊥) → read_on language [] x ps ≡ Err InvalidSubtag
language_refused x ps some none fails = language_taken x ps (some_language ps some none) ∙ by (read_front ps) fails
  where
    by : (r : Result LanguageIdentifier ParseError) → IfOk r (λ l. ⊥) → with_front x r (after_front ps) ≡ Err InvalidSubtag
    by (Ok l) fails = absurd fails
    by (Err e) fails = refl
