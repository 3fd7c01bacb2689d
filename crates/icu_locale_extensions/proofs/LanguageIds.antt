-- Identifiers: what is derived is what is read.
use Rattle.std.proofs.Common.{◌≡◌, ℕ, ◌≤◌, ◌+◌, suc, Bool, true, false, cond, not, ◌&&◌, ◌||◌, ◌==◌, List, [], ◌∷◌, ◌++◌, length, map, Option, None, Some, Ok, Err, if◌then◌else◌, refl, ap, sym, ◌∙◌, subst, arith}
use Rattle.std.specs.List.{All, list_all, list_any}
use Rattle.std.specs.Cmp.Lexicographic.{texts_ties}
use Rattle.std.specs.FinMap as fin
use Rattle.std.proofs.lemmas.Bool.{and_parts, and_from, false≢true}
use Rattle.std.proofs.lemmas.Bool.Decides.{nat_tests}
use Rattle.std.proofs.lemmas.List.{length-map}
use Rattle.std.proofs.lemmas.List.Elements.{All-nil, All-cons, All-append, All-weaker, All-head, All-tail}
use Rattle.icu_locale_core.specs.Readings.{are_variants, read_variants, with_variants, read_rest, read_pieces, after_head}
use Rattle.icu_locale_core.specs.Subtag.{is_language, is_script, is_region, is_variant, lowercase, titlecase, uppercase}
use Rattle.icu_locale_core.specs.TextSet.{TextSet, from_list, len}
use Rattle.icu_locale_core.specs.declared.langid.LanguageIdentifier.{LanguageIdentifier}
use Rattle.icu_locale_core.specs.declared.parse_error.ParseError.TheVariants.{InvalidLanguage, InvalidSubtag}
use Rattle.icu_locale_core.specs.laws.Identifiers.{same_text}
use Rattle.icu_locale_core.specs.laws.TextSets.{text_total, is_among, contains-from_list, length-rising_empty}
use Rattle.icu_locale_core.specs.Cuts.{optional_subtag, after_optional_subtag}
use Rattle.icu_locale_extensions.specs.Grammar.{One, one, AtMostOne, absent, present, AnyNumber, done, next, are_different, IsLanguageId, language_id}
use Rattle.icu_locale_extensions.specs.laws.Reader.{first_is, belongs}
use Rattle.icu_locale_extensions.specs.laws.Reader.Part.{language}
use Rattle.icu_locale_extensions.proofs.Derived.{each_any}
use Rattle.icu_locale_extensions.proofs.Languages.{ends_language, ends_languages}

-- ---- variants that are different

among : (p : List ℕ) (ps : List (List ℕ)) → list_any (same_text p) ps ≡ is_among p ps
among p [] = refl
among p (q ∷ ps) = λ i. texts_ties p q i || among p ps i

set_len : (s : TextSet) → fin.len s ≡ len s
set_len s = fin.len-entries s ∙ sym (length-map (fin.entries s) (λ e. e.0))

len_step : (t : List ℕ) (ts : List (List ℕ)) → len (from_list (t ∷ ts)) ≡ cond (is_among t ts) (len (from_list ts)) (len (from_list ts) + 1)
len_step t ts =
    sym (set_len (from_list (t ∷ ts))) ∙ fin.len-insert text_total (from_list ts) t tt
    ∙ (λ i. cond (contains-from_list ts t i) (set_len (from_list ts) i) (set_len (from_list ts) i + 1))

len_small : (ts : List (List ℕ)) → len (from_list ts) ≤ length ts
len_small [] = omega (arith, length-rising_empty)
len_small (t ∷ ts) = by (is_among t ts) (len_step t ts) (len_small ts)
  where
    by : (b : Bool) → len (from_list (t ∷ ts)) ≡ cond b (len (from_list ts)) (len (from_list ts) + 1)
        → len (from_list ts) ≤ length ts → len (from_list (t ∷ ts)) ≤ length (t ∷ ts)
    by true e small = omega arith
    by false e small = omega arith

one_more : (c rest : Bool) (n l : ℕ) → n ≤ l → rest ≡ (n == l) → (not c && rest) ≡ (cond c n (n + 1) == suc l)
one_more true rest n l small e = grind (arith, nat_tests)
one_more false rest n l small e = e ∙ grind (arith, nat_tests)

different_set : (ts : List (List ℕ)) → are_different ts ≡ (len (from_list ts) == length ts)
different_set [] = ap (λ n. n == 0) (sym length-rising_empty)
different_set (t ∷ ts) =
    ap (λ b. not b && are_different ts) (among t ts)
    ∙ one_more (is_among t ts) (are_different ts) (len (from_list ts)) (length ts) (len_small ts) (different_set ts)
    ∙ ap (λ n. n == suc (length ts)) (sym (len_step t ts))

-- ---- classes

region_no_script : (t : List ℕ) → is_region t ≡ true → is_script t ≡ false
region_no_script t h = grind (arith, nat_tests)

variant_no_region : (t : List ℕ) → is_variant t ≡ true → is_region t ≡ false
variant_no_region t h = grind (arith, nat_tests)

variant_no_script : (t : List ℕ) → is_variant t ≡ true → is_script t ≡ false
variant_no_script [] h = refl
variant_no_script (c ∷ t) h = grind (arith, nat_tests)

-- ---- what is derived is read

optional : (c : List ℕ → Bool) (w : List ℕ → List ℕ) (ss rest : List (List ℕ)) (o : Option (List ℕ)) → AtMostOne (One c w) ss o → first_is c rest ≡ false
    → (optional_subtag c w (ss ++ rest) ≡ o) × (after_optional_subtag c (ss ++ rest) ≡ rest)
optional c w ss [] o absent none = (refl, refl)
optional c w ss (q ∷ qs) o absent none = (ap (λ b. if b then Some (w q) else None) none, ap (λ b. if b then qs else q ∷ qs) none)
optional c w ss rest o (present rs v (one p is)) none = (ap (λ b. if b then Some (w p) else None) is, ap (λ b. if b then rest else p ∷ rest) is)

variants_first : (c : List ℕ → Bool) → ((t : List ℕ) → is_variant t ≡ true → c t ≡ false) → (ps vs : List (List ℕ)) → AnyNumber (One is_variant lowercase) ps vs → first_is c ps ≡ false
variants_first c apart ps vs done = refl
variants_first c apart ps vs (next qs rs v us (one p is) ds) = apart p is

region_first : (rs ps vs : List (List ℕ)) (r : Option (List ℕ)) → AtMostOne (One is_region uppercase) rs r → AnyNumber (One is_variant lowercase) ps vs → first_is is_script (rs ++ ps) ≡ false
region_first rs ps vs r absent ds = variants_first is_script variant_no_script ps vs ds
region_first rs ps vs r (present qs v (one p is)) ds = region_no_script p is

all_passes : (m : List ℕ → Bool) (ps : List (List ℕ)) → All (λ p. m p ≡ true) ps → list_all m ps ≡ true
all_passes m [] each = refl
all_passes m (p ∷ ps) each = and_from (m p) (list_all m ps) (All-head (λ q. m q ≡ true) p ps each) (all_passes m ps (All-tail (λ q. m q ≡ true) p ps each))

variants_read : (ps vs : List (List ℕ)) → AnyNumber (One is_variant lowercase) ps vs → are_different vs ≡ true → read_variants ps ≡ Ok (from_list vs)
variants_read ps vs ds different =
    let each = each_any is_variant ps vs ds in
    (λ i. if all_passes is_variant ps each.passes i && (len (from_list (sym each.lower i)) == length ps) then Ok (from_list (sym each.lower i)) else Err InvalidSubtag)
    ∙ ap (λ b. if b then Ok (from_list vs) else Err InvalidSubtag)
    (ap (λ n. len (from_list vs) == n) (sym (ap length each.lower ∙ length-map ps lowercase)) ∙ sym (different_set vs) ∙ different)

derived_read : (ps : List (List ℕ)) (l : LanguageIdentifier) → IsLanguageId ps l → read_pieces ps ≡ Ok l
derived_read ps l (language_id ls ss rs ws t s r vs (one p is) script region variants different) =
    let first = optional is_script titlecase ss (rs ++ ws) s script (region_first rs ws vs r region variants) in
    let second = optional is_region uppercase rs ws r region (variants_first is_region variant_no_region ws vs variants) in
    (λ i. if is i then read_rest (lowercase p) (ss ++ (rs ++ ws)) else Err InvalidLanguage)
    ∙ (λ i. with_variants (lowercase p) (first.0 i) (optional_subtag is_region uppercase (first.1 i)) (read_variants (after_optional_subtag is_region (first.1 i))))
    ∙ (λ i. with_variants (lowercase p) s (second.0 i) (read_variants (second.1 i)))
    ∙ ap (with_variants (lowercase p) s r) (variants_read ws vs variants different)

-- ---- its pieces

optional_inside : (c : List ℕ → Bool) (w : List ℕ → List ℕ) → ((p : List ℕ) → c p ≡ true → ends_language p ≡ false) → (ss : List (List ℕ)) (o : Option (List ℕ))
    → AtMostOne (One c w) ss o → All (λ p. belongs language p ≡ true) ss
optional_inside c w inside ss o absent = All-nil (λ p. belongs language p ≡ true)
optional_inside c w inside ss o (present qs v (one p is)) = All-cons (λ p. belongs language p ≡ true) p [] (ap not (inside p is)) (All-nil (λ p. belongs language p ≡ true))

variant_inside : (p : List ℕ) → is_variant p ≡ true → ends_language p ≡ false
variant_inside p is = by (ends_language p) refl
  where
    by : (b : Bool) → ends_language p ≡ b → b ≡ false
    by true e = absurd (false≢true (sym (ends_languages.variant p e) ∙ is))
    by false e = refl

inside : (ps : List (List ℕ)) (l : LanguageIdentifier) → IsLanguageId ps l → All (λ p. belongs language p ≡ true) ps
inside ps l (language_id ls ss rs ws t s r vs (one p is) script region variants different) =
    let P : List ℕ → Type 0 = λ p. belongs language p ≡ true in
    All-cons P p (ss ++ (rs ++ ws)) (ap not (ends_languages.language p is))
    (All-append P ss (rs ++ ws) (optional_inside is_script titlecase ends_languages.script ss s script)
    (All-append P rs ws (optional_inside is_region uppercase ends_languages.region rs r region)
    (All-weaker (λ v. is_variant v ≡ true) P (λ v h. ap not (variant_inside v h)) ws (each_any is_variant ws vs variants).passes)))

pub language_ids_read : (ps : List (List ℕ)) (l : LanguageIdentifier) → IsLanguageId ps l → (read_pieces ps ≡ Ok l) × All (λ p. belongs language p ≡ true) ps
language_ids_read ps l id = (derived_read ps l id, inside ps l id)

-- ---- what is read is derived

record Taken (c : List ℕ → Bool) (w : List ℕ → List ℕ) (ps : List (List ℕ)) : Type 0 where
  taken : List (List ℕ)
  parts : ps ≡ taken ++ after_optional_subtag c ps
  member : AtMostOne (One c w) taken (optional_subtag c w ps)

take : (c : List ℕ → Bool) (w : List ℕ → List ℕ) (ps : List (List ℕ)) → Taken c w ps
take c w [] = record { taken = []; parts = refl; member = absent }
take c w (p ∷ ps) = by (c p) refl
  where
    by : (b : Bool) → c p ≡ b → Taken c w (p ∷ ps)
    by true e = record { taken = p ∷ []; parts = rw e refl; member = rw e (present (p ∷ []) (w p) (one p e)) }
    by false e = record { taken = []; parts = rw e refl; member = rw e absent }

pub each_derived : (m : List ℕ → Bool) (ps : List (List ℕ)) → list_all m ps ≡ true → AnyNumber (One m lowercase) ps (map lowercase ps)
each_derived m [] each = done
each_derived m (p ∷ ps) each =
    let both = and_parts (m p) (list_all m ps) each in
    next (p ∷ []) ps (lowercase p) (map lowercase ps) (one p both.0) (each_derived m ps both.1)

pub read_derived : (ps : List (List ℕ)) (l : LanguageIdentifier) → read_pieces ps ≡ Ok l → IsLanguageId ps l
read_derived [] l is = absurd (cc is)
read_derived (p ∷ ps) l is = by (is_language p) refl is
  where
    rest : is_language p ≡ true → (b : Bool) → are_variants (after_head ps) ≡ b
        → with_variants (lowercase p) (optional_subtag is_script titlecase ps) (optional_subtag is_region uppercase (after_optional_subtag is_script ps))
        (if b then Ok (from_list (map lowercase (after_head ps))) else Err InvalidSubtag) ≡ Ok l → IsLanguageId (p ∷ ps) l
    rest e false are is = absurd (cc is)
    rest e true are is =
        let script = take is_script titlecase ps in
        let region = take is_region uppercase (after_optional_subtag is_script ps) in
        let vs = after_head ps in
        let both = and_parts (list_all is_variant vs) (len (from_list (map lowercase vs)) == length vs) are in
        let same : record {
          language = lowercase p;
          script = optional_subtag is_script titlecase ps;
          region = optional_subtag is_region uppercase (after_optional_subtag is_script ps);
          variants = from_list (map lowercase vs);
        } ≡ l = cc is in
        let whole = ap (λ qs. p ∷ qs) (sym (script.parts ∙ ap (λ qs. script.taken ++ qs) region.parts)) in
        subst (λ k. IsLanguageId (p ∷ ps) k) same
        (subst (λ qs. IsLanguageId qs (record {
          language = lowercase p;
          script = optional_subtag is_script titlecase ps;
          region = optional_subtag is_region uppercase (after_optional_subtag is_script ps);
          variants = from_list (map lowercase vs);
        })) whole
        (language_id (p ∷ []) script.taken region.taken vs (lowercase p) (optional_subtag is_script titlecase ps)
        (optional_subtag is_region uppercase (after_optional_subtag is_script ps)) (map lowercase vs) (one p e) script.member region.member
        (each_derived is_variant vs both.0)
        (different_set (map lowercase vs) ∙ ap (λ n. len (from_list (map lowercase vs)) == n) (length-map vs lowercase) ∙ both.1)))

    by : (b : Bool) → is_language p ≡ b → (if b then read_rest (lowercase p) ps else Err InvalidLanguage) ≡ Ok l → IsLanguageId (p ∷ ps) l
    by false e is = absurd (cc is)
    by true e is = rest e (are_variants (after_head ps)) refl is
