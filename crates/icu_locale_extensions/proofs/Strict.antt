-- A strict text is read alike in each syntax.
use Rattle.std.proofs.Common.{◌≡◌, ℕ, ◌+◌, ◌<◌, ◌≤◌, zero, suc, Bool, true, false, not, ◌&&◌, ◌||◌, ◌==◌, List, [], ◌∷◌, ◌++◌, length, get_or, take, drop, map, codes, Option, None, Some, unwrap_or, Ok, if◌then◌else◌, refl, ap, sym, ◌∙◌, arith, append_assoc}
use Rattle.std.specs.Char.{is_ascii_alphabetic, is_ascii_digit, is_ascii_alphanumeric, to_ascii_lowercase}
use Rattle.std.specs.List.{list_all, onto_first, position_or_len, before_first, after_first}
use Rattle.std.proofs.lemmas.Bool.{and_parts, false≢true, false_from_ne_true, not-true}
use Rattle.std.proofs.lemmas.Bool.Decides.{nat_tests}
use Rattle.std.proofs.lemmas.List.{length-map, take_all, drop_all}
use Rattle.std.proofs.lemmas.List.Sums.{position_or_len_is}
use Rattle.std.proofs.lemmas.Slice.Eq.{bytes_eq-Decides}
use Rattle.icu_locale_core.specs.Identifier.{pieces, is_separator}
use Rattle.icu_locale_core.specs.Subtag.{has_length, is_alphabetic, is_alphanumeric, is_language, is_script, is_region, is_variant, is_key, lowercase, titlecase, uppercase}
use Rattle.icu_locale_core.specs.declared.langid.LanguageIdentifier.{LanguageIdentifier}
use Rattle.icu_locale_core.specs.laws.Classes.{part_language, part_script, part_region, part_variant, part_key}
use Rattle.icu_locale_core.specs.laws.Identifiers.{same_text, values_decide}
use Rattle.icu_locale_extensions.specs.Extensions.{is_piece, is_singleton, is_x, is_tkey}
use Rattle.icu_locale_extensions.specs.Syntaxes.{legacy, same_pieces, value_of, preferred, is_private, is_extended, is_registered, is_root, root_text, tag_text, marks_modifier, ends_base, is_standard, base_text}
use Rattle.icu_locale_extensions.specs.declared.identifier.LocaleIdentifier.{LocaleIdentifier}
use Rattle.icu_locale_extensions.specs.declared.syntax.Syntax.{Syntax}
use Rattle.icu_locale_extensions.specs.declared.syntax.Syntax.TheVariants.{Unicode, Bcp47, Posix}
use Rattle.icu_locale_extensions.specs.Grammar as g
use Rattle.icu_locale_extensions.specs.Grammar.{One, one, AtMostOne, absent, present, AnyNumber, done, next, AtLeastOne, first}
use Rattle.icu_locale_extensions.specs.laws.Reader.{and_then, read, read_by}
use Rattle.icu_locale_extensions.specs.Syntaxes.{with_modifier}
use Rattle.icu_locale_extensions.proofs.Languages.{begins_at_mark}
use Rattle.icu_locale_extensions.proofs.Parsed.{locale_parsed}
use Rattle.icu_locale_extensions.proofs.Derived.{is_one}
use Rattle.icu_locale_extensions.proofs.WrittenPieces.{plain-lowercase, plain_tkey}

-- letters and digits in each piece
abbrev pub are_plain : List (List ℕ) → Bool
are_plain ps = list_all is_alphanumeric ps

-- ---- texts of plain pieces

-- no byte passes
abbrev Lacks : (ℕ → Bool) → List ℕ → Type 0
Lacks p t = list_all (λ c. not (p c)) t ≡ true

some_piece : (c : ℕ) (ps : List (List ℕ)) → are_plain (onto_first c ps) ≡ true → (is_ascii_alphanumeric c ≡ true) × (are_plain ps ≡ true)
some_piece c [] is = ((and_parts (is_ascii_alphanumeric c) true ((and_parts (is_ascii_alphanumeric c && true) true is).0)).0, refl)
some_piece c (p ∷ ps) is =
    let both = and_parts (is_ascii_alphanumeric c && is_alphanumeric p) (are_plain ps) is in
    let first = and_parts (is_ascii_alphanumeric c) (is_alphanumeric p) both.0 in
    (first.0, λ i. first.1 i && both.1 i)

plain_lacks : (t : List ℕ) → are_plain (pieces t) ≡ true → Lacks ends_base t
plain_lacks [] is = refl
plain_lacks (c ∷ t) is =
    elim (is_separator c) as (λ h. is_separator c ≡ h → are_plain (if h then [] ∷ pieces t else onto_first c (pieces t)) ≡ true → Lacks ends_base (c ∷ t)) [
      | true ↦ λ s e. λ i. separator c s i && plain_lacks t e i
      | false ↦ λ s e. let both = some_piece c (pieces t) e in λ i. letter c both.0 i && plain_lacks t both.1 i
    ] refl is
  where
    separator : (c : ℕ) → is_separator c ≡ true → not (ends_base c) ≡ true
    separator c s = grind (arith, nat_tests)

    letter : (c : ℕ) → is_ascii_alphanumeric c ≡ true → not (ends_base c) ≡ true
    letter c is = grind (arith, nat_tests)

fewer_lack : (t : List ℕ) → Lacks ends_base t → Lacks marks_modifier t
fewer_lack [] none = refl
fewer_lack (c ∷ t) none =
    let both = and_parts (not (ends_base c)) (list_all (λ d. not (ends_base d)) t) none in
    λ i. here c both.0 i && fewer_lack t both.1 i
  where
    here : (c : ℕ) → not (ends_base c) ≡ true → not (marks_modifier c) ≡ true
    here c none = grind (arith, nat_tests)

module _ (p : ℕ → Bool) where
  lacks_at : (t : List ℕ) → Lacks p t → (k : ℕ) → k < length t → p (get_or t k 0) ≡ false
  lacks_at [] none k low = absurd (omega arith)
  lacks_at (c ∷ t) none zero low = not-true (p c) (and_parts (not (p c)) (list_all (λ d. not (p d)) t) none).0
  lacks_at (c ∷ t) none (suc k) low = lacks_at t (and_parts (not (p c)) (list_all (λ d. not (p d)) t) none).1 k (omega arith)

  at_end : (t : List ℕ) → Lacks p t → position_or_len p t ≡ length t
  at_end t none = position_or_len_is p t (length t) 0 (omega arith) (lacks_at t none) (λ below. absurd (omega (arith, below)))

  all_before : (t : List ℕ) → Lacks p t → before_first p t ≡ t
  all_before t none = ap (λ n. take n t) (at_end t none) ∙ take_all (length t) t (omega arith)

  none_after : (t : List ℕ) → Lacks p t → after_first p t ≡ []
  none_after t none = ap (λ n. drop (n + 1) t) (at_end t none) ∙ drop_all (length t + 1) t (omega arith)

-- a text of plain pieces is all base
pub plain_base : (t : List ℕ) → are_plain (pieces t) ≡ true → before_first ends_base t ≡ t
plain_base t is = all_before ends_base t (plain_lacks t is)

pub plain_no_modifier : (t : List ℕ) → are_plain (pieces t) ≡ true → after_first marks_modifier t ≡ []
plain_no_modifier t is = none_after marks_modifier t (fewer_lack t (plain_lacks t is))

-- ---- what is derived is plain

plain_append : (ps qs : List (List ℕ)) → are_plain ps ≡ true → are_plain qs ≡ true → are_plain (ps ++ qs) ≡ true
plain_append [] qs a b = b
plain_append (p ∷ ps) qs a b =
    let both = and_parts (is_alphanumeric p) (are_plain ps) a in
    λ i. both.0 i && plain_append ps qs both.1 b i

-- what P derives is plain
abbrev IsPlain : {V : Type 0} → (List (List ℕ) → V → Type 0) → Type 0
IsPlain {V} P = (ps : List (List ℕ)) (v : V) → P ps v → are_plain ps ≡ true

one_plain : (m : List ℕ → Bool) (w : List ℕ → List ℕ) → ((p : List ℕ) → m p ≡ true → is_alphanumeric p ≡ true) → IsPlain (One m w)
one_plain m w known ps v (one p is) = λ i. known p is i && true

option_plain : {V : Type 0} (P : List (List ℕ) → V → Type 0) → IsPlain P → IsPlain (AtMostOne P)
option_plain P each ps v absent = refl
option_plain P each ps v (present qs u d) = each qs u d

any_plain : {V : Type 0} (P : List (List ℕ) → V → Type 0) → IsPlain P → IsPlain (AnyNumber P)
any_plain P each ps v done = refl
any_plain P each ps v (next qs rs u us d ds) = plain_append qs rs (each qs u d) (any_plain P each rs us ds)

some_plain : {V : Type 0} (P : List (List ℕ) → V → Type 0) → IsPlain P → IsPlain (AtLeastOne P)
some_plain P each ps v (first qs rs u us d ds) = plain_append qs rs (each qs u d) (any_plain P each rs us ds)

named_plain : (n : ℕ) → is_alphanumeric (n ∷ []) ≡ true → (p : List ℕ) → same_text (lowercase p) (n ∷ []) ≡ true → is_alphanumeric p ≡ true
named_plain n plain p is = sym (plain-lowercase p) ∙ ap is_alphanumeric ((bytes_eq-Decides (lowercase p) (n ∷ [])).0 is) ∙ plain

piece_plain : (low : ℕ) → IsPlain (One (is_piece low) lowercase)
piece_plain low = one_plain (is_piece low) lowercase (λ p h. (and_parts (has_length low 8 p) (is_alphanumeric p) h).1)

types_plain : IsPlain g.IsTypes
types_plain = some_plain (One (is_piece 3) lowercase) (piece_plain 3)

language_plain : IsPlain g.IsLanguageId
language_plain ps v (g.language_id ls ss rs ws l s r vs language script region variants different) =
    plain_append ls (ss ++ (rs ++ ws)) (one_plain is_language lowercase (λ p h. (part_language p h).plain) ls l language)
    (plain_append ss (rs ++ ws) (option_plain (One is_script titlecase) (one_plain is_script titlecase (λ p h. (part_script p h).plain)) ss s script)
    (plain_append rs ws (option_plain (One is_region uppercase) (one_plain is_region uppercase (λ p h. (part_region p h).plain)) rs r region)
    (any_plain (One is_variant lowercase) (one_plain is_variant lowercase (λ p h. (part_variant p h).plain)) ws vs variants)))

keyword_plain : IsPlain g.IsKeyword
keyword_plain ps v (g.keyword ks ts k u key types) =
    plain_append ks ts (one_plain is_key lowercase (λ p h. (part_key p h).plain) ks k key) (option_plain g.IsTypes types_plain ts u types)

tfield_plain : IsPlain g.IsTfield
tfield_plain ps v (g.tfield ks ts k u key types) = plain_append ks ts (one_plain is_tkey lowercase plain_tkey ks k key) (types_plain ts u types)

extension_plain : IsPlain g.IsExtension
extension_plain ps e (g.unicode qs f (g.of_keywords us ks m rows u keys)) =
    plain_append us ks (one_plain _ lowercase (named_plain 117 refl) us m u) (some_plain g.IsKeyword keyword_plain ks rows keys)
extension_plain ps e (g.unicode qs f (g.of_attributes us xs ks m vs rows u attributes keys)) =
    plain_append us (xs ++ ks) (one_plain _ lowercase (named_plain 117 refl) us m u)
    (plain_append xs ks (types_plain xs vs attributes) (any_plain g.IsKeyword keyword_plain ks rows keys))
extension_plain ps e (g.transformed qs f (g.of_tlang ts ls fs m l rows t id fields)) =
    plain_append ts (ls ++ fs) (one_plain _ lowercase (named_plain 116 refl) ts m t)
    (plain_append ls fs (language_plain ls l id) (any_plain g.IsTfield tfield_plain fs rows fields))
extension_plain ps e (g.transformed qs f (g.of_tfields ts fs m rows t fields)) =
    plain_append ts fs (one_plain _ lowercase (named_plain 116 refl) ts m t) (some_plain g.IsTfield tfield_plain fs rows fields)
extension_plain ps e (g.other qs f (g.of_other ss ts s vs single some)) =
    plain_append ss ts (one_plain _ lowercase (λ p h. (and_parts (is_singleton p) (is_alphanumeric p) (and_parts (is_singleton p && is_alphanumeric p) _ h).0).1) ss s single)
    (some_plain (One (is_piece 2) lowercase) (piece_plain 2) ts vs some)

private_plain : IsPlain g.IsPrivateUse
private_plain ps v (g.private_use xs ts m vs x some) =
    plain_append xs ts (one_plain _ lowercase (named_plain 120 refl) xs m x) (some_plain (One (is_piece 1) lowercase) (piece_plain 1) ts vs some)

pub read_plain : (ps : List (List ℕ)) (x : LocaleIdentifier) → read ps ≡ Ok x → are_plain ps ≡ true
read_plain ps x is =
    let r = locale_parsed ps x is in
    ap are_plain (sym r.parts) ∙ plain_append r.id (r.own ++ r.last) (language_plain r.id r.l r.identifier)
    (plain_append r.own r.last (any_plain g.IsExtension extension_plain r.own r.meanings r.derived) (option_plain g.IsPrivateUse private_plain r.last r.private r.ending))

-- ---- how a strict text begins

-- three letters
abbrev three_letters : List ℕ → Bool
three_letters q = has_length 3 3 q && is_alphabetic q

-- no second region: it has neither two characters nor three
abbrev no_region : List (List ℕ) → Bool
no_region [] = true
no_region (r ∷ rs) = not (length r == 2) && not (length r == 3)

-- a language, and no extended one; after a region of two letters comes none
abbrev may_begin : List (List ℕ) → Bool
may_begin [] = false
may_begin (p ∷ []) = is_language p
may_begin (p ∷ q ∷ ps) = is_language p && (not (three_letters q) && (not (length q == 2) || no_region ps))

-- ---- in any case

alphabetic-lowercase : (t : List ℕ) → is_alphabetic (lowercase t) ≡ is_alphabetic t
alphabetic-lowercase [] = refl
alphabetic-lowercase (c ∷ t) =
    let here : is_ascii_alphabetic (to_ascii_lowercase c) ≡ is_ascii_alphabetic c = grind (arith, nat_tests) in
    λ i. here i && alphabetic-lowercase t i

length-lowercase : (t : List ℕ) → length (lowercase t) ≡ length t
length-lowercase t = length-map t to_ascii_lowercase

letters-lowercase : (low high : ℕ) (t : List ℕ) → (has_length low high (lowercase t) && is_alphabetic (lowercase t)) ≡
    (has_length low high t && is_alphabetic t)
letters-lowercase low high t = λ i. same (length-lowercase t) i && alphabetic-lowercase t i
  where
    same : length (lowercase t) ≡ length t → has_length low high (lowercase t) ≡ has_length low high t
    same e = cc

no_region-lowercase : (ps : List (List ℕ)) → no_region (map lowercase ps) ≡ no_region ps
no_region-lowercase [] = refl
no_region-lowercase (r ∷ rs) = ap (λ n. not (n == 2) && not (n == 3)) (length-lowercase r)

may_begin-lowercase : (ps : List (List ℕ)) → may_begin (map lowercase ps) ≡ may_begin ps
may_begin-lowercase [] = refl
may_begin-lowercase (p ∷ []) = letters-lowercase 2 3 p
may_begin-lowercase (p ∷ q ∷ ps) =
    λ i. letters-lowercase 2 3 p i && (not (letters-lowercase 3 3 q i) && (not (length-lowercase q i == 2) || no_region-lowercase ps i))

long_piece : (q : List ℕ) → 4 ≤ length q → (three_letters q ≡ false) × (((length q == 2) ≡ false) × ((length q == 3) ≡ false))
long_piece q long = (grind (arith, nat_tests), (grind (arith, nat_tests), grind (arith, nat_tests)))

region_begins : (q : List ℕ) → is_region q ≡ true → three_letters q ≡ false
region_begins [] is = refl
region_begins (a ∷ []) is = refl
region_begins (a ∷ b ∷ []) is = refl
region_begins (a ∷ b ∷ c ∷ []) is = digits a b c is
  where
    digits : (a b c : ℕ) → (is_ascii_digit a && (is_ascii_digit b && (is_ascii_digit c && true))) ≡ true
        → (is_ascii_alphabetic a && (is_ascii_alphabetic b && (is_ascii_alphabetic c && true))) ≡ false
    digits a b c is = grind (arith, nat_tests)
region_begins (a ∷ b ∷ c ∷ d ∷ q) is = grind (arith, nat_tests)

-- a piece that is no region and has not three letters
record IsApart (q : List ℕ) : Type 0 where
  letters : three_letters q ≡ false
  two : (length q == 2) ≡ false
  three : (length q == 3) ≡ false

long_apart : (q : List ℕ) → 4 ≤ length q → IsApart q
long_apart q long = let l = long_piece q long in record { letters = l.0; two = l.1.0; three = l.1.1 }

single_apart : (q : List ℕ) → is_singleton q ≡ true → IsApart q
single_apart q single = record { letters = grind (arith, nat_tests); two = grind (arith, nat_tests); three = grind (arith, nat_tests) }

-- the first piece is so, if there is one
abbrev FirstApart : List (List ℕ) → Type 0
FirstApart [] = Unit {0}
FirstApart (q ∷ qs) = IsApart q

rest_apart : (rest : List (List ℕ)) → begins_at_mark is_singleton rest ≡ true → FirstApart rest
rest_apart [] at = tt
rest_apart (q ∷ qs) at = single_apart q at

variants_apart : (ws vs rest : List (List ℕ)) → AnyNumber (One is_variant lowercase) ws vs → begins_at_mark is_singleton rest ≡ true → FirstApart (ws ++ rest)
variants_apart ws vs rest done at = rest_apart rest at
variants_apart ws vs rest (next qs rs v us (one p is) ds) at = long_apart p (part_variant p is).long

no_region_from : (ps : List (List ℕ)) → FirstApart ps → no_region ps ≡ true
no_region_from [] a = refl
no_region_from (q ∷ qs) a = λ i. not (a.two i) && not (a.three i)

begins_from : (p : List ℕ) (ps : List (List ℕ)) → is_language p ≡ true → FirstApart ps → may_begin (p ∷ ps) ≡ true
begins_from p [] is a = is
begins_from p (q ∷ qs) is a = λ i. is i && (not (a.letters i) && (not (a.two i) || no_region qs))

or_true : (a : Bool) → (a || true) ≡ true
or_true true = refl
or_true false = refl

region_begun : (p : List ℕ) (rs : List (List ℕ)) (r : Option (List ℕ)) (ps : List (List ℕ)) → is_language p ≡ true → AtMostOne (One is_region uppercase) rs r → FirstApart ps
    → may_begin (p ∷ (rs ++ ps)) ≡ true
region_begun p rs r ps is absent a = begins_from p ps is a
region_begun p rs r ps is (present qs v (one q region)) a =
    (λ i. is i && (not (region_begins q region i) && (not (length q == 2) || no_region_from ps a i))) ∙ or_true (not (length q == 2))

id_begins : (ids rest : List (List ℕ)) (l : LanguageIdentifier) → g.IsLanguageId ids l → begins_at_mark is_singleton rest ≡ true → may_begin (ids ++ rest) ≡ true
id_begins ids rest l (g.language_id ls ss rs ws t s r vs (one p is) absent region variants different) at =
    ap (λ ps. may_begin (p ∷ ps)) (append_assoc rs ws rest) ∙ region_begun p rs r (ws ++ rest) is region (variants_apart ws vs rest variants at)
id_begins ids rest l (g.language_id ls ss rs ws t s r vs (one p is) (present qs v (one q script)) region variants different) at =
    begins_from p (q ∷ ((rs ++ ws) ++ rest)) is (long_apart q (part_script q script).long)

strict_begins : (ps : List (List ℕ)) (x : LocaleIdentifier) → read ps ≡ Ok x → may_begin ps ≡ true
strict_begins ps x is =
    let r = locale_parsed ps x is in
    ap may_begin (sym r.parts) ∙ id_begins r.id (r.own ++ r.last) r.l r.identifier r.starting

-- ---- a strict text stands for itself

-- no value where a test that each row passes rules its tag out
value_none : (q : List ℕ × List ℕ → Bool) (rows : List (List ℕ × List ℕ)) (ps : List (List ℕ)) → list_all q rows ≡ true
    → ((row : List ℕ × List ℕ) → q row ≡ true → same_pieces ps (pieces row.0) ≡ false) → value_of rows ps ≡ None
value_none q [] ps all out = refl
value_none q (row ∷ rows) ps all out =
    let both = and_parts (q row) (list_all q rows) all in
    ap (λ b. if b then Some row.1 else value_of rows ps) (out row both.0) ∙ value_none q rows ps both.1 out

and-false : (a : Bool) → (a && false) ≡ false
and-false true = refl
and-false false = refl

preferred-strict : (ps : List (List ℕ)) → may_begin ps ≡ true → preferred ps ≡ None
unfolding preferred
preferred-strict ps begins =
    value_none (λ row. not (may_begin (pieces row.0))) legacy ps refl (λ row other. false_from_ne_true _ (λ same.
    let alike = (values_decide (map lowercase ps) (map lowercase (pieces row.0))).0 same in
    let also : may_begin (pieces row.0) ≡ true = sym (may_begin-lowercase (pieces row.0)) ∙ ap may_begin (sym alike) ∙ may_begin-lowercase ps ∙ begins in
    false≢true (sym (ap not also) ∙ other)))

pub language_no_x : (p : List ℕ) → is_language p ≡ true → is_x p ≡ false
language_no_x p is = false_from_ne_true _ (λ x. short p is (is_one p 120 x))
  where
    short : (p : List ℕ) → is_language p ≡ true → is_singleton p ≡ true → ⊥
    short [] is single = false≢true single
    short (c ∷ []) is single = false≢true is
    short (c ∷ d ∷ p) is single = grind (arith, nat_tests)

private-strict : (ps : List (List ℕ)) → may_begin ps ≡ true → is_private ps ≡ false
private-strict [] begins = refl
private-strict (p ∷ []) begins = language_no_x p begins
private-strict (p ∷ q ∷ ps) begins = language_no_x p (and_parts (is_language p) _ begins).0

-- root has four letters
pub language_no_root : (p : List ℕ) → is_language p ≡ true → same_text (lowercase p) (codes "root") ≡ false
language_no_root p is = false_from_ne_true _ (λ root. short p is (sym (length-lowercase p) ∙ ap length ((bytes_eq-Decides (lowercase p) (codes "root")).0 root)))
  where
    short : (p : List ℕ) → is_language p ≡ true → length p ≡ 4 → ⊥
    short p is four = grind (arith, nat_tests)

root-strict : (ps : List (List ℕ)) → may_begin ps ≡ true → is_root ps ≡ false
root-strict [] begins = refl
root-strict (p ∷ []) begins = language_no_root p begins
root-strict (p ∷ q ∷ ps) begins = ap (λ b. b && is_singleton q) (language_no_root p (and_parts (is_language p) _ begins).0)

extended-strict : (ps : List (List ℕ)) → may_begin ps ≡ true → is_extended ps ≡ false
extended-strict [] begins = refl
extended-strict (p ∷ []) begins = refl
extended-strict (p ∷ q ∷ ps) begins =
    let rest = (and_parts (is_language p) _ begins).1 in
    let other = not-true (three_letters q) (and_parts (not (three_letters q)) _ rest).0 in
    ap (λ b. (is_language p && b) && is_registered p q) other ∙ ap (λ b. b && is_registered p q) (and-false (is_language p))

module _ (t : List ℕ) (begins : may_begin (pieces t) ≡ true) where
  -- the text stands for itself
  tag_is_text : tag_text t ≡ t
  tag_is_text =
      λ i. unwrap_or (preferred-strict (pieces t) begins i) (
      if private-strict (pieces t) begins i then codes "und-" ++ t else (if root-strict (pieces t) begins i then root_text t
      else (if extended-strict (pieces t) begins i then after_first is_separator t else t)))

  another : (name : List ℕ) → may_begin (pieces name) ≡ false → same_text t name ≡ false
  another name other = false_from_ne_true _ (λ same. false≢true (sym (ap (λ u. may_begin (pieces u)) ((bytes_eq-Decides t name).0 same) ∙ other) ∙ begins))

  -- and is no name of the standard's locale
  not_standard : is_standard t ≡ false
  not_standard = (λ i. another (codes "C") refl i || another (codes "POSIX") refl i)

  -- and is not root
  not_root : same_text t (codes "root") ≡ false
  not_root = another (codes "root") refl

base_is_text : (t : List ℕ) (x : LocaleIdentifier) → read (pieces t) ≡ Ok x → base_text t ≡ t
base_is_text t x is =
    let whole = plain_base t (read_plain (pieces t) x is) in
    let begins = strict_begins (pieces t) x is in
    let other = ap is_standard whole ∙ not_standard t begins in
    let no_root = ap (λ u. same_text u (codes "root")) whole ∙ not_root t begins in
    λ i. if other i then codes "en-US-u-va-posix" else (if no_root i then codes "und" else whole i)

pub strict_alike : (s : Syntax) (t : List ℕ) (x : LocaleIdentifier) → read (pieces t) ≡ Ok x → read_by s t ≡ Ok x
strict_alike Unicode t x is = is
strict_alike Bcp47 t x is = ap (λ u. read (pieces u)) (tag_is_text t (strict_begins (pieces t) x is)) ∙ is
strict_alike Posix t x is =
    (λ i. and_then (read (pieces (base_is_text t x is i))) (λ y. Ok (with_modifier (plain_no_modifier t (read_plain (pieces t) x is) i) y)))
    ∙ ap (λ r. and_then r (λ y. Ok (with_modifier [] y))) is
