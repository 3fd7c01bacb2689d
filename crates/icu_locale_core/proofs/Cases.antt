-- A change of case keeps the class of a text, its length and its plainness, and a second change does nothing.
use Rattle.std.proofs.Common.{◌≡◌, ℕ, ◌<◌, ◌≤◌, Bool, true, false, ◌&&◌, ◌||◌, List, [], ◌∷◌, length, map, get_or, suc, zero, refl, ap, sym, ◌∙◌, arith, ◌==◌}
use Rattle.std.specs.List.{list_all}
use Rattle.std.specs.Char.{is_ascii_alphabetic, is_ascii_digit, is_ascii_alphanumeric, to_ascii_lowercase, to_ascii_uppercase}
use Rattle.std.proofs.lemmas.Bool.{and_parts, false_from_ne_true}
use Rattle.std.proofs.lemmas.Bool.Decides.{nat_tests}
use Rattle.std.proofs.lemmas.Str.Ascii.{lowercase-lowercase, uppercase-uppercase}
use Rattle.std.proofs.lemmas.List.{length-map}
use Rattle.icu_locale_core.specs.Subtag.{has_length, is_alphabetic, is_numeric, is_alphanumeric, starts_with_digit, is_script, is_region, is_variant}
use Rattle.icu_locale_core.specs.Subtag.{is_key, lowercase, uppercase, titlecase, IsWritten}
use Rattle.icu_locale_core.specs.laws.Classes.{part_language, part_script, part_region, part_variant, part_key, part_subtag}
use Rattle.icu_locale_core.specs.inner.Class.{is_member, written_case, written_byte}
use Rattle.icu_locale_core.specs.declared.classes.Class.{Class}
use Rattle.icu_locale_core.specs.declared.classes.Class.TheVariants.{Language, Script, Region, Variant, Key, Subtag}

-- the classes of one character do not see its case
pub record SeesNoCase (p : ℕ → Bool) : Type 0 where
  pub lower : (c : ℕ) → p (to_ascii_lowercase c) ≡ p c
  pub upper : (c : ℕ) → p (to_ascii_uppercase c) ≡ p c

pub alphabetic_sees_no_case : SeesNoCase is_ascii_alphabetic
alphabetic_sees_no_case = record { lower = λ c. grind (arith, nat_tests); upper = λ c. grind (arith, nat_tests) }

pub digit_sees_no_case : SeesNoCase is_ascii_digit
digit_sees_no_case = record { lower = λ c. grind (arith, nat_tests); upper = λ c. grind (arith, nat_tests) }

pub alphanumeric_sees_no_case : SeesNoCase is_ascii_alphanumeric
alphanumeric_sees_no_case = record { lower = λ c. grind (arith, nat_tests); upper = λ c. grind (arith, nat_tests) }

-- so those of a text do not either
pub all-lowercase : (p : ℕ → Bool) → SeesNoCase p → (t : List ℕ) → list_all p (lowercase t) ≡ list_all p t
all-lowercase p s [] = refl
all-lowercase p s (c ∷ t) = λ i. s.lower c i && all-lowercase p s t i

pub all-uppercase : (p : ℕ → Bool) → SeesNoCase p → (t : List ℕ) → list_all p (uppercase t) ≡ list_all p t
all-uppercase p s [] = refl
all-uppercase p s (c ∷ t) = λ i. s.upper c i && all-uppercase p s t i

pub all-titlecase : (p : ℕ → Bool) → SeesNoCase p → (t : List ℕ) → list_all p (titlecase t) ≡ list_all p t
all-titlecase p s [] = refl
all-titlecase p s (c ∷ t) = λ i. s.upper c i && all-lowercase p s t i

pub length-titlecase : (t : List ℕ) → length (titlecase t) ≡ length t
length-titlecase [] = refl
length-titlecase (c ∷ t) = ap suc (length-map t to_ascii_lowercase)

pub lowercase-lowercase_text : (t : List ℕ) → lowercase (lowercase t) ≡ lowercase t
lowercase-lowercase_text [] = refl
lowercase-lowercase_text (c ∷ t) = λ i. lowercase-lowercase c i ∷ lowercase-lowercase_text t i

pub uppercase-uppercase_text : (t : List ℕ) → uppercase (uppercase t) ≡ uppercase t
uppercase-uppercase_text [] = refl
uppercase-uppercase_text (c ∷ t) = λ i. uppercase-uppercase c i ∷ uppercase-uppercase_text t i

pub titlecase-titlecase : (t : List ℕ) → titlecase (titlecase t) ≡ titlecase t
titlecase-titlecase [] = refl
titlecase-titlecase (c ∷ t) = λ i. uppercase-uppercase c i ∷ lowercase-lowercase_text t i

starts_with_digit-lowercase : (t : List ℕ) → starts_with_digit (lowercase t) ≡ starts_with_digit t
starts_with_digit-lowercase [] = refl
starts_with_digit-lowercase (c ∷ t) = digit_sees_no_case.lower c

is_key-lowercase : (t : List ℕ) → is_key (lowercase t) ≡ is_key t
is_key-lowercase [] = refl
is_key-lowercase (c ∷ []) = refl
is_key-lowercase (c ∷ d ∷ []) = λ i. alphanumeric_sees_no_case.lower c i && alphabetic_sees_no_case.lower d i
is_key-lowercase (c ∷ d ∷ e ∷ t) = refl

has_length-same : (low high : ℕ) (s t : List ℕ) → length s ≡ length t → has_length low high s ≡ has_length low high t
has_length-same low high s t e = cc

-- the class of a text is that of its written form
pub is_member-written_case : (class : Class) (t : List ℕ) → is_member class (written_case class t) ≡ is_member class t
is_member-written_case Language t = λ i. has_length-same 2 3 (lowercase t) t (length-map t to_ascii_lowercase) i
    && all-lowercase is_ascii_alphabetic alphabetic_sees_no_case t i
is_member-written_case Script t = λ i. has_length-same 4 4 (titlecase t) t (length-titlecase t) i
    && all-titlecase is_ascii_alphabetic alphabetic_sees_no_case t i
is_member-written_case Region t = λ i. (has_length-same 2 2 (uppercase t) t (length-map t to_ascii_uppercase) i
    && all-uppercase is_ascii_alphabetic alphabetic_sees_no_case t i) || (has_length-same 3 3 (uppercase t) t
    (length-map t to_ascii_uppercase) i && all-uppercase is_ascii_digit digit_sees_no_case t i)
is_member-written_case Variant t = λ i. (has_length-same 5 8 (lowercase t) t (length-map t to_ascii_lowercase) i
    || (has_length-same 4 4 (lowercase t) t (length-map t to_ascii_lowercase) i && starts_with_digit-lowercase t i))
    && all-lowercase is_ascii_alphanumeric alphanumeric_sees_no_case t i
is_member-written_case Key t = is_key-lowercase t
is_member-written_case Subtag t = λ i. has_length-same 3 8 (lowercase t) t (length-map t to_ascii_lowercase) i
    && all-lowercase is_ascii_alphanumeric alphanumeric_sees_no_case t i

-- to write twice is to write once
pub written_case-written_case : (class : Class) (t : List ℕ) → written_case class (written_case class t) ≡ written_case class t
written_case-written_case Language t = lowercase-lowercase_text t
written_case-written_case Script t = titlecase-titlecase t
written_case-written_case Region t = uppercase-uppercase_text t
written_case-written_case Variant t = lowercase-lowercase_text t
written_case-written_case Key t = lowercase-lowercase_text t
written_case-written_case Subtag t = lowercase-lowercase_text t

-- writing keeps the length
pub length-written_case : (class : Class) (t : List ℕ) → length (written_case class t) ≡ length t
length-written_case Language t = length-map t to_ascii_lowercase
length-written_case Script t = length-titlecase t
length-written_case Region t = length-map t to_ascii_uppercase
length-written_case Variant t = length-map t to_ascii_lowercase
length-written_case Key t = length-map t to_ascii_lowercase
length-written_case Subtag t = length-map t to_ascii_lowercase

get_or-map : (f : ℕ → ℕ) (t : List ℕ) (i : ℕ) → i < length t → get_or (map f t) i 0 ≡ f (get_or t i 0)
get_or-map f [] i h = absurd (omega arith)
get_or-map f (c ∷ t) zero h = refl
get_or-map f (c ∷ t) (suc i) h = get_or-map f t i (omega arith)

get_or-titlecase : (t : List ℕ) (i : ℕ) → i < length t → get_or (titlecase t) i 0 ≡ written_byte Script i (get_or t i 0)
get_or-titlecase [] i h = absurd (omega arith)
get_or-titlecase (c ∷ t) zero h = refl
get_or-titlecase (c ∷ t) (suc i) h = get_or-map to_ascii_lowercase t i (omega arith)

-- writing goes character by character
pub get_or-written_case : (class : Class) (t : List ℕ) (i : ℕ) → i < length t → get_or (written_case class t) i 0 ≡ written_byte class i (get_or t i 0)
get_or-written_case Language t i h = get_or-map to_ascii_lowercase t i h
get_or-written_case Script t i h = get_or-titlecase t i h
get_or-written_case Region t i h = get_or-map to_ascii_uppercase t i h
get_or-written_case Variant t i h = get_or-map to_ascii_lowercase t i h
get_or-written_case Key t i h = get_or-map to_ascii_lowercase t i h
get_or-written_case Subtag t i h = get_or-map to_ascii_lowercase t i h

-- a member of a class is letters and digits
pub plain_from_member : (class : Class) (t : List ℕ) → is_member class t ≡ true → is_alphanumeric t ≡ true
plain_from_member Language t h = (part_language t h).plain
plain_from_member Script t h = (part_script t h).plain
plain_from_member Region t h = (part_region t h).plain
plain_from_member Variant t h = (part_variant t h).plain
plain_from_member Key t h = (part_key t h).plain
plain_from_member Subtag t h = (part_subtag t h).plain

-- so is its written form
pub written_plain : (class : Class) (t : List ℕ) → is_member class t ≡ true → is_alphanumeric (written_case class t) ≡ true
written_plain class t h = plain_from_member class (written_case class t) (is_member-written_case class t ∙ h)

-- and it is in its written case
pub written_written : (class : Class) (t : List ℕ) → is_member class t ≡ true → IsWritten (is_member class) (written_case class) (written_case class t)
written_written class t h = record { member = is_member-written_case class t ∙ h; written = written_case-written_case class t }

-- a region is one of letters exactly where it has two characters
pub is_alphabetic-region : (t : List ℕ) → is_region t ≡ true → is_alphabetic t ≡ (length t == 2)
is_alphabetic-region [] h = absurd (cc)
is_alphabetic-region (a ∷ []) h = absurd (cc)
is_alphabetic-region (a ∷ b ∷ []) h = grind (arith, nat_tests)
is_alphabetic-region (a ∷ b ∷ c ∷ []) h =
    let digit : is_ascii_digit a ≡ true = grind (arith, nat_tests) in
    let none : is_ascii_alphabetic a ≡ false = grind (arith, nat_tests) in
    rw none refl
is_alphabetic-region (a ∷ b ∷ c ∷ d ∷ t) h = absurd (grind (arith, nat_tests))

-- ---- a text in lower case

upper_lower : (c : ℕ) → to_ascii_uppercase (to_ascii_lowercase c) ≡ to_ascii_uppercase c
upper_lower c = grind (arith, nat_tests)

lower_upper : (c : ℕ) → to_ascii_lowercase (to_ascii_uppercase c) ≡ to_ascii_lowercase c
lower_upper c = grind (arith, nat_tests)

uppercase-lowercase_text : (t : List ℕ) → uppercase (lowercase t) ≡ uppercase t
uppercase-lowercase_text [] = refl
uppercase-lowercase_text (c ∷ t) = λ i. upper_lower c i ∷ uppercase-lowercase_text t i

lowercase-uppercase_text : (t : List ℕ) → lowercase (uppercase t) ≡ lowercase t
lowercase-uppercase_text [] = refl
lowercase-uppercase_text (c ∷ t) = λ i. lower_upper c i ∷ lowercase-uppercase_text t i

titlecase-lowercase_text : (t : List ℕ) → titlecase (lowercase t) ≡ titlecase t
titlecase-lowercase_text [] = refl
titlecase-lowercase_text (c ∷ t) = λ i. upper_lower c i ∷ lowercase-lowercase_text t i

lowercase-titlecase_text : (t : List ℕ) → lowercase (titlecase t) ≡ lowercase t
lowercase-titlecase_text [] = refl
lowercase-titlecase_text (c ∷ t) = λ i. lower_upper c i ∷ lowercase-lowercase_text t i

-- the written form does not see the case
pub written_case-lowercase : (class : Class) (t : List ℕ) → written_case class (lowercase t) ≡ written_case class t
written_case-lowercase Language t = lowercase-lowercase_text t
written_case-lowercase Script t = titlecase-lowercase_text t
written_case-lowercase Region t = uppercase-lowercase_text t
written_case-lowercase Variant t = lowercase-lowercase_text t
written_case-lowercase Key t = lowercase-lowercase_text t
written_case-lowercase Subtag t = lowercase-lowercase_text t

-- and the text is not changed by writing, case aside
pub lowercase-written_case : (class : Class) (t : List ℕ) → lowercase (written_case class t) ≡ lowercase t
lowercase-written_case Language t = lowercase-lowercase_text t
lowercase-written_case Script t = lowercase-titlecase_text t
lowercase-written_case Region t = lowercase-uppercase_text t
lowercase-written_case Variant t = lowercase-lowercase_text t
lowercase-written_case Key t = lowercase-lowercase_text t
lowercase-written_case Subtag t = lowercase-lowercase_text t

-- the class does not see the case
pub is_member-lowercase : (class : Class) (t : List ℕ) → is_member class (lowercase t) ≡ is_member class t
is_member-lowercase class t = sym (is_member-written_case class (lowercase t)) ∙ ap (is_member class) (written_case-lowercase class t)
    ∙ is_member-written_case class t

-- ---- the classes after the language share no text

script_length : (t : List ℕ) → is_script t ≡ true → length t ≡ 4
script_length t h = let has : has_length 4 4 t ≡ true = (and_parts (has_length 4 4 t) (is_alphabetic t) h).0 in grind (arith, nat_tests)

region_length : (t : List ℕ) → is_region t ≡ true → length t ≤ 3
region_length t h = by (has_length 2 2 t) (has_length 3 3 t) (λ e. grind (arith, nat_tests)) (λ e. grind (arith, nat_tests)) (is_alphabetic t) (is_numeric t) h
  where
    by : (a b : Bool) → (a ≡ true → length t ≤ 3) → (b ≡ true → length t ≤ 3) → (c d : Bool) → ((a && c) || (b && d)) ≡ true → length t ≤ 3
    by true b f g c d h = f refl
    by false true f g c d h = g refl
    by false false f g c d h = absurd (cc)

pub variant_length : (t : List ℕ) → is_variant t ≡ true → 4 ≤ length t
variant_length t h = by (has_length 5 8 t) (has_length 4 4 t) (λ e. grind (arith, nat_tests)) (λ e. grind (arith, nat_tests))
    (starts_with_digit t) ((and_parts (has_length 5 8 t || (has_length 4 4 t && starts_with_digit t)) (is_alphanumeric t) h).0)
  where
    by : (a b : Bool) → (a ≡ true → 4 ≤ length t) → (b ≡ true → 4 ≤ length t) → (c : Bool) → (a || (b && c)) ≡ true → 4 ≤ length t
    by true b f g c h = f refl
    by false true f g c h = g refl
    by false false f g c h = absurd (cc)

pub region_no_script : (t : List ℕ) → is_region t ≡ true → is_script t ≡ false
region_no_script t h = false_from_ne_true (is_script t) (λ g. omega (arith, script_length t g, region_length t h))

pub variant_no_region : (t : List ℕ) → is_variant t ≡ true → is_region t ≡ false
variant_no_region t h = false_from_ne_true (is_region t) (λ g. omega (arith, variant_length t h, region_length t g))

digit_first : (t : List ℕ) → is_variant t ≡ true → length t ≡ 4 → starts_with_digit t ≡ true
digit_first t h four = by (has_length 5 8 t) (grind (arith, nat_tests)) (has_length 4 4 t) (starts_with_digit t)
    ((and_parts (has_length 5 8 t || (has_length 4 4 t && starts_with_digit t)) (is_alphanumeric t) h).0)
  where
    by : (a : Bool) → a ≡ false → (b c : Bool) → (a || (b && c)) ≡ true → c ≡ true
    by true e b c h = absurd (cc)
    by false e b c h = (and_parts b c h).1

digit_no_letter : (t : List ℕ) → starts_with_digit t ≡ true → is_alphabetic t ≡ true → ⊥
digit_no_letter [] h g = absurd (cc)
digit_no_letter (c ∷ t) h g = let letter : is_ascii_alphabetic c ≡ true = (and_parts (is_ascii_alphabetic c) (is_alphabetic t) g).0 in
    absurd (grind (arith, nat_tests))

pub variant_no_script : (t : List ℕ) → is_variant t ≡ true → is_script t ≡ false
variant_no_script t h = false_from_ne_true (is_script t) (λ g. digit_no_letter t (digit_first t h (script_length t g))
    ((and_parts (has_length 4 4 t) (is_alphabetic t) g).1))
