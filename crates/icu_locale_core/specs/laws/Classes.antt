-- A member of a class has so many letters or digits, and so has each subtag of an identifier.
use Rattle.std.proofs.Common.{◌≡◌, ◌≤◌, ℕ, Bool, true, ◌&&◌, ◌||◌, List, [], ◌∷◌, length, Option, None, Some, IfSome, refl, ◌∙◌, ⊎_elim, arith}
use Rattle.std.specs.Char.{is_ascii_alphabetic, is_ascii_digit, is_ascii_alphanumeric}
use Rattle.std.specs.List.{All, Contains, list_all}
use Rattle.std.specs.Option.{option_to_list}
use Rattle.std.proofs.lemmas.Bool.{and_parts, or_cases, false≢true}
use Rattle.std.proofs.lemmas.Bool.Decides.{nat_tests}
use Rattle.std.proofs.lemmas.List.Elements.{All-nil, All-cons, All-append, All-weaker, All-contains_itself}
use Rattle.icu_locale_core.specs.Identifier.{IsIdentifier, subtags}
use Rattle.icu_locale_core.specs.Subtag.{has_length, is_alphabetic, is_numeric, is_alphanumeric, starts_with_digit}
use Rattle.icu_locale_core.specs.Subtag.{is_language, is_script, is_region, is_variant, is_key, is_subtag, IsLanguage, IsScript, IsRegion, IsVariant}
use Rattle.icu_locale_core.specs.TextSet.{rising}
use Rattle.icu_locale_core.specs.declared.langid.LanguageIdentifier.{LanguageIdentifier}
use Rattle.icu_locale_core.specs.laws.TextSets.{contains-rising, is_among-Contains}

-- low or more letters and digits
pub record IsPart (low : ℕ) (p : List ℕ) : Type 0 where
  pub long : low ≤ length p
  pub plain : is_alphanumeric p ≡ true

pub IsPart-less : (low high : ℕ) → low ≤ high → (p : List ℕ) → IsPart high p → IsPart low p
IsPart-less low high less p is = record { long = omega (arith, is.long, less); plain = is.plain }

-- so many characters from low on, that are letters and digits
pub part_between : (low high : ℕ) (p : List ℕ) → has_length low high p ≡ true → is_alphanumeric p ≡ true → IsPart low p
part_between low high p h plain = record { long = grind (arith, nat_tests); plain = plain }

weaker_tests : (p q : ℕ → Bool) → ((c : ℕ) → p c ≡ true → q c ≡ true) → (t : List ℕ) → list_all p t ≡ true → list_all q t ≡ true
weaker_tests p q weaker [] h = refl
weaker_tests p q weaker (c ∷ t) h = grind (arith, nat_tests, weaker c, weaker_tests p q weaker t)

-- letters are letters and digits, and so are digits
pub plain_letters : (t : List ℕ) → is_alphabetic t ≡ true → is_alphanumeric t ≡ true
plain_letters t h = weaker_tests is_ascii_alphabetic is_ascii_alphanumeric (λ c h. grind (arith, nat_tests)) t h

pub plain_digits : (t : List ℕ) → is_numeric t ≡ true → is_alphanumeric t ≡ true
plain_digits t h = weaker_tests is_ascii_digit is_ascii_alphanumeric (λ c h. grind (arith, nat_tests)) t h

letters_between : (low high : ℕ) (p : List ℕ) → (has_length low high p && is_alphabetic p) ≡ true → IsPart low p
letters_between low high p h =
    let both = and_parts (has_length low high p) (is_alphabetic p) h in
    part_between low high p both.0 (plain_letters p both.1)

digits_between : (low high : ℕ) (p : List ℕ) → (has_length low high p && is_numeric p) ≡ true → IsPart low p
digits_between low high p h =
    let both = and_parts (has_length low high p) (is_numeric p) h in
    part_between low high p both.0 (plain_digits p both.1)

-- ---- the classes

pub part_language : (p : List ℕ) → is_language p ≡ true → IsPart 2 p
part_language p h = letters_between 2 3 p h

pub part_script : (p : List ℕ) → is_script p ≡ true → IsPart 4 p
part_script p h = letters_between 4 4 p h

pub part_region : (p : List ℕ) → is_region p ≡ true → IsPart 2 p
part_region p h = ⊎_elim
    (λ two. letters_between 2 2 p two)
    (λ three. IsPart-less 2 3 (omega arith) p (digits_between 3 3 p three))
    (or_cases (has_length 2 2 p && is_alphabetic p) (has_length 3 3 p && is_numeric p) h)

pub part_variant : (p : List ℕ) → is_variant p ≡ true → IsPart 4 p
part_variant p h =
    let both = and_parts (has_length 5 8 p || (has_length 4 4 p && starts_with_digit p)) (is_alphanumeric p) h in
    record { long = grind (arith, nat_tests); plain = both.1 }

pub part_key : (p : List ℕ) → is_key p ≡ true → IsPart 2 p
part_key [] h = absurd (false≢true h)
part_key (c ∷ []) h = absurd (false≢true h)
part_key (c ∷ d ∷ []) h =
    let both = and_parts (is_ascii_alphanumeric c) (is_ascii_alphabetic d) h in
    let second : is_ascii_alphanumeric d ≡ true = grind (arith, nat_tests, both.1) in
    record { long = omega arith; plain = λ i. both.0 i && (second i && true) }
part_key (c ∷ d ∷ e ∷ t) h = absurd (false≢true h)

pub part_subtag : (p : List ℕ) → is_subtag p ≡ true → IsPart 3 p
part_subtag p h =
    let both = and_parts (has_length 3 8 p) (is_alphanumeric p) h in
    part_between 3 8 p both.0 both.1

-- ---- the subtags of an identifier

-- variants in rising order
pub rising_variants : (x : LanguageIdentifier) → IsIdentifier x → All IsVariant (rising x.variants)
rising_variants x is = All-weaker (Contains (rising x.variants)) IsVariant
    (λ v here. is.variants v (contains-rising x.variants v ∙ is_among-Contains v (rising x.variants) here))
    (rising x.variants) (All-contains_itself (rising x.variants))

module _ (P : List ℕ → Type 0) (language : (p : List ℕ) → IsLanguage p → P p) (script : (p : List ℕ) → IsScript p → P p)
    (region : (p : List ℕ) → IsRegion p → P p) (variant : (p : List ℕ) → IsVariant p → P p) where
  of_script : (o : Option (List ℕ)) → IfSome o IsScript → All P (option_to_list o)
  of_script None known = All-nil P
  of_script (Some t) known = All-cons P t [] (script t known) (All-nil P)

  of_region : (o : Option (List ℕ)) → IfSome o IsRegion → All P (option_to_list o)
  of_region None known = All-nil P
  of_region (Some t) known = All-cons P t [] (region t known) (All-nil P)

  -- what holds of each class holds of each subtag, whatever the order of the variants
  pub each_subtag : (x : LanguageIdentifier) → IsIdentifier x → (order : List (List ℕ)) → All IsVariant order → All P (subtags x order)
  each_subtag x is order each =
      All-cons P x.language _ (language x.language is.language)
      (All-append P (option_to_list x.script) _ (of_script x.script is.script)
      (All-append P (option_to_list x.region) order (of_region x.region is.region) (All-weaker IsVariant P variant order each)))

-- each has two letters or digits at least
pub subtag_parts : (x : LanguageIdentifier) → IsIdentifier x → (order : List (List ℕ)) → All IsVariant order → All (IsPart 2) (subtags x order)
subtag_parts = each_subtag (IsPart 2) (λ p h. part_language p h.member) (λ p h. IsPart-less 2 4 (omega arith) p (part_script p h.member))
    (λ p h. part_region p h.member) (λ p h. IsPart-less 2 4 (omega arith) p (part_variant p h.member))
