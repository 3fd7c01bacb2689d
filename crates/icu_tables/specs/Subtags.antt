-- Subtags in JSON: as values in any case, as keys in written form alone.
use Rattle.std.specs.Prelude.{ℕ, Bool, ◌==◌, List, length, nat_eq, nat_lt, if◌then◌else◌, Option, Some, None, option_and_then}
use Rattle.std.specs.Cmp.Lexicographic.{pointwise}
use Rattle.std.specs.List.{position_or_len, before_first, after_first}
use Rattle.icu_locale_core.specs.Subtag.{is_language, is_script, is_region, is_variant, is_subtag, lowercase, titlecase, uppercase}
use Rattle.icu_tables.specs.Shape.{Shape, both, text_as}

-- the written form of a text of a class, in any case
abbrev pub in_class : (List ℕ → Bool) → (List ℕ → List ℕ) → List ℕ → Option (List ℕ)
in_class is_member written_case t = if is_member t then Some (written_case t) else None

-- a text as a language
abbrev pub read_language : List ℕ → Option (List ℕ)
read_language t = in_class is_language lowercase t

-- a text as a script
abbrev pub read_script : List ℕ → Option (List ℕ)
read_script t = in_class is_script titlecase t

-- a text as a region
abbrev pub read_region : List ℕ → Option (List ℕ)
read_region t = in_class is_region uppercase t

-- a text as a variant
abbrev pub read_variant : List ℕ → Option (List ℕ)
read_variant t = in_class is_variant lowercase t

-- a text as a subtag
abbrev pub read_subtag : List ℕ → Option (List ℕ)
read_subtag t = in_class is_subtag lowercase t

-- a language as a value
abbrev pub language : Shape (List ℕ)
language = text_as read_language

-- a script as a value
abbrev pub script : Shape (List ℕ)
script = text_as read_script

-- a region as a value
abbrev pub region : Shape (List ℕ)
region = text_as read_region

-- a variant as a value
abbrev pub variant : Shape (List ℕ)
variant = text_as read_variant

-- x, where t is its written form
abbrev pub if_written : {A : Type 0} → (A → List ℕ) → List ℕ → A → Option A
if_written written t x = if pointwise nat_eq (written x) t then Some x else None

-- what a text is read as, where it is in written form
abbrev pub key_of : {A : Type 0} → (A → List ℕ) → (List ℕ → Option A) → List ℕ → Option A
key_of written reads t = option_and_then (if_written written t) (reads t)

-- a language as a key
abbrev pub language_key : List ℕ → Option (List ℕ)
language_key = key_of (λ x. x) read_language

-- a script as a key
abbrev pub script_key : List ℕ → Option (List ℕ)
script_key = key_of (λ x. x) read_script

-- a region as a key
abbrev pub region_key : List ℕ → Option (List ℕ)
region_key = key_of (λ x. x) read_region

-- a variant as a key
abbrev pub variant_key : List ℕ → Option (List ℕ)
variant_key = key_of (λ x. x) read_variant

-- a subtag as a key
abbrev pub subtag_key : List ℕ → Option (List ℕ)
subtag_key = key_of (λ x. x) read_subtag

-- `-`, which is 45
abbrev pub is_dash : ℕ → Bool
is_dash c = c == 45

-- there is a `-` in a text
abbrev pub has_dash : List ℕ → Bool
has_dash t = nat_lt (position_or_len is_dash t) (length t)

-- what is before the first `-` of a text, and what is after it
abbrev pub cut_at_dash : List ℕ → Option (List ℕ × List ℕ)
cut_at_dash t =
    if has_dash t then Some (before_first is_dash t, after_first is_dash t) else None

-- a key of two subtags: two keys with one `-` between them
abbrev pub key_pair : {A B : Type 0} → (List ℕ → Option A) → (List ℕ → Option B)
    → List ℕ → Option (A × B)
key_pair first second t =
    option_and_then (λ cut. both (first cut.0) (second cut.1)) (cut_at_dash t)
