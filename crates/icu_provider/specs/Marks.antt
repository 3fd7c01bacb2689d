-- The marks of keys of names.
use Rattle.std.specs.Prelude.{ℕ, ◌+◌, ◌*◌, ◌%◌, ◌^◌, List, Option, Some, None}
use Rattle.std.specs.Int.Digits.{number_from_digits}
use Rattle.icu_locale_core.specs.Numbers.{padded}
use Rattle.icu_provider.specs.declared.names.NameKey.{NameKey}
use Rattle.icu_provider.specs.declared.names.NameKey.TheVariants.{Language, Script, Region, Variant}

-- the number that a text writes in base 256, with zeros after it up to n bytes
abbrev pub text_number : ℕ → List ℕ → ℕ
text_number n t = number_from_digits 256 (padded n t)

-- that of a text of at most four bytes, and 0 where there is none
abbrev pub number_if_any : Option (List ℕ) → ℕ
number_if_any None = 0
number_if_any (Some t) = text_number 4 t

-- two numbers as one, in 64 bits
abbrev pub mixed : ℕ → ℕ → ℕ
mixed a b = (a * 31 % 2 ^ 64 + b) % 2 ^ 64

-- the mark of a key of names: its texts as one number
abbrev pub name_mark : NameKey → ℕ
name_mark (Language language script region) =
    mixed (mixed (text_number 4 language) (number_if_any script)) (number_if_any region)
name_mark (Script script) = text_number 4 script
name_mark (Region region) = text_number 4 region
name_mark (Variant variant) = text_number 8 variant
