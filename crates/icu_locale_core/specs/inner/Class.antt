-- The classes of subtags behind one name each.
use Rattle.std.specs.Prelude.{ℕ, Bool, false, List, zero, Option, Some, None}
use Rattle.std.specs.Char.{is_ascii_alphabetic, is_ascii_digit, is_ascii_alphanumeric, to_ascii_lowercase, to_ascii_uppercase}
use Rattle.std.specs.List.{list_all}
use Rattle.icu_locale_core.specs.Subtag.{is_language, is_script, is_region, is_variant, is_key, is_subtag, lowercase, titlecase, uppercase}
use Rattle.icu_locale_core.specs.declared.classes.Class.{Class}
use Rattle.icu_locale_core.specs.declared.classes.Class.TheVariants.{Language, Script, Region, Variant, Key, Subtag}
use Rattle.icu_locale_core.specs.declared.classes.Characters.{Characters}
use Rattle.icu_locale_core.specs.declared.classes.Characters.TheVariants.{Letters, Digits, LettersAndDigits}

-- whether a text belongs to a class
abbrev pub is_member : Class → List ℕ → Bool
is_member Language t = is_language t
is_member Script t = is_script t
is_member Region t = is_region t
is_member Variant t = is_variant t
is_member Key t = is_key t
is_member Subtag t = is_subtag t

-- a text in the written case of a class
abbrev pub written_case : Class → List ℕ → List ℕ
written_case Language t = lowercase t
written_case Script t = titlecase t
written_case Region t = uppercase t
written_case Variant t = lowercase t
written_case Key t = lowercase t
written_case Subtag t = lowercase t

-- how many characters a member has at most
abbrev pub longest : Class → ℕ
longest Language = 3
longest Script = 4
longest Region = 3
longest Variant = 8
longest Key = 2
longest Subtag = 8

-- one character of it, at its place
abbrev pub written_byte : Class → ℕ → ℕ → ℕ
written_byte Script zero c = to_ascii_uppercase c
written_byte Region place c = to_ascii_uppercase c
written_byte class place c = to_ascii_lowercase c

-- whether a character is of a kind
abbrev pub is_character : Characters → ℕ → Bool
is_character Letters c = is_ascii_alphabetic c
is_character Digits c = is_ascii_digit c
is_character LettersAndDigits c = is_ascii_alphanumeric c

-- every character of a text is of a kind, if there is one
abbrev pub consists_of : Option Characters → List ℕ → Bool
consists_of None t = false
consists_of (Some kind) t = list_all (is_character kind) t
