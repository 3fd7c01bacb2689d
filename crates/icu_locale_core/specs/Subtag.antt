-- The subtags of UTS #35 Part 1 (section 3.1, unicode_language_id): classes of ASCII texts, told in
-- any case, and the case that each is written in.
use Rattle.std.specs.Prelude.{◌≡◌, ℕ, Bool, false, ◌&&◌, ◌||◌, List, [], ◌∷◌, length, map, IsTrue, codes, nat_le}
use Rattle.std.specs.List.{list_all}
use Rattle.std.specs.Char.{is_ascii_alphabetic, is_ascii_digit, is_ascii_alphanumeric, to_ascii_lowercase, to_ascii_uppercase}

-- from low to high characters
abbrev pub has_length : ℕ → ℕ → List ℕ → Bool
has_length low high t = nat_le low (length t) && nat_le (length t) high

-- letters alone
abbrev pub is_alphabetic : List ℕ → Bool
is_alphabetic t = list_all is_ascii_alphabetic t

-- digits alone
abbrev pub is_numeric : List ℕ → Bool
is_numeric t = list_all is_ascii_digit t

-- letters and digits alone
abbrev pub is_alphanumeric : List ℕ → Bool
is_alphanumeric t = list_all is_ascii_alphanumeric t

-- a digit comes first
abbrev pub starts_with_digit : List ℕ → Bool
starts_with_digit [] = false
starts_with_digit (c ∷ cs) = is_ascii_digit c

-- unicode_language_subtag of 2 or 3 letters
abbrev pub is_language : List ℕ → Bool
is_language t = has_length 2 3 t && is_alphabetic t

-- unicode_script_subtag: 4 letters
abbrev pub is_script : List ℕ → Bool
is_script t = has_length 4 4 t && is_alphabetic t

-- unicode_region_subtag: 2 letters or 3 digits
abbrev pub is_region : List ℕ → Bool
is_region t = (has_length 2 2 t && is_alphabetic t) || (has_length 3 3 t && is_numeric t)

-- unicode_variant_subtag: 5 to 8 letters or digits, or a digit and then 3 of them
abbrev pub is_variant : List ℕ → Bool
is_variant t = (has_length 5 8 t || (has_length 4 4 t && starts_with_digit t)) && is_alphanumeric t

-- key of section 3.6.1: a letter or digit, then a letter
abbrev pub is_key : List ℕ → Bool
is_key (c ∷ d ∷ []) = is_ascii_alphanumeric c && is_ascii_alphabetic d
is_key t = false

-- one piece of a type of section 3.6.1: 3 to 8 letters or digits
abbrev pub is_subtag : List ℕ → Bool
is_subtag t = has_length 3 8 t && is_alphanumeric t

-- the written case of languages, variants, keys and subtags
abbrev pub lowercase : List ℕ → List ℕ
lowercase t = map to_ascii_lowercase t

-- the written case of regions
abbrev pub uppercase : List ℕ → List ℕ
uppercase t = map to_ascii_uppercase t

-- the written case of scripts: the first letter upper, the others lower
abbrev pub titlecase : List ℕ → List ℕ
titlecase [] = []
titlecase (c ∷ cs) = to_ascii_uppercase c ∷ lowercase cs

-- a member of a class in its written case
pub record IsWritten (is_member : List ℕ → Bool) (written_case : List ℕ → List ℕ) (t : List ℕ)
    : Type 0 where
  pub member : IsTrue (is_member t)
  pub written : written_case t ≡ t

-- a language in its written case
abbrev pub IsLanguage : List ℕ → Type 0
IsLanguage t = IsWritten is_language lowercase t

-- the language that stands for none that is known
abbrev pub und : List ℕ
und = codes "und"

-- the script that stands for none that is known
abbrev pub unknown_script : List ℕ
unknown_script = codes "Zzzz"

-- the region that stands for none that is known
abbrev pub unknown_region : List ℕ
unknown_region = codes "ZZ"

-- the key of a region override, section 3.6.1
abbrev pub rg : List ℕ
rg = codes "rg"

-- the key of a subdivision, section 3.6.1
abbrev pub sd : List ℕ
sd = codes "sd"

-- a script in its written case
abbrev pub IsScript : List ℕ → Type 0
IsScript t = IsWritten is_script titlecase t

-- a region in its written case
abbrev pub IsRegion : List ℕ → Type 0
IsRegion t = IsWritten is_region uppercase t

-- a variant in its written case
abbrev pub IsVariant : List ℕ → Type 0
IsVariant t = IsWritten is_variant lowercase t

-- a key in its written case
abbrev pub IsKey : List ℕ → Type 0
IsKey t = IsWritten is_key lowercase t

-- a piece of a value in its written case
abbrev pub IsSubtag : List ℕ → Type 0
IsSubtag t = IsWritten is_subtag lowercase t
