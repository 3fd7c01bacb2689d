-- What the standard says of a code (UTS #35 Part 1, section 3.11, Validity Data).
use Rattle.std.specs.Prelude.{ℕ, Bool, true, false, List, codes, Option, Some, None}
use Rattle.icu_locale_validity.specs.declared.table.Status.{Status}
use Rattle.icu_locale_validity.specs.declared.table.Status.TheVariants.{Regular, Special, Macroregion, Unknown, PrivateUse, Deprecated, Reserved}

-- a code that may be used: no code that should not be used, and none that is kept for later
abbrev pub is_usable : Status → Bool
is_usable Regular = true
is_usable Special = true
is_usable Macroregion = true
is_usable Unknown = true
is_usable PrivateUse = true
is_usable Deprecated = false
is_usable Reserved = false

-- a code is valid where it is listed and may be used
abbrev pub is_valid_status : Option Status → Bool
is_valid_status None = false
is_valid_status (Some status) = is_usable status

-- the word of a status: CLDR's `idStatus`
abbrev pub status_word : Status → List ℕ
status_word Regular = codes "regular"
status_word Special = codes "special"
status_word Macroregion = codes "macroregion"
status_word Unknown = codes "unknown"
status_word PrivateUse = codes "private_use"
status_word Deprecated = codes "deprecated"
status_word Reserved = codes "reserved"

-- the word of a status, and of a code that is not listed
abbrev pub listed_word : Option Status → List ℕ
listed_word None = codes "unlisted"
listed_word (Some status) = status_word status
