-- Locale fallback: the locale that is asked after another (UTS #35 Part 1, section 4.2, Inheritance and Validity: bundle
-- inheritance, with Parent Locales).
use Rattle.std.specs.Prelude.{ℕ, Bool, ◌&&◌, not, List, Option, Some, None, is_some, if◌then◌else◌}
use Rattle.std.specs.Option.{option_eq, unwrap_or}
use Rattle.std.specs.Str.{bytes_eq}
use Rattle.icu_locale_core.specs.Subtag.{und}
use Rattle.icu_provider.specs.declared.data_locale.DataLocale.{DataLocale}
use Rattle.icu_locale.specs.LikelySubtags.{LikelySubtags, bare_locale, maximal_locale}
use Rattle.icu_locale.specs.Locales.{locale_with, same_locale}
use Rattle.icu_locale_fallback.specs.declared.fallbacker.LocaleFallbackPriority.{LocaleFallbackPriority}
use Rattle.icu_locale_fallback.specs.declared.fallbacker.LocaleFallbackPriority.TheVariants.{Language, Script, Region}

-- explicit parents: a locale has at most one (section 4.2, Parent Locales)
abbrev pub Parents : Type 0
Parents = DataLocale → Option DataLocale

-- what a chain goes by
pub record Inheritance : Type 0 where
  pub priority : LocaleFallbackPriority
  pub likely : LikelySubtags
  pub parents : Parents

-- the root, which every locale inherits from (section 4.2, Inheritance and Validity)
abbrev pub root : DataLocale
root = locale_with und None None

-- the script that a locale is written in: that of its maximal form (section 4.3, Likely Subtags)
abbrev pub script_of : LikelySubtags → DataLocale → Option (List ℕ)
script_of likely x = (maximal_locale likely x).script

-- the script away
abbrev pub without_script : DataLocale → DataLocale
without_script x = locale_with x.language None x.region

-- the region away
abbrev pub without_region : DataLocale → DataLocale
without_region x = locale_with x.language x.script None

-- the script is the one that the language and the region imply
abbrev pub has_implied_script : LikelySubtags → DataLocale → Bool
has_implied_script likely x = option_eq bytes_eq (script_of likely (without_script x)) x.script

-- a script that the language and the region imply is left out
abbrev pub without_implied : LikelySubtags → DataLocale → DataLocale
without_implied likely x = if has_implied_script likely x then without_script x else x

-- a region that is not there is filled in from the maximal form
abbrev pub with_region : LikelySubtags → DataLocale → DataLocale
with_region likely x = locale_with x.language x.script (maximal_locale likely x).region

-- the first locale of a chain: no script `Zzzz`, no region `ZZ`, no script that is implied; by region with the region
abbrev pub normal : LocaleFallbackPriority → LikelySubtags → DataLocale → DataLocale
normal Language likely x = without_implied likely (bare_locale x)
normal Script likely x = without_implied likely (bare_locale x)
normal Region likely x = without_implied likely (bare_locale (with_region likely x))

-- no script is there, and without its region the language would be of another script
abbrev pub depends_on_region : LikelySubtags → DataLocale → Bool
depends_on_region likely x = not (is_some x.script) && (not (bytes_eq x.language und)
    && not (option_eq bytes_eq (script_of likely (without_region x)) (script_of likely x)))

-- the region away, but first the script put in where it depends on the region
abbrev pub above_region : LikelySubtags → DataLocale → DataLocale
above_region likely x =
    if depends_on_region likely x then locale_with x.language (script_of likely x) x.region
    else without_region x

-- the script alone
abbrev pub script_alone : LikelySubtags → DataLocale → DataLocale
script_alone likely x = locale_with und (script_of likely x) None

-- a script is there, and it is the one that the language and the region imply
abbrev pub has_likely_script : LikelySubtags → DataLocale → Bool
has_likely_script likely x = is_some x.script && has_implied_script likely x

-- truncation by language: the region away, then a script that the language implies, and then the language, which takes
-- another script with it
abbrev pub truncated_by_language : LikelySubtags → DataLocale → DataLocale
truncated_by_language likely x =
    if is_some x.region then above_region likely x
    else (if has_likely_script likely x then without_script x else root)

-- by script: so too, but the language leaves its script, which goes last
abbrev pub truncated_by_script : LikelySubtags → DataLocale → DataLocale
truncated_by_script likely x =
    if bytes_eq x.language und then (if is_some x.region then script_alone likely x else root)
    else (if is_some x.region then above_region likely x
    else (if has_likely_script likely x then without_script x else script_alone likely x))

-- by region: the language with the script away, and then the region
abbrev pub truncated_by_region : DataLocale → DataLocale
truncated_by_region x =
    if bytes_eq x.language und && not (is_some x.script) then root else locale_with und None x.region

-- truncation by what a chain keeps longest (section 4.2, Inheritance and Validity)
abbrev pub truncated : LocaleFallbackPriority → LikelySubtags → DataLocale → DataLocale
truncated Language likely x = truncated_by_language likely x
truncated Script likely x = truncated_by_script likely x
truncated Region likely x = truncated_by_region x

-- an explicit parent counts, but not by region
abbrev pub counted : LocaleFallbackPriority → Option DataLocale → Option DataLocale
counted Language parent = parent
counted Script parent = parent
counted Region parent = None

-- the explicit parent of a locale, if there is one that counts
abbrev pub explicit_parent : Inheritance → DataLocale → Option DataLocale
explicit_parent by x = counted by.priority (by.parents x)

-- what follows a locale: nothing the root, else the explicit parent, else the truncation (section 4.2, Parent Locales)
abbrev pub next : Inheritance → DataLocale → Option DataLocale
next by x =
    if same_locale x root then None
    else Some (unwrap_or (explicit_parent by x) (truncated by.priority by.likely x))

-- the locale under which a table keeps what is said of x: the normal form, and where that has no script and depends on the
-- region for it, with the script
abbrev pub data_key : LikelySubtags → DataLocale → DataLocale
data_key likely x = let n = normal Language likely x in
    if depends_on_region likely n then locale_with n.language (script_of likely n) n.region else n
