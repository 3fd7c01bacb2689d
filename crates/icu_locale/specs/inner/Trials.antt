-- How a minimal form is found: what only the expander's own functions cite.
use Rattle.std.specs.Prelude.{ℕ, Bool, ◌&&◌, ◌||◌, not, false, List, Option, Some, None, is_some, ◌≡◌, [], ◌∷◌, if◌then◌else◌}
use Rattle.std.specs.Str.{bytes_eq}
use Rattle.icu_locale_core.specs.Subtag.{und}
use Rattle.icu_provider.specs.declared.data_locale.DataLocale.{DataLocale}
use Rattle.icu_locale.specs.LikelySubtags.{Triple, unknown_script, unknown_region, LikelySubtags, maximal_locale}
use Rattle.icu_locale.specs.Locales.{same_locale}
use Rattle.icu_locale.specs.declared.expander.Favor.{Favor}
use Rattle.icu_locale.specs.declared.expander.Favor.TheVariants.{RegionFirst, ScriptFirst}

-- a subtag that stands for none
abbrev pub is_unknown : List ℕ → Option (List ℕ) → Bool
is_unknown unknown None = false
is_unknown unknown (Some t) = bytes_eq t unknown

-- a script or a region that stands for none is taken out
abbrev pub loses : Option (List ℕ) → Option (List ℕ) → Bool
loses script region = is_unknown unknown_script script || is_unknown unknown_region region

-- a triple fills in a subtag that was not there, or another language than `und`
abbrev pub gains : DataLocale → Triple → Bool
gains x t = (bytes_eq x.language und && not (bytes_eq t.0 und))
    || (not (is_some x.script) || not (is_some x.region))

-- the language alone
abbrev pub alone : DataLocale → DataLocale
alone m = record { language = m.language; script = None; region = None }

-- the language and the favored subtag
abbrev pub with_favored : Favor → DataLocale → DataLocale
with_favored RegionFirst m = record { language = m.language; script = None; region = m.region }
with_favored ScriptFirst m = record { language = m.language; script = m.script; region = None }

-- the language and the other subtag
abbrev pub with_other : Favor → DataLocale → DataLocale
with_other RegionFirst m = with_favored ScriptFirst m
with_other ScriptFirst m = with_favored RegionFirst m

-- the first trial whose maximal form is m, or m
abbrev pub first_trial : LikelySubtags → DataLocale → List DataLocale → DataLocale
first_trial likely m [] = m
first_trial likely m (t ∷ ts) =
    if same_locale (maximal_locale likely t) m then t else first_trial likely m ts

-- the three trials over a maximal form
abbrev pub trials : Favor → DataLocale → List DataLocale
trials favor m = alone m ∷ with_favored favor m ∷ with_other favor m ∷ []

-- y is the first of the three trials that leads to the maximal form m, or m
abbrev pub IsTried : LikelySubtags → Favor → DataLocale → DataLocale → Type 0
IsTried likely favor m y = y ≡ first_trial likely m (trials favor m)

-- a row that there may be gives the script
abbrev pub gives_script : Option Triple → List ℕ → Bool
gives_script None s = false
gives_script (Some t) s = bytes_eq t.1 s

-- it gives the region
abbrev pub gives_region : Option Triple → List ℕ → Bool
gives_region None r = false
gives_region (Some t) r = bytes_eq t.2 r

-- it gives both
abbrev pub gives : Option Triple → List ℕ → List ℕ → Bool
gives None s r = false
gives (Some t) s r = bytes_eq t.1 s && bytes_eq t.2 r

-- the row of the language alone gives the region r and the script that comes with it: by the row of
-- language and region, if there is one
abbrev pub drops_region : Option Triple → Option Triple → List ℕ → Bool
drops_region None own r = false
drops_region (Some t) None r = bytes_eq t.2 r
drops_region (Some t) (Some o) r = bytes_eq t.2 r && bytes_eq o.1 t.1

-- it gives the script s and the region that comes with it
abbrev pub drops_script : Option Triple → Option Triple → List ℕ → Bool
drops_script None own s = false
drops_script (Some t) None s = bytes_eq t.1 s
drops_script (Some t) (Some o) s = bytes_eq t.1 s && bytes_eq o.2 t.2
