-- What is served in the script that was asked for.
use Rattle.std.specs.Prelude.{◌≡◌, Bool, true, List, Some}
use Rattle.std.specs.List.{slice_get}
use Rattle.std.specs.Option.{option_eq}
use Rattle.std.specs.Str.{bytes_eq}
use Rattle.icu_locale_core.specs.declared.langid.LanguageIdentifier.{LanguageIdentifier}
use Rattle.icu_locale.specs.LikelySubtags.{LikelySubtags}
use Rattle.icu_locale_matching.specs.Nearest.{form_of, identifiers_of}
use Rattle.icu_locale_matching.specs.declared.candidates.Candidates.{Candidates}
use Rattle.icu_locale_matching.specs.declared.matcher.Match.{Match}

-- the maximal forms of two identifiers have one script
abbrev pub have_one_script : LikelySubtags → LanguageIdentifier → LanguageIdentifier → Bool
have_one_script likely x y = option_eq bytes_eq (form_of likely x).script (form_of likely y).script

-- a match serves a request by an identifier of its script
pub record IsInItsScript (likely : LikelySubtags) (requests : List LanguageIdentifier)
    (candidates : Candidates) (m : Match) : Type 0 where
  pub request : LanguageIdentifier
  pub identifier : LanguageIdentifier
  pub requested : slice_get requests m.request ≡ Some request
  pub offered : slice_get (identifiers_of candidates) m.available ≡ Some identifier
  pub same : have_one_script likely request identifier ≡ true
