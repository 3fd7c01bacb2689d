-- What is kept of available identifiers.
use Rattle.std.specs.Prelude.{◌≡◌, ℕ, ◌<◌, Bool, true, not, List, map, Some, IsSome, Vec, length}
use Rattle.std.specs.List.{enumerate_from, filter, slice_get}
use Rattle.std.specs.Global.{Global}
use Rattle.std.specs.Str.{bytes_eq}
use Rattle.icu_locale_core.specs.TextSet.{text_cmp}
use Rattle.icu_locale_core.specs.Maps.{value_at}
use Rattle.icu_locale_core.specs.declared.langid.LanguageIdentifier.{LanguageIdentifier}
use Rattle.icu_locale.specs.LikelySubtags.{LikelySubtags}
use Rattle.icu_provider.specs.declared.matching.LanguageMatching.{LanguageMatching}
use Rattle.icu_locale_matching.specs.Distance.{is_macro, levels_for, TellsApart}
use Rattle.icu_locale_matching.specs.Nearest.{form_of, is_among, paradigms_of, unlikeliness}
use Rattle.icu_locale_matching.specs.inner.Known.{serving_of}
use Rattle.icu_locale_matching.specs.inner.Leaders.{AreLeading}
use Rattle.icu_locale_matching.specs.inner.Spelled.{AreSpelled}
use Rattle.icu_locale_matching.specs.declared.candidates.Candidate.{Candidate}
use Rattle.icu_locale_matching.specs.declared.candidates.Candidates.{Candidates}

-- an identifier with the subtags of its maximal form
abbrev pub in_form : LikelySubtags → LanguageIdentifier → LanguageIdentifier
in_form likely x = let form = form_of likely x in record {
  language = form.language;
  script = form.script;
  region = form.region;
  variants = x.variants;
}

-- what a matcher knows of an available identifier at a place
abbrev pub candidate_of : LikelySubtags → LanguageMatching → ℕ → LanguageIdentifier → Candidate
candidate_of likely t place x = let form = form_of likely x in record {
  place = place;
  form = form;
  is_macro = is_macro t.macros form.region;
  unlikeliness = unlikeliness likely form;
  off_paradigm = not (is_among (paradigms_of likely t) form);
  serving = serving_of (levels_for t form.language).region.rules form;
}

-- what it knows of each
abbrev pub candidates_of : LikelySubtags → LanguageMatching → List LanguageIdentifier
    → List Candidate
candidates_of likely t xs = map (λ p. candidate_of likely t p.0 p.1) (enumerate_from 0 xs)

-- whether a candidate has a language
abbrev pub has_language : List ℕ → Candidate → Bool
has_language l c = bytes_eq c.form.language l

-- a group has the candidates of its language, and each of the first n candidates has a group
pub record IsGrouped (forms : List Candidate) (n : ℕ) (groups : List (List ℕ × Vec Candidate Global))
    : Type 0 where
  pub group : (l : List ℕ) (g : Vec Candidate Global) → value_at text_cmp groups l ≡ Some g
      → g.items ≡ filter (has_language l) forms
  pub each : (k : ℕ) (c : Candidate) → k < n → slice_get forms k ≡ Some c
      → IsSome (value_at text_cmp groups c.form.language)

-- for each identifier what does not depend on a request is kept, by likely subtags and match rules; which of them stand
-- for others, where they are in their own spelling, and where in their maximal form
pub record IsKept (likely : LikelySubtags) (t : LanguageMatching) (c : Candidates)
    : Type 0 where
  pub forms : c.forms.items ≡ candidates_of likely t c.identifiers.items
  pub grouped : IsGrouped c.forms.items (length c.forms.items) c.groups
  pub leading : List Candidate
  pub leads : AreLeading t c.identifiers.items c.forms.items (length c.forms.items) leading
  pub leaders : IsGrouped leading (length leading) c.leaders
  pub spelled : AreSpelled c.identifiers.items 0 c.spelled
  pub formed : AreSpelled (map (in_form likely) c.identifiers.items) 0 c.formed
  pub apart : c.tells_apart ≡ true → TellsApart t
