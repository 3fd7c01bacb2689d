-- What a list of available identifiers was made over.
use Rattle.icu_locale.specs.LikelySubtags.{LikelySubtags}
use Rattle.icu_provider.specs.declared.matching.LanguageMatching.{LanguageMatching}
use Rattle.icu_locale_matching.specs.inner.Made.{IsKept}
use Rattle.icu_locale_matching.specs.declared.candidates.Candidates.{Candidates}

-- a list was made over a likely table and match rules; what it keeps for that no caller needs to know
abbrev pub IsMadeOver : LikelySubtags → LanguageMatching → Candidates → Type 0
IsMadeOver = IsKept
