-- How identifiers are written head first, and what a walk over pieces has left: what only private functions cite.
use Rattle.std.specs.Prelude.{ℕ, List, [], ◌++◌, codes, Option, Some, None, ◌∷◌}
use denote.Ref.{Bor}
use Rattle.icu_locale_core.specs.declared.langid.LanguageIdentifier.{LanguageIdentifier}

-- `-` and a subtag, if there is one
abbrev pub after_dash : Option (List ℕ) → List ℕ
after_dash None = []
after_dash (Some t) = codes "-" ++ t

-- the language, the script and the region
abbrev pub head : LanguageIdentifier → List ℕ
head x = (x.language ++ after_dash x.script) ++ after_dash x.region

-- a piece that was found already comes first
abbrev pub first_of : Option (Bor (List ℕ)) → List (List ℕ) → List (List ℕ)
first_of None ps = []
first_of (Some p) ps = p.now ∷ ps
