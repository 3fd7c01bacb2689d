-- Finitely many states among which a run stays: what only proofs cite.
use Rattle.std.specs.Prelude.{ℕ, List, [], ◌∷◌, ◌++◌, map, Some, None}
use Rattle.std.specs.List.{flat_map}
use Rattle.std.specs.FinMap as fin
use Rattle.icu_locale_core.specs.Subtag.{und}
use Rattle.icu_locale_core.specs.TextSet.{TextSet, empty, from_list, rising}
use Rattle.icu_locale_core.specs.declared.langid.LanguageIdentifier.{LanguageIdentifier}
use Rattle.icu_locale.specs.Rules.{of_language}
use Rattle.icu_locale.specs.declared.canonicalizer.rules.Rules.{Rules}

-- all sets of texts of a list
abbrev pub subsets : List (List ℕ) → List TextSet
subsets [] = empty ∷ []
subsets (t ∷ ts) = subsets ts ++ map (λ s. fin.insert s t tt) (subsets ts)

-- the identifier of a script alone
abbrev pub of_script : List ℕ → LanguageIdentifier
of_script s = record { language = und; script = Some s; region = None; variants = empty }

-- the identifier of a region alone
abbrev pub of_region : List ℕ → LanguageIdentifier
of_region r = record { language = und; script = None; region = Some r; variants = empty }

-- the identifier of a variant alone
abbrev pub of_variant : List ℕ → LanguageIdentifier
of_variant v =
    record { language = und; script = None; region = None; variants = from_list (v ∷ []) }

-- x, and identifiers that hold what the rules put in the place of parts, kind by kind
abbrev pub parts_by_kind : Rules → LanguageIdentifier → List (List LanguageIdentifier)
parts_by_kind rules x =
    (x ∷ []) ∷
    (map (λ r. r.replacement) rules.language) ∷
    (map (λ r. r.replacement) rules.language_variants) ∷
    (map (λ row. of_language row.1) rules.aliases.sgn_region) ∷
    (map (λ row. row.1) rules.language_len2) ∷
    (map (λ row. row.1) rules.language_len3) ∷
    (map (λ row. of_script row.1) rules.aliases.script) ∷
    (map (λ row. of_region row.1) rules.aliases.region_alpha) ∷
    (map (λ row. of_region row.1) rules.aliases.region_num) ∷
    (flat_map (λ row. map of_region row.1.items) rules.aliases.complex_region) ∷
    (map (λ row. of_variant row.1) rules.aliases.variant) ∷ []

-- all of these
unfoldable pub parts : Rules → LanguageIdentifier → List LanguageIdentifier
parts rules x = flat_map (λ ps. ps) (parts_by_kind rules x)

-- the identifiers whose language, script and region are those of parts, or none, and whose variants are of those of parts
unfoldable pub mixtures_of : List LanguageIdentifier → List LanguageIdentifier
mixtures_of ps =
    flat_map (λ l. flat_map (λ s. flat_map (λ r.
    map (λ vs. record { language = l; script = s; region = r; variants = vs })
    (subsets (flat_map (λ p. rising p.variants) ps)))
    (None ∷ map (λ p. p.region) ps))
    (None ∷ map (λ p. p.script) ps))
    (map (λ p. p.language) ps)

-- the identifiers made of x and of what the rules put in the place of parts
abbrev pub universe : Rules → LanguageIdentifier → List LanguageIdentifier
universe rules x = mixtures_of (parts rules x)

-- a value, and those of the rows
abbrev pub values : Rules → List (List ℕ) → List (List (List ℕ))
values rules v = v ∷ map (λ row. row.1) rules.subdivision
