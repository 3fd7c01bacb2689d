-- Finitely many identifiers among which the run of an identifier and the run of its keys stay: what only proofs cite.
use Rattle.std.specs.Prelude.{ℕ, List, [], ◌∷◌, ◌++◌, map, Option, Some, None}
use Rattle.std.specs.List.{flat_map}
use Rattle.icu_locale_core.specs.TextSet.{from_list, rising}
use Rattle.icu_locale_core.specs.declared.langid.LanguageIdentifier.{LanguageIdentifier}
use Rattle.icu_locale.specs.LikelySubtags.{LikelySubtags, Triple}
use Rattle.icu_locale.specs.LikelyTable.{likely}
use Rattle.icu_locale.specs.TableKeys.{table_keys}
use Rattle.icu_locale.specs.declared.expander.LocaleExpander.{LocaleExpander}
use Rattle.icu_locale.specs.declared.expander.looks.LikelyKey.{LikelyKey}
use Rattle.icu_locale.specs.declared.canonicalizer.rules.Rules.{Rules}

-- the text of a subtag, if it is there
abbrev pub text_of : Option (List ℕ) → List (List ℕ)
text_of None = []
text_of (Some t) = t ∷ []

-- the texts of an identifier
abbrev pub texts_of : LanguageIdentifier → List (List ℕ)
texts_of x = x.language ∷ (text_of x.script ++ (text_of x.region ++ rising x.variants))

-- what rules put in the place of parts, kind by kind
abbrev pub texts_by_kind : Rules → List (List (List ℕ))
texts_by_kind rules =
    (flat_map (λ r. texts_of r.replacement) rules.language) ∷
    (flat_map (λ r. texts_of r.replacement) rules.language_variants) ∷
    (map (λ row. row.1) rules.aliases.sgn_region) ∷
    (flat_map (λ row. texts_of row.1) rules.language_len2) ∷
    (flat_map (λ row. texts_of row.1) rules.language_len3) ∷
    (map (λ row. row.1) rules.aliases.script) ∷
    (map (λ row. row.1) rules.aliases.region_alpha) ∷
    (map (λ row. row.1) rules.aliases.region_num) ∷
    (flat_map (λ row. row.1.items) rules.aliases.complex_region) ∷
    (map (λ row. row.1) rules.aliases.variant) ∷ []

-- all of these
unfoldable pub rule_texts : Rules → List (List ℕ)
rule_texts rules = flat_map (λ ts. ts) (texts_by_kind rules)

-- the texts of a triple, if it is there
abbrev pub triple_texts : Option Triple → List (List ℕ)
triple_texts None = []
triple_texts (Some t) = t.0 ∷ t.1 ∷ t.2 ∷ []

-- the texts that a table has at these keys
abbrev pub table_texts : LikelySubtags → List LikelyKey → List (List ℕ)
table_texts table keys = flat_map (λ k. triple_texts (table k)) keys

-- the lists that have some of the texts, in their order
abbrev pub sublists : List (List ℕ) → List (List (List ℕ))
sublists [] = [] ∷ []
sublists (t ∷ ts) = sublists ts ++ map (λ us. t ∷ us) (sublists ts)

-- a subtag that is one of the texts, or none
abbrev pub options : List (List ℕ) → List (Option (List ℕ))
options ts = None ∷ map (λ t. Some t) ts

-- the identifiers whose subtags are among the texts
unfoldable pub identifiers_of : List (List ℕ) → List LanguageIdentifier
identifiers_of ts =
    flat_map (λ l. flat_map (λ s. flat_map (λ r.
    map (λ us. record { language = l; script = s; region = r; variants = from_list us })
    (sublists ts)) (options ts)) (options ts)) ts

-- the identifiers whose subtags are those of x, or those that rules put in
abbrev pub run_universe : Rules → LanguageIdentifier → List LanguageIdentifier
run_universe rules x = identifiers_of (texts_of x ++ rule_texts rules)

-- the same, and those that the tables of an expander fill in
abbrev pub key_universe : LocaleExpander → Rules → LanguageIdentifier
    → List LanguageIdentifier
key_universe e rules x =
    identifiers_of (texts_of x ++ (rule_texts rules ++ table_texts (likely e) (table_keys e)))
