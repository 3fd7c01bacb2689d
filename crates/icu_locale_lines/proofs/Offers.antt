-- What is available without extensions is written alike with a syntax and without.
use Rattle.std.proofs.Common.{◌≡◌, ℕ, List, [], ◌∷◌, map, Option, None, Some, refl, ap, sym, ◌∙◌}
use Rattle.std.specs.List.{slice_get}
use Rattle.std.specs.Option.{option_map, option_or}
use Rattle.std.proofs.lemmas.Option.{slice_get-map}
use Rattle.icu_locale_core.specs.Identifier.{written}
use Rattle.icu_locale_core.specs.declared.langid.LanguageIdentifier.{LanguageIdentifier}
use Rattle.icu_locale_extensions.specs.Locales as extended
use Rattle.icu_locale_extensions.specs.Built.{bare}
use Rattle.icu_locale_extensions.specs.declared.identifier.LocaleIdentifier.{LocaleIdentifier}
use Rattle.icu_locale_extensions.specs.declared.syntax.Syntax.{Syntax}
use Rattle.icu_locale_lines.specs.Lists.{listed, ids_of, IsAvailable, SpellsAll, SpellsWholes, shown_at}
use Rattle.icu_locale_lines.proofs.Alike.{SyntaxFacts, written_bare}

ids_bare : (xs : List LanguageIdentifier) → ids_of (map bare xs) ≡ xs
ids_bare [] = refl
ids_bare (x ∷ xs) = ap (λ ys. x ∷ ys) (ids_bare xs)

-- how one of them is written
shown_bare : (o : Option LanguageIdentifier) → option_or (option_map extended.written (option_map bare o)) (option_map written o) ≡ option_map written o
shown_bare None = refl
shown_bare (Some x) = ap (λ t. Some t) (written_bare x)

module _ (facts : SyntaxFacts) (s : Syntax) where
  all_bare : (texts : List (List ℕ)) (xs : List LanguageIdentifier) (ws : List LocaleIdentifier) → SpellsAll None texts xs
      → SpellsWholes s texts ws → ws ≡ map bare xs
  all_bare [] [] [] each whole = refl
  all_bare [] [] (w ∷ ws) each whole = absurd whole
  all_bare [] (x ∷ xs) ws each whole = absurd each
  all_bare (t ∷ ts) [] ws each whole = absurd each
  all_bare (t ∷ ts) (x ∷ xs) [] each whole = absurd whole
  all_bare (t ∷ ts) (x ∷ xs) (w ∷ ws) each whole =
      let spells = facts.alike s t x each.0.0 each.0.1 in
      let same : w ≡ bare x = cc (sym ((facts.spelling.read s t w).0 whole.0.1) ∙ (facts.spelling.read s t (bare x)).0 spells) in
      let others = all_bare ts xs ws each.1 whole.1 in
      λ i. same i ∷ others i

  module _ (line : List ℕ) (xs ys : List LanguageIdentifier) (ws vs : List LocaleIdentifier)
      (alone : IsAvailable None (listed line) xs ws) (whole : IsAvailable (Some s) (listed line) ys vs) where
    are_bare : vs ≡ map bare xs
    are_bare = all_bare (listed line) xs vs alone.0 whole.0

    pub offered_once : ys ≡ xs
    offered_once = whole.1 ∙ ap ids_of are_bare ∙ ids_bare xs

    pub shown_alike : (place : ℕ) → shown_at ys vs place ≡ shown_at xs ws place
    shown_alike place =
        (λ i. shown_at (offered_once i) (are_bare i) place)
        ∙ ap (λ o. option_or (option_map extended.written o) (option_map written (slice_get xs place))) (slice_get-map bare xs place)
        ∙ shown_bare (slice_get xs place)
        ∙ ap (λ l. shown_at xs l place) (sym alone.1)
