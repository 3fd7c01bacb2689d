-- The first hit of one flat list of requests is the first hit of chains within a chain.
use Rattle.std.proofs.Common.{◌≡◌, ◌∙◌, refl, sym, ap, Bool, true, false, if◌then◌else◌, List, [], ◌∷◌, ◌++◌, map, Result, Ok, Err}
use Rattle.std.specs.List.{flat_map}
use Rattle.icu_locale_core.specs.declared.langid.LanguageIdentifier.{LanguageIdentifier}
use Rattle.icu_provider.specs.declared.data_locale.DataLocale.{DataLocale}
use Rattle.icu_provider.specs.declared.error.DataError.{DataError}
use Rattle.icu_provider.specs.declared.essentials.LocaleNamesEssentials.{LocaleNamesEssentials}
use Rattle.icu_provider.specs.declared.names.NameKey.TheVariants.{Language}
use Rattle.icu_locale_names.specs.Chains.{is_missing, or_next, first_hit, made_of, if_missing}
use Rattle.icu_locale_names.specs.LanguageChains.{LanguageChain}
use Rattle.icu_locale_names.specs.LanguageNames.{KeyParts, in_menu, in_text, in_locale, texts_for, keys_of, menu_base, text_base, raw_base, base_by, base_of}
use Rattle.icu_locale_names.specs.Names.{Answers, MenuAnswers, menu_by}
use Rattle.icu_locale_names.specs.declared.options.LanguageDisplay.{LanguageDisplay}
use Rattle.icu_locale_names.specs.inner.LanguageParts.{key_with, key_asked, keys_asked, base_asked}

-- by whether a refusal is IdentifierNotFound
by_missing : (e : DataError) (C : Type 0) → (is_missing e.kind ≡ true → C) → (is_missing e.kind ≡ false → C) → C
by_missing e C missing other = (elim (is_missing e.kind) as (λ v. is_missing e.kind ≡ v → C) [ true ↦ missing | false ↦ other ]) refl

next_of_missing : {A : Type 0} (e : DataError) (b : Result A DataError) → is_missing e.kind ≡ true → or_next (Err e) b ≡ b
next_of_missing e b is = ap (λ v. if v then b else Err e) is

next_of_other : {A : Type 0} (e : DataError) (b : Result A DataError) → is_missing e.kind ≡ false → or_next (Err e) b ≡ Err e
next_of_other e b is = ap (λ v. if v then b else Err e) is

or_next-assoc : {A : Type 0} (a b c : Result A DataError) → or_next a (or_next b c) ≡ or_next (or_next a b) c
or_next-assoc (Ok found) b c = refl
or_next-assoc (Err e) b c =
    by_missing e (or_next (Err e) (or_next b c) ≡ or_next (or_next (Err e) b) c)
    (λ is. next_of_missing e (or_next b c) is ∙ sym (ap (λ r. or_next r c) (next_of_missing e b is)))
    (λ is. next_of_other e (or_next b c) is ∙ sym (ap (λ r. or_next r c) (next_of_other e b is) ∙ next_of_other e c is))

or_next-made_of : {A B : Type 0} (f : A → B) (a b : Result A DataError) → made_of f (or_next a b) ≡ or_next (made_of f a) (made_of f b)
or_next-made_of f (Ok found) b = refl
or_next-made_of f (Err e) b =
    by_missing e (made_of f (or_next (Err e) b) ≡ or_next (Err e) (made_of f b))
    (λ is. ap (made_of f) (next_of_missing e b is) ∙ sym (next_of_missing e (made_of f b) is))
    (λ is. ap (made_of f) (next_of_other e b is) ∙ sym (next_of_other e (made_of f b) is))

first_hit-append : {Q A : Type 0} (ask : Q → Result A DataError) (xs ys : List Q) → first_hit ask (xs ++ ys) ≡ or_next (first_hit ask xs) (first_hit ask ys)
first_hit-append ask [] ys = refl
first_hit-append ask (x ∷ xs) ys = ap (or_next (ask x)) (first_hit-append ask xs ys) ∙ or_next-assoc (ask x) (first_hit ask xs) (first_hit ask ys)

first_hit-map : {Q R A : Type 0} (ask : R → Result A DataError) (f : Q → R) (xs : List Q) → first_hit ask (map f xs) ≡ first_hit (λ x. ask (f x)) xs
first_hit-map ask f [] = refl
first_hit-map ask f (x ∷ xs) = ap (or_next (ask (f x))) (first_hit-map ask f xs)

first_hit-made_of : {Q A B : Type 0} (f : A → B) (ask : Q → Result A DataError) (xs : List Q)
    → first_hit (λ x. made_of f (ask x)) xs ≡ made_of f (first_hit ask xs)
first_hit-made_of f ask [] = refl
first_hit-made_of f ask (x ∷ xs) = ap (or_next (made_of f (ask x))) (first_hit-made_of f ask xs) ∙ sym (or_next-made_of f (ask x) (first_hit ask xs))

first_hit-flat_map : {Q R A : Type 0} (ask : R → Result A DataError) (f : Q → List R) (xs : List Q)
    → first_hit ask (flat_map f xs) ≡ first_hit (λ x. first_hit ask (f x)) xs
first_hit-flat_map ask f [] = refl
first_hit-flat_map ask f (x ∷ xs) = first_hit-append ask (f x) (flat_map f xs) ∙ ap (or_next (first_hit ask (f x))) (first_hit-flat_map ask f xs)

first_hit-same : {Q A : Type 0} (ask other : Q → Result A DataError) → ((x : Q) → ask x ≡ other x) → (xs : List Q) → first_hit ask xs ≡ first_hit other xs
first_hit-same ask other same [] = refl
first_hit-same ask other same (x ∷ xs) = ap (λ r. or_next r (first_hit ask xs)) (same x) ∙ ap (or_next (other x)) (first_hit-same ask other same xs)

module _ (name : Answers) (menu : MenuAnswers) (essentials : DataLocale → Result LocaleNamesEssentials DataError) (locale : DataLocale)
    (chain : LanguageChain) (x : LanguageIdentifier) where
  -- the menus in a flat list
  menus_flat : first_hit (base_by (in_locale name menu essentials locale) x) (map (λ marker. in_menu marker) chain.menu) ≡ made_of
      (menu_base x) (menu_by menu locale x.language chain.menu)
  menus_flat =
      first_hit-map (base_by (in_locale name menu essentials locale) x) (λ marker. in_menu marker) chain.menu
      ∙ first_hit-made_of (menu_base x) (λ marker. menu marker locale x.language) chain.menu

  -- one key's chain in a flat list
  key_flat : (key : KeyParts) → first_hit (base_by (in_locale name menu essentials locale) x) (texts_for chain key) ≡ key_asked name locale chain.text x key
  key_flat key =
      first_hit-map (base_by (in_locale name menu essentials locale) x) (λ marker. in_text marker key) chain.text
      ∙ first_hit-made_of (text_base x key) (λ marker. name marker locale (Language x.language key.0 key.1)) chain.text

  -- all keys' chains in a flat list
  keys_flat : (keys : List KeyParts) → first_hit (base_by (in_locale name menu essentials locale) x)
      (flat_map (texts_for chain) keys) ≡ first_hit (key_asked name locale chain.text x) keys
  keys_flat keys =
      first_hit-flat_map (base_by (in_locale name menu essentials locale) x) (texts_for chain) keys
      ∙ first_hit-same (λ key. first_hit (base_by (in_locale name menu essentials locale) x) (texts_for chain key))
      (key_asked name locale chain.text x) key_flat keys

  -- what is asked step by step is the base
  pub base_asked_is_base : (display : LanguageDisplay) (keys : List (Bool × Bool)) → map (key_with x) keys ≡ keys_of chain display x
      → base_asked name menu locale chain x keys ≡ base_of (in_locale name menu essentials locale) chain display x
  base_asked_is_base display keys are =
      let ask = base_by (in_locale name menu essentials locale) x in
      let by_text = first_hit (key_asked name locale chain.text x) in
      let texts : keys_asked name locale chain.text x keys ≡ first_hit ask (flat_map (texts_for chain) (keys_of chain display x)) =
      sym (first_hit-map (key_asked name locale chain.text x) (key_with x) keys) ∙ ap by_text are ∙ sym (keys_flat (keys_of chain display x)) in
      let menus : made_of (menu_base x) (menu_by menu locale x.language chain.menu) ≡ first_hit ask
      (map (λ marker. in_menu marker) chain.menu) = sym menus_flat in
      ap (if_missing (raw_base x))
      ((λ i. or_next (menus i) (texts i))
      ∙ sym (first_hit-append ask (map (λ marker. in_menu marker) chain.menu) (flat_map (texts_for chain) (keys_of chain display x))))
