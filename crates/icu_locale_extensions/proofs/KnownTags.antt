-- Tags of BCP 47 that are read: each is well-formed, and each that is known is read.
use Rattle.std.proofs.Common.{◌≡◌, ◌↔◌, ◌≤◌, ◌+◌, ℕ, Bool, true, false, ◌&&◌, List, [], ◌∷◌, ◌++◌, map, codes, drop, length, Option, None, Some, unwrap_or, if◌then◌else◌, refl, ap, sym, subst, ◌∙◌, arith, append_assoc}
use Rattle.std.specs.List.{after_first, list_any, position}
use Rattle.std.specs.Prelude.{nat_le}
use Rattle.std.specs.Char.{to_ascii_lowercase}
use Rattle.std.proofs.lemmas.List.{length-map}
use Rattle.std.proofs.lemmas.Bool.{and_from, and_parts, false≢true}
use Rattle.std.proofs.lemmas.Bool.Decides.{nat_tests}
use Rattle.icu_locale_core.specs.Identifier.{is_separator, pieces}
use Rattle.icu_locale_core.specs.Subtag.{has_length, is_alphabetic, is_language, is_region, is_script, is_variant, lowercase, titlecase, uppercase}
use Rattle.icu_locale_core.specs.TextSet.{from_list}
use Rattle.icu_locale_core.specs.declared.langid.LanguageIdentifier.{LanguageIdentifier}
use Rattle.icu_locale_core.specs.laws.Cuts.{after_some, slice_split-no_position, slice_split-position}
use Rattle.icu_locale_core.specs.laws.Identifiers.{same_text}
use Rattle.icu_locale_extensions.specs.Built.{bare}
use Rattle.icu_locale_extensions.specs.ExtendedLanguages.{extended_languages}
use Rattle.icu_locale_extensions.specs.Extensions.{is_singleton}
use Rattle.icu_locale_extensions.specs.Grammar.{One, one, AtMostOne, absent, present, AnyNumber, done, next, first, IsLanguageId, language_id, IsLocaleId, locale_id, IsExtension, IsPrivateUse, Meaning, Spells, add_all, add_private_use, are_different, singleton}
use Rattle.icu_locale_extensions.specs.Syntaxes.{SpellsBy, is_extended, is_private, is_registered, is_root, preferred, root_text, tag_text}
use Rattle.icu_locale_extensions.specs.Tags.{are_letters, extlang, IsKnownTag, IsTagLanguage, IsTagOf, known, NamesLanguage, registered, reserved, shortest}
use Rattle.icu_locale_extensions.specs.declared.identifier.LocaleIdentifier.{LocaleIdentifier}
use Rattle.icu_locale_extensions.specs.declared.syntax.Syntax.TheVariants.{Bcp47}
use Rattle.icu_locale_extensions.proofs.Spellings.{lowercase-twice}
use Rattle.icu_locale_extensions.proofs.Strict.{language_no_root, language_no_x}
use Rattle.icu_locale_extensions.proofs.Tagged.{tagged, tagged_behind}

-- what follows the first separator has the pieces after the first
behind : (t p q : List ℕ) (ps : List (List ℕ)) → pieces t ≡ p ∷ q ∷ ps → pieces (after_first is_separator t) ≡ q ∷ ps
behind t p q ps are = by (position is_separator t) refl
  where
    more : {X : Type 0} → List X → List X
    more [] = []
    more (x ∷ xs) = xs

    by : (o : Option ℕ) → position is_separator t ≡ o → pieces (after_first is_separator t) ≡ q ∷ ps
    by None at = absurd (cc (ap more (sym are ∙ slice_split-no_position is_separator t at)))
    by (Some n) at =
        ap pieces (sym (after_some is_separator t n at)) ∙ ap more (sym (slice_split-position is_separator t n at) ∙ are)

-- ---- what is read is a well-formed tag

module _ (t : List ℕ) (none : preferred (pieces t) ≡ None) (other : is_private (pieces t) ≡ false) (no_root : is_root (pieces t) ≡ false) where
  meant : (b : Bool) → is_extended (pieces t) ≡ b → tag_text t ≡ (if b then after_first is_separator t else t)
  meant b extended = λ i. unwrap_or (none i) (if other i then codes "und-" ++ t
      else (if no_root i then root_text t else (if extended i then after_first is_separator t else t)))

  pub tag_read : (x : LocaleIdentifier) → SpellsBy Bcp47 t x → IsTagOf (pieces t) x
  tag_read x spells = by (is_extended (pieces t)) refl
    where
      cut : (ps : List (List ℕ)) → pieces t ≡ ps → is_extended ps ≡ true → IsLocaleId (pieces (after_first is_separator t)) x → IsTagOf ps x
      cut [] are extended derived = absurd (false≢true extended)
      cut (p ∷ []) are extended derived = absurd (false≢true extended)
      cut (p ∷ q ∷ ps) are extended derived =
          let both = and_parts (is_language p && (has_length 3 3 q && is_alphabetic q)) (is_registered p q) extended in
          let parts = and_parts (is_language p) (has_length 3 3 q && is_alphabetic q) both.0 in
          tagged_behind p q ps x parts.0 parts.1 both.1 (subst (λ qs. IsLocaleId qs x) (behind t p q ps are) derived)

      by : (b : Bool) → is_extended (pieces t) ≡ b → IsTagOf (pieces t) x
      by true extended = cut (pieces t) refl extended (subst (λ u. IsLocaleId (pieces u) x) (meant true extended) spells)
      by false extended = tagged (pieces t) x (subst (λ u. IsLocaleId (pieces u) x) (meant false extended) spells)

-- ---- what is known is read

-- what is a language in lower case has two or three letters as it came
as_long : (p : List ℕ) → is_language (lowercase p) ≡ true → has_length 2 3 p ≡ true
as_long p is =
    sym (λ i. nat_le 2 (length-map p to_ascii_lowercase i) && nat_le (length-map p to_ascii_lowercase i) 3)
    ∙ (and_parts (has_length 2 3 (lowercase p)) (is_alphabetic (lowercase p)) is).0

too_long : (p : List ℕ) (low high : ℕ) → 4 ≤ low → has_length low high p ≡ true → is_language (lowercase p) ≡ true → ⊥
too_long p low high least long is = by (as_long p is)
  where
    by : has_length 2 3 p ≡ true → ⊥
    by short = grind (arith, nat_tests)

three_is : (p : List ℕ) → are_letters 3 3 p ≡ true → is_language p ≡ true
three_is p three =
    let parts = and_parts (has_length 3 3 p) (is_alphabetic p) three in
    and_from (has_length 2 3 p) (is_alphabetic p) (within parts.0) parts.1
  where
    within : has_length 3 3 p ≡ true → has_length 2 3 p ≡ true
    within long = grind (arith, nat_tests)

registered_raw : (f p : List ℕ) → is_registered (lowercase f) (lowercase p) ≡ true → is_registered f p ≡ true
unfolding is_registered
registered_raw f p is =
    sym (λ i. list_any (λ row. same_text (lowercase-twice p i) (lowercase row.0) && same_text (lowercase-twice f i) (lowercase row.1)) extended_languages)
    ∙ is

module _ (strict : (t : List ℕ) (x : LocaleIdentifier) → Spells t x → SpellsBy Bcp47 t x)
    (t : List ℕ) (none : preferred (pieces t) ≡ None) where
  module _ (script region variants extensions private_use : List (List ℕ)) (s r : Option (List ℕ)) (vs : List (List ℕ)) (es : List Meaning)
      (o : Option (List (List ℕ))) (at_script : AtMostOne (One is_script titlecase) script s) (at_region : AtMostOne (One is_region uppercase) region r)
      (all_variants : AnyNumber (One is_variant lowercase) variants vs) (different : are_different vs ≡ true)
      (all_extensions : AnyNumber IsExtension extensions es) (apart : are_different (map singleton es) ≡ true)
      (at_private : AtMostOne IsPrivateUse private_use o) where
    abbrev rest : List (List ℕ)
    rest = script ++ (region ++ (variants ++ (extensions ++ private_use)))

    derived : (p : List ℕ) → is_language p ≡ true → (x : LocaleIdentifier) × IsLocaleId (p ∷ rest) x
    derived p is =
        let id : LanguageIdentifier = record { language = lowercase p; script = s; region = r; variants = from_list vs } in
        let x = add_private_use (add_all (bare id) es) o in
        let parts : (p ∷ (script ++ (region ++ variants))) ++ (extensions ++ private_use) ≡ p ∷ rest =
        ap (λ qs. p ∷ qs) (append_assoc script (region ++ variants) (extensions ++ private_use)
        ∙ ap (λ qs. script ++ qs) (append_assoc region variants (extensions ++ private_use))) in (
          x,
          subst (λ qs. IsLocaleId qs x) parts (locale_id (p ∷ (script ++ (region ++ variants))) extensions private_use id es o
              (language_id (p ∷ []) script region variants (lowercase p) s r vs (one p is) at_script at_region all_variants different)
              all_extensions apart at_private),
        )

    alone : (p : List ℕ) → is_language p ≡ true → pieces t ≡ p ∷ rest → (x : LocaleIdentifier) × SpellsBy Bcp47 t x
    alone p is are = let found = derived p is in (found.0, strict t found.0 (subst (λ qs. IsLocaleId qs found.0) (sym are) found.1))

    prefixed : (f q : List ℕ) → is_language f ≡ true → are_letters 3 3 q ≡ true → is_registered f q ≡ true → is_language q ≡ true
        → pieces t ≡ f ∷ q ∷ rest → (x : LocaleIdentifier) × SpellsBy Bcp47 t x
    prefixed f q is three with_prefix is_q are =
        let found = derived q is_q in
        let extended : is_extended (pieces t) ≡ true =
        ap is_extended are ∙ and_from (is_language f && (has_length 3 3 q && is_alphabetic q)) (is_registered f q)
        (and_from (is_language f) (has_length 3 3 q && is_alphabetic q) is three) with_prefix in
        let no_x : is_private (pieces t) ≡ false = ap is_private are ∙ language_no_x f is in
        let no_root : is_root (pieces t) ≡ false = ap is_root are ∙ ap (λ b. b && is_singleton q) (language_no_root f is) in (
          found.0,
          subst (λ u. IsLocaleId (pieces u) found.0) (sym (meant t none no_x no_root true extended))
              (subst (λ qs. IsLocaleId qs found.0) (sym (behind t f q rest are)) found.1),
        )

    by_language : (language ls : List (List ℕ)) (l : List ℕ) → IsTagLanguage language ls → NamesLanguage ls l → is_language l ≡ true
        → pieces t ≡ language ++ rest → (x : LocaleIdentifier) × SpellsBy Bcp47 t x
    by_language language ls l (shortest own more l' o' (one p short) absent) names is are = alone p short are
    by_language language ls l (shortest own more l' o' (one p short) (present qs us (extlang ps ws (first one_of others v ws' (one q three) done) few))) names is are =
        prefixed p q short three (registered_raw p q names.0) (three_is q three) are
    by_language language ls l (shortest own more l' o' (one p short) (present qs us (extlang ps ws (first one_of others v ws' (one q three) (next cs ds w xs e es')) few))) names is are =
        absurd names
    by_language language ls l (reserved own l' (one p long)) names is are =
        absurd (too_long p 4 4 (omega arith) (and_parts (has_length 4 4 p) (is_alphabetic p) long).0 (subst (λ m. is_language m ≡ true) (sym names) is))
    by_language language ls l (registered own l' (one p long)) names is are =
        absurd (too_long p 5 8 (omega arith) (and_parts (has_length 5 8 p) (is_alphabetic p) long).0 (subst (λ m. is_language m ≡ true) (sym names) is))

  pub known_read : IsKnownTag (pieces t) → (x : LocaleIdentifier) × SpellsBy Bcp47 t x
  known_read is = by (pieces t) refl is
    where
      by : (ps : List (List ℕ)) → pieces t ≡ ps → IsKnownTag ps → (x : LocaleIdentifier) × SpellsBy Bcp47 t x
      by ps are (known language script region variants extensions private_use ls l s r vs es o tag names is at_script at_region all_variants different all_extensions apart at_private) =
          by_language script region variants extensions private_use s r vs es o at_script at_region all_variants different all_extensions apart at_private
          language ls l tag names is are
