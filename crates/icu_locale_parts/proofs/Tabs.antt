-- A written form has no tab, so it is what comes before the first tab of a line of parts.
use Rattle.std.proofs.Common.{◌≡◌, ℕ, Bool, true, ◌&&◌, ◌||◌, ◌==◌, List, [], ◌∷◌, ◌++◌, codes, refl, sym, ap, ◌∙◌}
use Rattle.std.specs.List.{All, flat_map, join_by, list_all}
use Rattle.std.specs.Char.{is_ascii_alphanumeric}
use Rattle.std.proofs.lemmas.Bool.{and_parts, false≢true}
use Rattle.std.proofs.lemmas.List.Elements.{All-head, All-tail}
use Rattle.std.proofs.lemmas.List.Folds.{list_all-append}
use Rattle.icu_locale_core.specs.Subtag.{is_alphanumeric}
use Rattle.icu_locale_extensions.specs.Locales.{IsLocaleIdentifier, written, written_pieces}
use Rattle.icu_locale_extensions.specs.declared.identifier.LocaleIdentifier.{LocaleIdentifier}
use Rattle.icu_locale_parts.specs.Parts.{parts_text}
use Rattle.icu_locale_parts.proofs.Plain.{IsPlain, plain_pieces}

-- a character of a written form
abbrev is_plain : ℕ → Bool
is_plain c = is_ascii_alphanumeric c || (c == 45)

plain_text : (p : List ℕ) → is_alphanumeric p ≡ true → list_all is_plain p ≡ true
plain_text [] is = refl
plain_text (c ∷ p) is =
    let both = and_parts (is_ascii_alphanumeric c) (is_alphanumeric p) is in
    λ i. (both.0 i || (c == 45)) && plain_text p both.1 i

plain_dashed : (ps : List (List ℕ)) → All IsPlain ps → list_all is_plain (flat_map (λ p. codes "-" ++ p) ps) ≡ true
plain_dashed [] each = refl
plain_dashed (p ∷ ps) each = list_all-append is_plain p (flat_map (λ p. codes "-" ++ p) ps)
    ∙ (λ i. plain_text p (All-head IsPlain p ps each).plain i && plain_dashed ps (All-tail IsPlain p ps each) i)

plain_joined : (ps : List (List ℕ)) → All IsPlain ps → list_all is_plain (join_by (λ p. p) (codes "-") ps) ≡ true
plain_joined [] each = refl
plain_joined (p ∷ ps) each = list_all-append is_plain p (flat_map (λ p. codes "-" ++ p) ps)
    ∙ (λ i. plain_text p (All-head IsPlain p ps each).plain i && plain_dashed ps (All-tail IsPlain p ps each) i)

abbrev first : List ℕ → ℕ
first [] = 0
first (c ∷ t) = c

abbrev rest : List ℕ → List ℕ
rest [] = []
rest (c ∷ t) = t

no_tab : (c : ℕ) → is_plain c ≡ true → 9 ≡ c → ⊥
no_tab c is same = false≢true (ap is_plain same ∙ is)

-- texts without tabs are equal where they are what comes before the first tabs of equal texts
fronts : (u v a b : List ℕ) → list_all is_plain u ≡ true → list_all is_plain v ≡ true → u ++ 9 ∷ a ≡ v ++ 9 ∷ b → u ≡ v
fronts [] [] a b one other same = refl
fronts [] (c ∷ v) a b one other same = absurd (no_tab c (and_parts (is_plain c) (list_all is_plain v) other).0 (ap first same))
fronts (c ∷ u) [] a b one other same = absurd (no_tab c (and_parts (is_plain c) (list_all is_plain u) one).0 (sym (ap first same)))
fronts (c ∷ u) (d ∷ v) a b one other same =
    let left = and_parts (is_plain c) (list_all is_plain u) one in
    let right = and_parts (is_plain d) (list_all is_plain v) other in
    λ i. ap first same i ∷ fronts u v a b left.1 right.1 (ap rest same) i

pub written_alike : (x y : LocaleIdentifier) → IsLocaleIdentifier x → IsLocaleIdentifier y → parts_text x ≡ parts_text y → written x ≡ written y
written_alike x y is other same = fronts (written x) (written y) _ _ (plain_joined (written_pieces x) (plain_pieces x is))
    (plain_joined (written_pieces y) (plain_pieces y other)) same
