-- The orders of requests tie equal requests alone.
use Rattle.std.specs.Prelude.{◌≡◌, ℕ, List, [], ◌∷◌, get_or, Option, Some, None, T}
use Rattle.std.proofs.Common.{refl, sym, ap, ◌∙◌, subst}
use Rattle.std.specs.FinMap.{nat_cmp-IsAntisymmetric}
use Rattle.std.specs.Option.{option_cmp}
use Rattle.std.specs.Ordering.{is_eq, nat_cmp, ordering_then}
use Rattle.std.specs.declared.cmp.Ordering.{Ordering}
use Rattle.std.specs.declared.cmp.Ordering.TheVariants.{Less, Equal, Greater}
use Rattle.std.proofs.lemmas.Cmp.{tied_itself, nat_cmp_total}
use Rattle.icu_locale_core.specs.TextSet.{text_cmp}
use Rattle.icu_locale_core.specs.laws.TextSets.{text_same, text_total}
use Rattle.icu_provider.specs.Requests.{exemplar_order, exemplar_place, key_order, locale_order, menu_order, menu_place, name_order, name_place}
use Rattle.icu_provider.specs.Requests.{exemplar_cmp, locale_cmp, menu_cmp, name_cmp}
use Rattle.icu_provider.specs.contracts.exemplars.ExemplarMarkerOrd.TheImpl as exemplar_marker
use Rattle.icu_provider.specs.contracts.names.MenuMarkerOrd.TheImpl as menu_marker
use Rattle.icu_provider.specs.contracts.names.NameKeyOrd.TheImpl as name_key
use Rattle.icu_provider.specs.contracts.names.NameMarkerOrd.TheImpl as name_marker
use Rattle.icu_provider.specs.SortedMaps.{TiesEqualAlone, pair_cmp}
use Rattle.icu_provider.specs.declared.data_locale.DataLocale.{DataLocale}
use Rattle.icu_provider.specs.declared.exemplars.ExemplarMarker.{ExemplarMarker}
use Rattle.icu_provider.specs.declared.exemplars.ExemplarMarker.TheVariants as exemplars
use Rattle.icu_provider.specs.declared.names.MenuMarker.{MenuMarker}
use Rattle.icu_provider.specs.declared.names.MenuMarker.TheVariants as menus
use Rattle.icu_provider.specs.declared.names.NameKey.{NameKey}
use Rattle.icu_provider.specs.declared.names.NameKey.TheVariants.{Language, Script, Region, Variant}
use Rattle.icu_provider.specs.declared.names.NameMarker.{NameMarker}
use Rattle.icu_provider.specs.declared.names.NameMarker.TheVariants as names

pub not_less : Less ≡ Equal → ⊥
not_less is = subst (λ o. T (is_eq o)) (sym is) tt

pub not_greater : Greater ≡ Equal → ⊥
not_greater is = subst (λ o. T (is_eq o)) (sym is) tt

-- two comparisons, one after the other, tie where both do
pub both_tied : (o p : Ordering) → ordering_then o p ≡ Equal → (o ≡ Equal) × (p ≡ Equal)
both_tied Less p tied = absurd (not_less tied)
both_tied Equal p tied = (refl, tied)
both_tied Greater p tied = absurd (not_greater tied)

then_tied : (o p : Ordering) → o ≡ Equal → p ≡ Equal → ordering_then o p ≡ Equal
then_tied o p first second = ap (λ q. ordering_then q p) first ∙ second

-- what ties is equal, and each key ties with itself
ties : {K : Type 0} (compare : K → K → Ordering) → ((x y : K) → compare x y ≡ Equal → x ≡ y)
    → ((x : K) → compare x x ≡ Equal) → TiesEqualAlone compare
ties compare same itself x y =
    (same x y, λ is. subst (λ z. compare x z ≡ Equal) is (itself x))

text_itself : (t : List ℕ) → text_cmp t t ≡ Equal
text_itself t = tied_itself text_total t

place_itself : (n : ℕ) → nat_cmp n n ≡ Equal
place_itself n = tied_itself nat_cmp_total n

same_part : (a b : Option (List ℕ)) → option_cmp text_cmp a b ≡ Equal → a ≡ b
same_part None None tied = refl
same_part None (Some y) tied = absurd (not_less tied)
same_part (Some x) None tied = absurd (not_greater tied)
same_part (Some x) (Some y) tied = ap (λ t. Some t) (text_same x y tied)

part_itself : (a : Option (List ℕ)) → option_cmp text_cmp a a ≡ Equal
part_itself None = refl
part_itself (Some x) = text_itself x

pub texts_tie : TiesEqualAlone text_cmp
texts_tie = ties text_cmp text_same text_itself

pub pairs_tie : TiesEqualAlone pair_cmp
pairs_tie = ties pair_cmp
    (λ x y tied. let both = both_tied (text_cmp x.0 y.0) (text_cmp x.1 y.1) tied in
    λ i. (text_same x.0 y.0 both.0 i, text_same x.1 y.1 both.1 i))
    (λ x. then_tied (text_cmp x.0 x.0) (text_cmp x.1 x.1) (text_itself x.0) (text_itself x.1))

same_locale : (a b : DataLocale) → locale_order a b ≡ Equal → a ≡ b
same_locale a b tied =
    let first = both_tied (text_cmp a.language b.language) _ tied in
    let rest = both_tied (option_cmp text_cmp a.script b.script) (option_cmp text_cmp a.region b.region) first.1 in
    λ i. record {
      language = text_same a.language b.language first.0 i;
      script = same_part a.script b.script rest.0 i;
      region = same_part a.region b.region rest.1 i;
    }

locale_itself : (a : DataLocale) → locale_order a a ≡ Equal
locale_itself a =
    then_tied (text_cmp a.language a.language) _ (text_itself a.language)
    (then_tied (option_cmp text_cmp a.script a.script) (option_cmp text_cmp a.region a.region)
    (part_itself a.script) (part_itself a.region))

pub locales_tie : TiesEqualAlone locale_cmp
locales_tie = ties locale_order same_locale locale_itself

-- the kind at each place
abbrev all_exemplars : List ExemplarMarker
all_exemplars =
    exemplars.Main ∷ exemplars.Auxiliary ∷ exemplars.Punctuation ∷ exemplars.Numbers
    ∷ exemplars.Index ∷ []

exemplar_at_place : (m : ExemplarMarker) → get_or all_exemplars (exemplar_place m) exemplars.Main ≡ m
exemplar_at_place exemplars.Main = refl
exemplar_at_place exemplars.Auxiliary = refl
exemplar_at_place exemplars.Punctuation = refl
exemplar_at_place exemplars.Numbers = refl
exemplar_at_place exemplars.Index = refl

same_exemplar : (a b : ExemplarMarker) → nat_cmp (exemplar_place a) (exemplar_place b) ≡ Equal → a ≡ b
same_exemplar a b tied =
    sym (exemplar_at_place a)
    ∙ ap (λ n. get_or all_exemplars n exemplars.Main) (nat_cmp-IsAntisymmetric (exemplar_place a) (exemplar_place b) tied)
    ∙ exemplar_at_place b

-- the kind at each place
abbrev all_menus : List MenuMarker
all_menus =
    menus.MediumLight ∷ menus.MediumHeavy ∷ []

menu_at_place : (m : MenuMarker) → get_or all_menus (menu_place m) menus.MediumLight ≡ m
menu_at_place menus.MediumLight = refl
menu_at_place menus.MediumHeavy = refl

same_menu : (a b : MenuMarker) → nat_cmp (menu_place a) (menu_place b) ≡ Equal → a ≡ b
same_menu a b tied =
    sym (menu_at_place a)
    ∙ ap (λ n. get_or all_menus n menus.MediumLight) (nat_cmp-IsAntisymmetric (menu_place a) (menu_place b) tied)
    ∙ menu_at_place b

-- the kind at each place
abbrev all_names : List NameMarker
all_names =
    names.LanguageLongHeavy ∷ names.LanguageLongLight ∷ names.LanguageMediumHeavy ∷ names.LanguageMediumLight
    ∷ names.LanguageMediumTiny ∷ names.LanguageShortHeavy ∷ names.LanguageShortLight ∷ names.RegionMediumLight
    ∷ names.RegionMediumTiny ∷ names.RegionShortLight ∷ names.RegionShortTiny ∷ names.ScriptMediumHeavy
    ∷ names.ScriptMediumLight ∷ names.ScriptMediumTiny ∷ names.ScriptShortHeavy ∷ names.VariantMediumHeavy ∷ []

name_at_place : (m : NameMarker) → get_or all_names (name_place m) names.LanguageLongHeavy ≡ m
name_at_place names.LanguageLongHeavy = refl
name_at_place names.LanguageLongLight = refl
name_at_place names.LanguageMediumHeavy = refl
name_at_place names.LanguageMediumLight = refl
name_at_place names.LanguageMediumTiny = refl
name_at_place names.LanguageShortHeavy = refl
name_at_place names.LanguageShortLight = refl
name_at_place names.RegionMediumLight = refl
name_at_place names.RegionMediumTiny = refl
name_at_place names.RegionShortLight = refl
name_at_place names.RegionShortTiny = refl
name_at_place names.ScriptMediumHeavy = refl
name_at_place names.ScriptMediumLight = refl
name_at_place names.ScriptMediumTiny = refl
name_at_place names.ScriptShortHeavy = refl
name_at_place names.VariantMediumHeavy = refl

same_name : (a b : NameMarker) → nat_cmp (name_place a) (name_place b) ≡ Equal → a ≡ b
same_name a b tied =
    sym (name_at_place a)
    ∙ ap (λ n. get_or all_names n names.LanguageLongHeavy) (nat_cmp-IsAntisymmetric (name_place a) (name_place b) tied)
    ∙ name_at_place b

pub same_key : (a b : NameKey) → key_order a b ≡ Equal → a ≡ b
same_key (Language l s r) (Language m t u) tied =
    let first = both_tied (text_cmp l m) _ tied in
    let rest = both_tied (option_cmp text_cmp s t) (option_cmp text_cmp r u) first.1 in
    λ i. Language (text_same l m first.0 i) (same_part s t rest.0 i) (same_part r u rest.1 i)
same_key (Language l s r) (Script t) tied = absurd (not_less tied)
same_key (Language l s r) (Region t) tied = absurd (not_less tied)
same_key (Language l s r) (Variant t) tied = absurd (not_less tied)
same_key (Script s) (Language m t u) tied = absurd (not_greater tied)
same_key (Script s) (Script t) tied = ap (λ x. Script x) (text_same s t tied)
same_key (Script s) (Region t) tied = absurd (not_less tied)
same_key (Script s) (Variant t) tied = absurd (not_less tied)
same_key (Region s) (Language m t u) tied = absurd (not_greater tied)
same_key (Region s) (Script t) tied = absurd (not_greater tied)
same_key (Region s) (Region t) tied = ap (λ x. Region x) (text_same s t tied)
same_key (Region s) (Variant t) tied = absurd (not_less tied)
same_key (Variant s) (Language m t u) tied = absurd (not_greater tied)
same_key (Variant s) (Script t) tied = absurd (not_greater tied)
same_key (Variant s) (Region t) tied = absurd (not_greater tied)
same_key (Variant s) (Variant t) tied = ap (λ x. Variant x) (text_same s t tied)

pub key_itself : (a : NameKey) → key_order a a ≡ Equal
key_itself (Language l s r) =
    then_tied (text_cmp l l) _ (text_itself l)
    (then_tied (option_cmp text_cmp s s) (option_cmp text_cmp r r) (part_itself s) (part_itself r))
key_itself (Script s) = text_itself s
key_itself (Region s) = text_itself s
key_itself (Variant s) = text_itself s

exemplars_told : TiesEqualAlone exemplar_order
exemplars_told = ties exemplar_order
    (λ x y tied. let both = both_tied (nat_cmp (exemplar_place x.0) (exemplar_place y.0)) (locale_order x.1 y.1) tied in
    λ i. (same_exemplar x.0 y.0 both.0 i, same_locale x.1 y.1 both.1 i))
    (λ x. then_tied _ (locale_order x.1 x.1) (place_itself (exemplar_place x.0)) (locale_itself x.1))

names_told : TiesEqualAlone name_order
names_told = ties name_order
    (λ x y tied.
    let both = both_tied _ (key_order x.2 y.2) tied in
    let first = both_tied (nat_cmp (name_place x.0) (name_place y.0)) (locale_order x.1 y.1) both.0 in
    λ i. (same_name x.0 y.0 first.0 i, same_locale x.1 y.1 first.1 i, same_key x.2 y.2 both.1 i))
    (λ x. then_tied _ (key_order x.2 x.2)
    (then_tied _ (locale_order x.1 x.1) (place_itself (name_place x.0)) (locale_itself x.1))
    (key_itself x.2))

menus_told : TiesEqualAlone menu_order
menus_told = ties menu_order
    (λ x y tied.
    let both = both_tied _ (text_cmp x.2 y.2) tied in
    let first = both_tied (nat_cmp (menu_place x.0) (menu_place y.0)) (locale_order x.1 y.1) both.0 in
    λ i. (same_menu x.0 y.0 first.0 i, same_locale x.1 y.1 first.1 i, text_same x.2 y.2 both.1 i))
    (λ x. then_tied _ (text_cmp x.2 x.2)
    (then_tied _ (locale_order x.1 x.1) (place_itself (menu_place x.0)) (locale_itself x.1))
    (text_itself x.2))

-- what ties in one order ties in the same order
by_order : {K : Type 0} (compare order : K → K → Ordering)
    → ((x y : K) → compare x y ≡ order x y) → TiesEqualAlone order → TiesEqualAlone compare
by_order compare order same told x y = (
  λ tied. (told x y).0 (sym (same x y) ∙ tied),
  λ is. same x y ∙ (told x y).1 is,
)

module _
    (exemplars_in_order : (a b : ExemplarMarker) → exemplar_marker.ghosts.cmp a b ≡ nat_cmp (exemplar_place a) (exemplar_place b))
  where
    pub exemplars_tie : TiesEqualAlone exemplar_cmp
    exemplars_tie = by_order exemplar_cmp exemplar_order
        (λ x y i. ordering_then (exemplars_in_order x.0 y.0 i) (locale_order x.1 y.1)) exemplars_told

module _
    (names_in_order : (a b : NameMarker) → name_marker.ghosts.cmp a b ≡ nat_cmp (name_place a) (name_place b))
    (keys_in_order : (a b : NameKey) → name_key.ghosts.cmp a b ≡ key_order a b)
  where
    pub names_tie : TiesEqualAlone name_cmp
    names_tie = by_order name_cmp name_order
        (λ x y i. ordering_then (ordering_then (names_in_order x.0 y.0 i) (locale_order x.1 y.1)) (keys_in_order x.2 y.2 i)) names_told

module _
    (menus_in_order : (a b : MenuMarker) → menu_marker.ghosts.cmp a b ≡ nat_cmp (menu_place a) (menu_place b))
  where
    pub menus_tie : TiesEqualAlone menu_cmp
    menus_tie = by_order menu_cmp menu_order
        (λ x y i. ordering_then (ordering_then (menus_in_order x.0 y.0 i) (locale_order x.1 y.1)) (text_cmp x.2 y.2)) menus_told
