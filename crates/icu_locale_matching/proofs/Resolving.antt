-- What is served, resolved: again, and for itself.
use Rattle.std.proofs.Common.{◌≡◌, ◌↔◌, IsTrue, sym, Bool, true, false, not, Option, Some, None, refl, ap, if◌then◌else◌, IsSome}
use Rattle.std.specs.Option.{option_or}
use Rattle.icu_locale_core.specs.TextSet.{empty}
use Rattle.icu_locale_core.specs.laws.Identifiers.{Tells, same_texts}
use Rattle.icu_locale_core.specs.declared.langid.LanguageIdentifier.{LanguageIdentifier}
use Rattle.icu_locale_extensions.specs.Built.{with_id}
use Rattle.icu_locale_extensions.specs.declared.identifier.LocaleIdentifier.{LocaleIdentifier}
use Rattle.icu_locale_matching.specs.Resolved.{is_varied, resolved}

either_same : {X : Type 0} (b : Bool) (x : X) → (if b then x else x) ≡ x
either_same true x = refl
either_same false x = refl

-- a choice by a test of what is chosen is made once
chosen_again : {X : Type 0} (test : X → Bool) (b : Bool) (x y : X) → test x ≡ b
    → (if test (if b then x else y) then (if b then x else y) else y) ≡ (if b then x else y)
chosen_again test true x y e = ap (λ b. if b then x else y) e
chosen_again test false x y e = either_same (test y) y

or_itself : {X : Type 0} (o : Option X) → option_or o o ≡ o
or_itself None = refl
or_itself (Some x) = refl

or_again : {X : Type 0} (o p : Option X) → option_or (option_or o p) p ≡ option_or o p
or_again None p = or_itself p
or_again (Some x) p = refl

or_first : {X : Type 0} (o p : Option X) → IsSome o → option_or o p ≡ o
or_first None p there = absurd (cc)
or_first (Some x) p there = refl

pub region_kept : (s : LanguageIdentifier) (w : LocaleIdentifier) → IsSome w.locale.id.region
    → (resolved s w).locale.id.region ≡ w.locale.id.region
region_kept s w there = or_first w.locale.id.region s.region there

pub variants_kept : (s : LanguageIdentifier) (w : LocaleIdentifier) → is_varied w.locale.id ≡ true
    → (resolved s w).locale.id.variants ≡ w.locale.id.variants
variants_kept s w e = ap (λ b. if b then w.locale.id.variants else s.variants) e

pub resolved_again : (s : LanguageIdentifier) (w : LocaleIdentifier)
    → resolved s (resolved s w) ≡ resolved s w
resolved_again s w =
    let region = or_again w.locale.id.region s.region in
    let variants = chosen_again (λ v. not (same_texts v empty)) (is_varied w.locale.id) w.locale.id.variants s.variants refl in
    λ i. with_id w (record s { region = region i; variants = variants i })

pub resolved_itself : (w : LocaleIdentifier) → resolved w.locale.id w ≡ w
resolved_itself w =
    let region = or_itself w.locale.id.region in
    let variants = either_same (is_varied w.locale.id) w.locale.id.variants in
    λ i. with_id w (record w.locale.id { region = region i; variants = variants i })

-- two tests of one fact are the same
pub told_alike : {P : Type 0} (a b : Bool) → (IsTrue a ↔ P) → Tells b P → a ≡ b
told_alike true true is tells = refl
told_alike true false is tells = sym (tells.1 (is.0 refl))
told_alike false true is tells = is.1 (tells.0 refl)
told_alike false false is tells = refl
