-- Equal keys have one mark.
use Rattle.std.specs.Prelude.{◌≡◌, ℕ}
use Rattle.std.proofs.Common.{refl, sym, ap, ◌∙◌, arith}
use Rattle.std.specs.Ordering.{nat_cmp}
use Rattle.std.specs.declared.cmp.Ordering.{Ordering}
use Rattle.std.specs.declared.cmp.Ordering.TheVariants.{Equal}
use Rattle.std.proofs.lemmas.Bool.Decides.{nat_tests}
use Rattle.icu_provider.specs.Marks.{name_mark}
use Rattle.icu_provider.specs.Requests.{key_order}
use Rattle.icu_provider.specs.contracts.names.NameKeyOrd.TheImpl as name_key
use Rattle.icu_provider.specs.declared.names.NameKey.{NameKey}
use Rattle.icu_provider.specs.declared.names.NameKey.TheVariants.{Language, Script, Region, Variant}
use Rattle.icu_provider.specs.laws.Requests.{same_key}

-- numbers that tie are equal
same_number : (m n : ℕ) (answer : Ordering) → nat_cmp m n ≡ answer → answer ≡ Equal → m ≡ n
same_number m n answer is tied = grind (arith, nat_tests, is, tied)

-- where keys are in the order of their numbers, these are marks
pub numbers_are_marks : {K : Type 0} (IsNumber : K → ℕ → Type 0) (compare : K → K → Ordering)
    → ((x y : K) (m n : ℕ) → IsNumber x m → IsNumber y n → nat_cmp m n ≡ compare x y)
    → (x y : K) (m n : ℕ) → compare x y ≡ Equal → IsNumber x m → IsNumber y n → m ≡ n
numbers_are_marks IsNumber compare ordered x y m n tied p q = same_number m n _ (ordered x y m n p q) tied

-- keys of names are in the order of their texts
keys_in_order : (a b : NameKey) → name_key.ghosts.cmp a b ≡ key_order a b
keys_in_order (Language l s r) (Language m t u) = refl
keys_in_order (Language l s r) (Script t) = refl
keys_in_order (Language l s r) (Region t) = refl
keys_in_order (Language l s r) (Variant t) = refl
keys_in_order (Script s) (Language m t u) = refl
keys_in_order (Script s) (Script t) = refl
keys_in_order (Script s) (Region t) = refl
keys_in_order (Script s) (Variant t) = refl
keys_in_order (Region s) (Language m t u) = refl
keys_in_order (Region s) (Script t) = refl
keys_in_order (Region s) (Region t) = refl
keys_in_order (Region s) (Variant t) = refl
keys_in_order (Variant s) (Language m t u) = refl
keys_in_order (Variant s) (Script t) = refl
keys_in_order (Variant s) (Region t) = refl
keys_in_order (Variant s) (Variant t) = refl

-- a key of names has one mark
pub names_have_marks : (x y : NameKey) (m n : ℕ) → name_key.ghosts.cmp x y ≡ Equal → m ≡ name_mark x → n ≡ name_mark y → m ≡ n
names_have_marks x y m n tied p q = p ∙ ap name_mark (same_key x y (sym (keys_in_order x y) ∙ tied)) ∙ sym q
