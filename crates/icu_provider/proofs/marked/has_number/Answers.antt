use Rattle.std.proofs.Common.{◌≡◌, ℕ, true, nat_eq, arith}
use Rattle.std.specs.Ordering.{nat_cmp}
use Rattle.std.specs.declared.cmp.Ordering.{Ordering}
use Rattle.std.specs.declared.cmp.Ordering.TheVariants.{Equal}
use Rattle.std.proofs.lemmas.Bool.Decides.{nat_tests}
use Rattle.icu_provider.proofs.marked.has_number.Goals as goal

tied : (m n : ℕ) (answer : Ordering) → nat_cmp m n ≡ answer → nat_eq m n ≡ true → answer ≡ Equal
tied m n answer is same = grind (arith, nat_tests, is, same)

same : (m n : ℕ) (answer : Ordering) → nat_cmp m n ≡ answer → answer ≡ Equal → nat_eq m n ≡ true
same m n answer is tied = grind (arith, nat_tests, is, tied)

-- numbers are equal exactly where they tie
pub returns : goal.returns
returns g c =
    let compares = g.met.K.Numbered.ordered _ _ _ _ c.number.ensures c.number-2.ensures in
    (tied _ _ _ compares, same _ _ _ compares)
