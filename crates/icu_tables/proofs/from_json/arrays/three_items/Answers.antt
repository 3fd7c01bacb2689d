use Rattle.std.proofs.Common.{◌≡◌, length, sym, ap, arith}
use Rattle.std.proofs.lemmas.Bool.Decides.{nat_tests}
use Rattle.icu_tables.proofs.Items.{three_items-other}
use Rattle.icu_tables.proofs.from_json.arrays.three_items.Goals as goal
use Rattle.icu_tables.proofs.from_json.arrays.three_items.Goals.{in_default-via-then-as_slice-lt3, in_default-via-else-as_slice-lt3+else-this-lt4}

-- there are not three items
pub returns-in_default : goal.returns-in_default
returns-in_default c =
    let items = c.in_ok-as_array.field-0.now.items in
    let other : length items ≡ 3 → ⊥ = elim c.in_default.branch [
      | in_default-via-then-as_slice-lt3 w ↦ λ exactly. grind (arith, nat_tests, c.as_slice.ensures.len, ap length c.as_slice.ensures.value)
      | in_default-via-else-as_slice-lt3+else-this-lt4 w ↦ λ exactly. grind (arith, nat_tests, c.as_slice.ensures.len, ap length c.as_slice.ensures.value)
    ] in
    rw (← c.in_ok-as_array.ensures) (sym (three_items-other items other))
