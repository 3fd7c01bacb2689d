-- A run of values stays among its start and the values that rows prefer.
use Rattle.std.proofs.Common.{◌≡◌, Bool, true, false, List, [], ◌∷◌, map, Option, Some, None, cond, arith}
use Rattle.std.specs.BTreeMap.{is_at}
use Rattle.std.specs.List.{Contains}
use Rattle.std.specs.declared.cmp.Ordering.{Ordering}
use Rattle.std.proofs.lemmas.Option.{none-some, same_Some}
use Rattle.std.proofs.Common.{sym, subst, option_and_then, IsSomeAnd}
use Rattle.icu_locale_core.specs.Maps.{value_at}
use Rattle.icu_locale_runs.specs.declared.rewriting.Outcome.{Outcome}
use Rattle.icu_locale_runs.specs.declared.rewriting.Outcome.TheVariants.{Same, Ends, Repeats}
use Rattle.std.proofs.Common.{refl, Result, Ok, Err, IsOk, IfOk}
use Rattle.std.specs.Option.{IsSome}
use Rattle.std.proofs.lemmas.Bool.{false≢true}
use Rattle.icu_locale_runs.specs.Run.{IsOutcome, StandsIn, IsRepeat, IsUniverse}
use Rattle.icu_locale_runs.specs.laws.Lists.{Contains-here, Contains-there}
use Rattle.icu_locale_runs.specs.laws.LaterEnds.{alone, stands_alone}
use Rattle.icu_locale_runs.specs.laws.Runs.{ends_with_no_repeat}
use Rattle.icu_locale_values.specs.inner.Walked.{universe}

found_stands : {V : Type 0} (order : V → V → Ordering) (rows : List (V × V)) (v w : V) → value_at order rows v ≡ Some w → Contains (map (λ row. row.1) rows) w
found_stands order [] v w e = absurd (none-some w e)
found_stands {V} order (row ∷ rows) v w e = by (is_at (order v) row.0) (found_stands order rows v w) e
  where
    by : (b : Bool) → (value_at order rows v ≡ Some w → Contains (map (λ row. row.1) rows) w)
        → cond b (Some row.1) (value_at order rows v) ≡ Some w → Contains (map (λ row. row.1) (row ∷ rows)) w
    by true later here = (0, omega arith, same_Some row.1 w here)
    by false later here = Contains-there row.1 w (map (λ row. row.1) rows) (later here)

pub IsUniverse-rows : {V : Type 0} (order : V → V → Ordering) (rows : List (V × V)) (v : V) → IsUniverse (value_at order rows) v (universe rows v)
IsUniverse-rows order rows v = record {
  has_start = Contains-here v (map (λ row. row.1) rows);
  leads = λ y z inside follows. Contains-there v z (map (λ row. row.1) rows) (found_stands order rows y z follows);
}

module _ {X : Type 0} (next : X → Option X) where
  -- where nothing follows the start, nothing follows any state
  pub alone_stands : (x : X) → next x ≡ None → (y : X) → StandsIn next x y → next y ≡ None
  alone_stands x none y stands = subst (λ w. next w ≡ None) (sym (stands_alone next x y none stands)) none

  -- and none comes again
  pub no_repeat_alone : (x : X) → next x ≡ None → (z : X) → IsRepeat next x z → ⊥
  no_repeat_alone x none z repeats = ends_with_no_repeat next x x z (alone next x none) repeats.again

  pub no_repeat_where_none : (o : Option X) (z : X) → option_and_then next o ≡ None → IsSomeAnd o (λ start. IsRepeat next start z) → ⊥
  no_repeat_where_none None z none repeats = repeats
  no_repeat_where_none (Some x) z none repeats = no_repeat_alone x none z repeats

  -- the walk tells so, unless it is refused
  pub same_alone : {E : Type 0} (x : X) → next x ≡ None → (result : Result (Outcome X) E) → IfOk result (IsOutcome next x) → IsOk result → result ≡ Ok Same
  same_alone x none (Ok Same) outcome ok = refl
  same_alone x none (Ok (Ends y)) outcome ok = absurd (false≢true (subst IsSome none outcome.0))
  same_alone x none (Ok (Repeats z)) outcome ok = absurd (no_repeat_alone x none z outcome)
  same_alone x none (Err e) outcome ok = absurd (false≢true ok)
