-- A run that there may be, and its end.
use Rattle.std.proofs.Common.{◌≡◌, zero, suc, ℕ, Option, Some, None, option_and_then, IfSome, unwrap_or, refl, ap, sym, ◌∙◌, subst}
use Rattle.std.specs.Option.{IsSome, IsSomeAnd, option_or}
use Rattle.std.proofs.lemmas.Bool.{false≢true}
use Rattle.std.proofs.lemmas.Option.{none-some, same_Some}
use Rattle.icu_locale_runs.specs.Run.{at, StandsIn, EndsAt, IsLaterEnd, IsLaterEndOf, EndsIfAny, BecomesEnd, IsRepeat, AllBehind}
use Rattle.icu_locale_runs.specs.laws.Runs.{ends_with_no_repeat, repeat_is_unique}

module _ {X : Type 0} (next : X → Option X) where
  -- ---- where nothing follows the start

  pub none_later : (x : X) → next x ≡ None → (place : ℕ) → at next x (suc place) ≡ None
  none_later x none zero = none
  none_later x none (suc place) = ap (option_and_then next) (none_later x none place)

  -- the start is alone
  pub stands_alone : (x y : X) → next x ≡ None → StandsIn next x y → y ≡ x
  stands_alone x y none (zero, here) = sym (same_Some x y here)
  stands_alone x y none (suc place, here) = absurd (none-some y (sym (none_later x none place) ∙ here))

  -- and is the end
  pub alone : (x : X) → next x ≡ None → EndsAt next x x
  alone x none = record { stands = (0, refl); last = none }

  -- so nothing follows it
  pub none_stands_behind : (P : X → Type 0) (x : X) → next x ≡ None → AllBehind P next x
  none_stands_behind P x none y stands = subst (λ w. IfSome (next w) P) (sym (stands_alone x y none stands)) (subst (λ o. IfSome o P) (sym none) tt)

  pub none_behind_any : (P : X → Type 0) (o : Option X) → option_and_then next o ≡ None → IfSome o (AllBehind P next)
  none_behind_any P None none = tt
  none_behind_any P (Some x) none = none_stands_behind P x none

  pub in_place : (o : Option X) → option_and_then next o ≡ None → IfSome o (λ x. EndsAt next x x)
  in_place None none = tt
  in_place (Some x) none = alone x none

  pub kept : (o : Option X) → option_and_then next o ≡ None → BecomesEnd next o o
  kept None none = refl
  kept (Some x) none = alone x none

  pub no_later_end : (o : Option X) → option_and_then next o ≡ None → IsLaterEndOf next o None
  no_later_end None none = refl
  no_later_end (Some x) none = none

  pub later_end_none : (o end : Option X) → option_and_then next o ≡ None → IsLaterEndOf next o end → end ≡ None
  later_end_none None end none h = h
  later_end_none (Some x) None none h = refl
  later_end_none (Some x) (Some y) none h = absurd (false≢true (subst IsSome none h.0))

  pub same_where_none : (o new : Option X) → option_and_then next o ≡ None → BecomesEnd next o new → new ≡ o
  same_where_none None new none h = h
  same_where_none (Some x) None none h = absurd h
  same_where_none (Some x) (Some y) none h = ap Some (stands_alone x y none h.stands)

  -- ---- from a later end

  pub EndsAt-later_end : (x : X) (end : Option X) → IsLaterEnd next x end → EndsAt next x (unwrap_or end x)
  EndsAt-later_end x None h = alone x h
  EndsAt-later_end x (Some y) h = h.1

  pub EndsIfAny-later_end : (o end : Option X) → IsLaterEndOf next o end → EndsIfAny next o
  EndsIfAny-later_end None end h = tt
  EndsIfAny-later_end (Some x) end h = (unwrap_or end x, EndsAt-later_end x end h)

  pub BecomesEnd-later_end : (o end : Option X) → IsLaterEndOf next o end → BecomesEnd next o (option_or end o)
  BecomesEnd-later_end None end h = ap (λ e. option_or e None) h
  BecomesEnd-later_end (Some x) None h = alone x h
  BecomesEnd-later_end (Some x) (Some y) h = h.1

  -- ---- from an end

  -- nothing follows it
  pub none_behind : (o new : Option X) → BecomesEnd next o new → option_and_then next new ≡ None
  none_behind None new h = ap (option_and_then next) h
  none_behind (Some x) None h = absurd h
  none_behind (Some x) (Some y) h = h.last

  pub EndsIfAny-becomes : (o new : Option X) → BecomesEnd next o new → EndsIfAny next o
  EndsIfAny-becomes None new h = tt
  EndsIfAny-becomes (Some x) None h = absurd h
  EndsIfAny-becomes (Some x) (Some y) h = (y, h)

  -- ---- ends and repeats

  pub not_both : (o : Option X) (z : X) → EndsIfAny next o → IsSomeAnd o (λ x. IsRepeat next x z) → ⊥
  not_both None z ends repeats = repeats
  not_both (Some x) z ends repeats = ends_with_no_repeat next x ends.0 z ends.1 repeats.again

  pub same_repeat : (o : Option X) (y z : X) → IsSomeAnd o (λ x. IsRepeat next x y) → IsSomeAnd o (λ x. IsRepeat next x z) → y ≡ z
  same_repeat None y z a b = absurd a
  same_repeat (Some x) y z a b = repeat_is_unique next x y z a b
