use Rattle.std.proofs.Common.{refl, sym, ap, ◌∙◌}
use Rattle.std.proofs.lemmas.Bool.{false≢true}
use Rattle.icu_provider.specs.InversionList.{is_inversion_list}
use Rattle.icu_provider.specs.laws.InversionLists.{IsInversionList-from_test, test_from_IsInversionList}
use Rattle.icu_provider.proofs.exemplars.ranges.CharacterRanges.try_new.Goals as goal

pub invariant_of-result : goal.invariant_of-result
invariant_of-result c = IsInversionList-from_test c.args.bounds.items (ap is_inversion_list (sym c.deref.ensures.value)
    ∙ sym c.is_inversion_list.ensures ∙ c.if-is_inversion_list.true)

pub returns-then-is_inversion_list-clause-accepted : goal.returns-then-is_inversion_list-clause-accepted
returns-then-is_inversion_list-clause-accepted c = (
  λ ok. IsInversionList-from_test c.args.bounds.items (ap is_inversion_list (sym c.deref.ensures.value) ∙ sym c.is_inversion_list.ensures
      ∙ c.if-is_inversion_list.true),
  λ is. refl,
)

pub returns-else-is_inversion_list-clause-accepted : goal.returns-else-is_inversion_list-clause-accepted
returns-else-is_inversion_list-clause-accepted c = (
  λ ok. absurd (false≢true ok),
  λ is. sym c.if-is_inversion_list.false ∙ c.is_inversion_list.ensures
      ∙ ap is_inversion_list c.deref.ensures.value ∙ test_from_IsInversionList c.args.bounds.items is,
)
