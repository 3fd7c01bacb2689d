use Rattle.uses.proofs.ValidForms.{own_whole, valid_whole}
use Rattle.uses.proofs.valid.valid_is_whole.Goals as goal

pub returns-clause-kept : goal.returns-clause-kept
returns-clause-kept c = λ v by x maps aliased valid none no_signs. own_whole v x valid by aliased maps (c.without_aliases.ensures.whole by) none no_signs

pub returns-clause-valid : goal.returns-clause-valid
returns-clause-valid c = λ v by x maps aliased signs valid. valid_whole v x valid by aliased maps (c.without_aliases.ensures.whole by) signs
