use Rattle.uses.proofs.ValidForms.{own_form, valid_form, valid_id}
use Rattle.uses.proofs.ValidIds.{sign_alone}
use Rattle.uses.proofs.valid.valid_is_canonical.Goals as goal

pub returns-clause-matched : goal.returns-clause-matched
returns-clause-matched c = λ v likely rules x aliased valid. sign_alone v likely rules aliased x.locale.id (valid_id v x valid)

pub returns-clause-kept : goal.returns-clause-kept
returns-clause-kept c = λ v likely rules x aliased valid none. own_form v x valid likely rules aliased none

pub returns-clause-valid : goal.returns-clause-valid
returns-clause-valid c = λ v likely rules x aliased signs valid. valid_form v x valid likely rules aliased signs
