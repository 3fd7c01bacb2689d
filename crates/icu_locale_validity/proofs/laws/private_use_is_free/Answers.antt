use Rattle.std.proofs.Common.{refl}
use Rattle.icu_locale_validity.proofs.laws.private_use_is_free.Goals as goal

pub returns-clause-valid : goal.returns-clause-valid
returns-clause-valid c = λ v x p. refl

pub returns-clause-told : goal.returns-clause-told
returns-clause-told c = λ v t x p. refl
