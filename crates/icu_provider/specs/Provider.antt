-- What a provider answers, and the names of its refusals.
use Rattle.std.specs.Prelude.{Result, Ok, Err, ℕ, List, codes}
use Rattle.std.specs.Borrow.{Bor}
use Rattle.icu_provider.specs.declared.error.DataErrorKind.{DataErrorKind}
use Rattle.icu_provider.specs.declared.error.DataErrorKind.TheVariants.{IdentifierNotFound, MarkerNotFound, InvalidRequest, Deserialize, Custom, Memory}

-- what an answer lends, or the refusal
abbrev pub lent : {T E : Type 0} → Result (Bor T) E → Result T E
lent (Ok x) = Ok x.now
lent (Err e) = Err e

-- what Display writes
abbrev pub kind_name : DataErrorKind → List ℕ
kind_name IdentifierNotFound = codes "IdentifierNotFound"
kind_name MarkerNotFound = codes "MarkerNotFound"
kind_name InvalidRequest = codes "InvalidRequest"
kind_name Deserialize = codes "Deserialize"
kind_name Custom = codes "Custom"
kind_name Memory = codes "Memory"
