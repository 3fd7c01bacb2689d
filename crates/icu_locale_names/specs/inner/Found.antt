-- What is found, if anything.
use Rattle.std.specs.Prelude.{Option, Some, None, Result, Ok, Err}
use Rattle.icu_provider.specs.declared.error.DataError.{DataError}
use Rattle.icu_provider.specs.declared.error.DataErrorKind.TheVariants.{IdentifierNotFound}

-- what is found, and IdentifierNotFound where it is nothing
abbrev pub or_missing : {A : Type 0} → Result (Option A) DataError → Result A DataError
or_missing (Ok (Some found)) = Ok found
or_missing (Ok None) = Err (record { kind = IdentifierNotFound })
or_missing (Err refusal) = Err refusal
