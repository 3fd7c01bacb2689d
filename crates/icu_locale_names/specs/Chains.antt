-- The chains of kinds of names, and requests in order: the first that is answered decides.
use Rattle.std.specs.Prelude.{Bool, true, false, List, [], ◌∷◌, ◌++◌, if◌then◌else◌, Result, Ok, Err}
use Rattle.icu_provider.specs.declared.error.DataError.{DataError}
use Rattle.icu_provider.specs.declared.error.DataErrorKind.{DataErrorKind}
use Rattle.icu_provider.specs.declared.error.DataErrorKind.TheVariants.{IdentifierNotFound}
use Rattle.icu_provider.specs.declared.names.NameMarker.{NameMarker}
use Rattle.icu_provider.specs.declared.names.NameMarker.TheVariants.{RegionMediumTiny, RegionShortTiny, RegionMediumLight, RegionShortLight}
use Rattle.icu_provider.specs.declared.names.NameMarker.TheVariants.{ScriptMediumTiny, ScriptMediumLight, ScriptMediumHeavy, ScriptShortHeavy}
use Rattle.icu_provider.specs.declared.names.NameMarker.TheVariants.{VariantMediumHeavy}

-- there is no data for a request
abbrev pub is_missing : DataErrorKind → Bool
is_missing IdentifierNotFound = true
is_missing _ = false

-- an answer, and the next one only where the first is IdentifierNotFound
abbrev pub or_next : {A : Type 0} → Result A DataError → Result A DataError
    → Result A DataError
or_next (Ok found) next = Ok found
or_next (Err refusal) next = if is_missing refusal.kind then next else Err refusal

-- the first answer other than IdentifierNotFound, and IdentifierNotFound where there is none
abbrev pub first_hit : {Q A : Type 0} → (Q → Result A DataError) → List Q
    → Result A DataError
first_hit ask [] = Err (record { kind = IdentifierNotFound })
first_hit ask (request ∷ requests) = or_next (ask request) (first_hit ask requests)

-- what is made of an answer, a refusal staying as it is
abbrev pub made_of : {A B : Type 0} → (A → B) → Result A DataError → Result B DataError
made_of make (Ok found) = Ok (make found)
made_of make (Err refusal) = Err refusal

-- an answer, and what is in its place where it is IdentifierNotFound
abbrev pub if_missing : {A : Type 0} → A → Result A DataError → Result A DataError
if_missing raw (Ok found) = Ok found
if_missing raw (Err refusal) = if is_missing refusal.kind then Ok raw else Err refusal

-- an answer, and then one that is asked by it; the first refusal
abbrev pub and_then : {A B : Type 0} → Result A DataError → (A → Result B DataError)
    → Result B DataError
and_then (Ok found) next = next found
and_then (Err refusal) next = Err refusal

-- the answers to a list of requests in order, after earlier ones; the first refusal
abbrev pub answers_behind : {Q A : Type 0} → (Q → Result A DataError) → List A → List Q
    → Result (List A) DataError
answers_behind ask earlier [] = Ok earlier
answers_behind ask earlier (request ∷ requests) =
    and_then (ask request) (λ answer. answers_behind ask (earlier ++ answer ∷ []) requests)

-- the answers to a list of requests in order, or the first refusal
abbrev pub answer_all : {Q A : Type 0} → (Q → Result A DataError) → List Q
    → Result (List A) DataError
answer_all ask requests = answers_behind ask [] requests

-- names of regions
abbrev pub region_tiny : List NameMarker
region_tiny = RegionMediumTiny ∷ []

abbrev pub region_short_tiny : List NameMarker
region_short_tiny = RegionShortTiny ∷ RegionMediumTiny ∷ []

abbrev pub region_light : List NameMarker
region_light = RegionMediumLight ∷ RegionMediumTiny ∷ []

abbrev pub region_short_light : List NameMarker
region_short_light =
    RegionShortLight ∷ RegionShortTiny ∷ RegionMediumLight ∷ RegionMediumTiny ∷ []

-- names of scripts
abbrev pub script_tiny : List NameMarker
script_tiny = ScriptMediumTiny ∷ []

abbrev pub script_light : List NameMarker
script_light = ScriptMediumLight ∷ ScriptMediumTiny ∷ []

abbrev pub script_heavy : List NameMarker
script_heavy = ScriptMediumHeavy ∷ ScriptMediumLight ∷ ScriptMediumTiny ∷ []

abbrev pub script_short_heavy : List NameMarker
script_short_heavy =
    ScriptShortHeavy ∷ ScriptMediumHeavy ∷ ScriptMediumLight ∷ ScriptMediumTiny ∷ []

-- names of variants
abbrev pub variant_heavy : List NameMarker
variant_heavy = VariantMediumHeavy ∷ []
