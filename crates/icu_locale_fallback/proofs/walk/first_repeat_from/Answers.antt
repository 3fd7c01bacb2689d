use Rattle.icu_locale_fallback.proofs.Universes.{IsUniverse-universe}
use Rattle.icu_locale_fallback.proofs.walk.first_repeat_from.Goals as goal

pub end_of_run-requires : goal.end_of_run-requires
end_of_run-requires c = IsUniverse-universe _ _ _ _
