use Rattle.std.proofs.Common.{List, ℕ, None, subst}
use Rattle.icu_locale_extensions.specs.Grammar.{Spells}
use Rattle.icu_locale_extensions.specs.Locales.{IsLocaleIdentifier}
use Rattle.icu_locale_extensions.specs.declared.identifier.LocaleIdentifier.{LocaleIdentifier}
use Rattle.icu_locale_places.specs.Places.{IsFault}
use Rattle.icu_locale_lines.specs.Answers.{IsPlaceOf}
use Rattle.icu_locale_lines.proofs.work.places.place_of.Goals as goal
use Rattle.icu_locale_lines.proofs.work.places.place_of.Goals.{in-Ok, in-Err-At, in-Err-Memory}

-- a line that is read has no place
placeless : (line : List ℕ) (x : LocaleIdentifier) → IsLocaleIdentifier x × Spells line x → IsPlaceOf line None
placeless line x spelled = (x, spelled)

pub returns-clause-place : goal.returns-clause-place
returns-clause-place c = elim c.match-read_at.branch [
  | in-Ok w ↦ rw w.result-is (placeless c.args.line.now _ w.in-Ok.ensures.read)
  | in-Err-At w ↦ rw w.result-is (subst (IsFault c.args.line.now) w.in-Err-At.field-0-is w.in-Err-At.ensures.refused)
  | in-Err-Memory w ↦ rw w.result-is tt
]
