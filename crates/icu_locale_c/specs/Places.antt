-- Where a text is no locale identifier (UTS #35 Part 1, section 3.2, unicode_locale_id).
use Rattle.std.specs.Prelude.{◌≡◌, ℕ, List, Bool, true, false, Result, Ok, Err}
use Rattle.icu_locale_core.specs.Identifier.{pieces}
use Rattle.icu_locale_extensions.specs.Grammar.{IsLocaleId}
use Rattle.icu_locale_extensions.specs.declared.identifier.LocaleIdentifier.{LocaleIdentifier}
use Rattle.icu_locale_places.specs.Places.{IsWrongAt}
use Rattle.icu_locale_c.specs.declared.refusal.Refusal.{Refusal}
use Rattle.icu_locale_c.specs.declared.refusal.Refusal.TheVariants as refusal

-- a text spells a locale identifier, or spells none and the bytes are told where it is wrong
abbrev pub IsPlaced : List ℕ → ℕ × ℕ → ℕ × ℕ → Result Bool Refusal → Type 0
IsPlaced text old new (Ok true) =
    ((x : LocaleIdentifier) × IsLocaleId (pieces text) x) × (new ≡ old)
IsPlaced text old new (Ok false) =
    ((x : LocaleIdentifier) → ¬ (IsLocaleId (pieces text) x)) × IsWrongAt text new.0 new.1
IsPlaced text old new (Err refusal.Memory) = new ≡ old
IsPlaced text old new (Err e) = ⊥
