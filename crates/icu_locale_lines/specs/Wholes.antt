-- Whole canonical forms, keys and their lines (UTS #35 Part 1, Annex C).
use Rattle.std.specs.Prelude.{◌≡◌, ◌≢◌, ◌↔◌, ◌⊎◌, ℕ, Bool, true, false, List}
use Rattle.icu_locale.specs.Canonical.{answer_of}
use Rattle.icu_locale.specs.declared.expander.TransformResult.{TransformResult}
use Rattle.icu_locale.specs.declared.expander.TransformResult.TheVariants.{Modified}
use Rattle.icu_locale_extensions.specs.Built.{bare}
use Rattle.icu_locale_extensions.specs.declared.identifier.LocaleIdentifier.{LocaleIdentifier}
use Rattle.icu_locale_values.specs.Refusals.{IsWholeRefusal, whole_error_name}
use Rattle.icu_locale_values.specs.Whole.{WholeRules, IsWhole, is_whole_applied}
use Rattle.icu_locale_values.specs.declared.error.WholeError.{WholeError}
use Rattle.icu_locale_values.specs.declared.error.WholeError.TheVariants.{Memory}
use Rattle.icu_locale_key.specs.Whole.{IsWholeKey, IsWholeKeyRefusal}
use Rattle.icu_locale_lines.specs.declared.command.KeyOf.{KeyOf}
use Rattle.icu_locale_lines.specs.declared.command.KeyOf.TheVariants.{Whole, Identifier}
use Rattle.icu_locale_lines.specs.Texts.{whole_line, refused_line}

-- the line of a refusal; want of memory has none
abbrev pub TellsWholeRefusal : WholeError → List ℕ → Bool → Type 0
TellsWholeRefusal Memory text accepted = ⊥
TellsWholeRefusal e text accepted =
    (text ≡ refused_line (whole_error_name e)) × (accepted ≡ false)

-- a locale identifier becomes canonical and that has its line, or its runs do not all end
abbrev pub IsCanonicalThen : (LocaleIdentifier → List ℕ → Bool → Type 0) → WholeRules
    → LocaleIdentifier → List ℕ → Bool → Type 0
IsCanonicalThen IsLine by x text accepted =
    ((new : LocaleIdentifier) × IsWhole by x new × IsLine new text accepted)
    ⊎ ((e : WholeError) × IsWholeRefusal by x e × TellsWholeRefusal e text accepted)

-- the line of a locale identifier that becomes canonical
abbrev pub IsWholeCanonicalized : WholeRules → LocaleIdentifier → List ℕ → Bool → Type 0
IsWholeCanonicalized by x text accepted = IsCanonicalThen
    (λ new t a. (t ≡ whole_line new (answer_of (is_whole_applied by x))) × (a ≡ true))
    by x text accepted

-- what a key is made of: a locale identifier, or its identifier alone
abbrev pub keyed : KeyOf → LocaleIdentifier → LocaleIdentifier
keyed Whole x = x
keyed Identifier x = bare x.locale.id

-- the line of the key of a locale identifier, and whether that differs, or of why it has none
abbrev pub IsKeyed : WholeRules → LocaleIdentifier → List ℕ → Bool → Type 0
IsKeyed by x text accepted =
    ((k : LocaleIdentifier) × (m : TransformResult) × IsWholeKey by x k
    × ((m ≡ Modified) ↔ (k ≢ x)) × (text ≡ whole_line k m) × (accepted ≡ true))
    ⊎ ((e : WholeError) × IsWholeKeyRefusal by x e × TellsWholeRefusal e text accepted)
