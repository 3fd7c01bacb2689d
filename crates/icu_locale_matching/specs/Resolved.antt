-- What is served, with the reader's own region, variants and extensions: what ICU's makeResolvedLocale gives.
use Rattle.std.specs.Prelude.{Bool, not, if◌then◌else◌}
use Rattle.std.specs.Option.{option_or}
use Rattle.icu_locale_core.specs.TextSet.{empty}
use Rattle.icu_locale_core.specs.laws.Identifiers.{same_texts}
use Rattle.icu_locale_core.specs.declared.langid.LanguageIdentifier.{LanguageIdentifier}
use Rattle.icu_locale_extensions.specs.Built.{with_id}
use Rattle.icu_locale_extensions.specs.declared.identifier.LocaleIdentifier.{LocaleIdentifier}

-- an identifier has a variant
abbrev pub is_varied : LanguageIdentifier → Bool
is_varied x = not (same_texts x.variants empty)

-- what is served, with the region and the variants of what is wanted where it has such
abbrev pub resolved_id : (served wanted : LanguageIdentifier) → LanguageIdentifier
resolved_id served wanted = record served {
  region = option_or wanted.region served.region;
  variants = if is_varied wanted then wanted.variants else served.variants;
}

-- the same with the extensions of what is wanted
abbrev pub resolved : LanguageIdentifier → LocaleIdentifier → LocaleIdentifier
resolved served wanted = with_id wanted (resolved_id served wanted.locale.id)
