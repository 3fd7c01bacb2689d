-- How a locale identifier is built: from an identifier alone, part by part.
use Rattle.std.specs.Prelude.{ℕ, List, [], None, Some, Result, Ok, Err}
use Rattle.icu_locale_core.specs.declared.langid.LanguageIdentifier.{LanguageIdentifier}
use Rattle.icu_locale_core.specs.declared.parse_error.ParseError.{ParseError}
use Rattle.icu_locale_core.specs.Cuts.{Block}
use Rattle.icu_locale_extensions.specs.declared.identifier.LocaleIdentifier.{LocaleIdentifier}

-- a locale identifier without extensions and private use
abbrev pub bare : LanguageIdentifier → LocaleIdentifier
bare x = record {
  locale = record {
    id = x;
    extensions = record { unicode = record { keywords = [] }; transform = record { lang = None } };
  };
  attributes = [];
  fields = [];
  others = [];
  private_use = None;
}

-- what was read as an identifier, as a locale identifier
abbrev pub as_locale : Result LanguageIdentifier ParseError → Result LocaleIdentifier ParseError
as_locale (Ok x) = Ok (bare x)
as_locale (Err e) = Err e

-- with another identifier, other attributes, other keywords, a language of t, other fields, other extensions, private use
abbrev pub with_id : LocaleIdentifier → LanguageIdentifier → LocaleIdentifier
with_id x id = record x { locale = record x.locale { id = id } }

abbrev pub with_attributes : LocaleIdentifier → List (List ℕ) → LocaleIdentifier
with_attributes x ps = record x { attributes = ps }

abbrev pub with_keywords : LocaleIdentifier → List Block → LocaleIdentifier
with_keywords x rows = record x {
  locale = record x.locale {
    extensions = record x.locale.extensions { unicode = record { keywords = rows } };
  };
}

abbrev pub with_language : LocaleIdentifier → LanguageIdentifier → LocaleIdentifier
with_language x l = record x {
  locale = record x.locale {
    extensions = record x.locale.extensions { transform = record { lang = Some l } };
  };
}

abbrev pub with_fields : LocaleIdentifier → List Block → LocaleIdentifier
with_fields x rows = record x { fields = rows }

abbrev pub with_others : LocaleIdentifier → List Block → LocaleIdentifier
with_others x rows = record x { others = rows }

abbrev pub with_private_use : LocaleIdentifier → List (List ℕ) → LocaleIdentifier
with_private_use x ps = record x { private_use = Some ps }
