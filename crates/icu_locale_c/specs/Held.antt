-- The code of what a handle holds.
use Rattle.std.specs.Prelude.{List, Option}
use Rattle.std.specs.Coded.{Coded, code_by, coded×, coded_list, coded_option}
use Rattle.icu_locale_core.specs.contracts.langid.LanguageIdentifier.{the_row as identifier_row}
use Rattle.icu_locale_core.specs.declared.langid.LanguageIdentifier.{LanguageIdentifier}
use Rattle.icu_locale_extensions.specs.contracts.identifier.LocaleIdentifier.{the_row as whole_row}
use Rattle.icu_locale_extensions.specs.declared.identifier.LocaleIdentifier.{LocaleIdentifier}
use Rattle.icu_tables.specs.contracts.tables.Tables.{the_row as tables_row}
use Rattle.icu_tables.specs.declared.tables.Tables.{Tables}
use Rattle.icu_locale_lines.specs.Held.{Held}

abbrev pub held_code : Coded Held
held_code = code_by (Tables × (Option (List LanguageIdentifier) × List LocaleIdentifier))
    (coded× tables_row.coded (coded× (coded_option (coded_list identifier_row.coded))
    (coded_list whole_row.coded))) (λ h. (h.tables, (h.available, h.wholes)))
    (λ p. record { tables = p.0; available = p.1.0; wholes = p.1.1 }) (λ h i. h)
