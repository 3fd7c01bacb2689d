use Rattle.std.proofs.Common.{◌≡◌, drop}
use Rattle.icu_locale_extensions.specs.Syntaxes.{has_row}
use Rattle.icu_locale_extensions.specs.inner.Tables.{rows_of}
use Rattle.icu_locale_extensions.proofs.bcp47.has_row.Given as goal

-- no row so far has the language with the prefix
abbrev pub invariant-loop-extended : goal.invariant-loop-extended
invariant-loop-extended l = has_row (rows_of l.fn.rows) l.prefix l.language ≡ has_row (rows_of (drop l.extended-index l.rows)) l.prefix l.language
