use Rattle.std.proofs.Common.{◌≡◌, drop}
use Rattle.icu_locale_core.specs.Identifier.{pieces}
use Rattle.icu_locale_extensions.specs.Syntaxes.{value_of}
use Rattle.icu_locale_extensions.specs.inner.Tables.{rows_of}
use Rattle.icu_locale_extensions.proofs.legacy.value_of.Given as goal

-- no row so far has the pieces
abbrev pub invariant-loop-tag : goal.invariant-loop-tag
invariant-loop-tag l = value_of (rows_of l.fn.rows) (pieces l.text) ≡ value_of (rows_of (drop l.tag-index l.rows)) (pieces l.text)
