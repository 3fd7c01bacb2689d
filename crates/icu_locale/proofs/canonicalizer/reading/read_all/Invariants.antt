use Rattle.std.proofs.Common.{take}
use Rattle.icu_locale.specs.Rules.{AreRead}
use Rattle.icu_locale.proofs.canonicalizer.reading.read_all.Given as goal

abbrev pub invariant-loop-row : goal.invariant-loop-row
invariant-loop-row g l = AreRead g.R.Readable.reads (take l.row-index l.rows) l.list.items
