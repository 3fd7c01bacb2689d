use Rattle.icu_locale_c.proofs.lines.line_of.Goals as goal

pub returns-in-Ok-clause-first : goal.returns-in-Ok-clause-first
returns-in-Ok-clause-first c = c.keep.ensures.first c.requires.first
