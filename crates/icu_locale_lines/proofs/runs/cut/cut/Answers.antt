use Rattle.std.proofs.Common.{◌∙◌, sym, ◌∷◌}
use Rattle.std.proofs.lemmas.List.{drop-drop}
use Rattle.icu_locale_lines.specs.Lines.{is_line_feed, lines}
use Rattle.icu_locale_lines.proofs.Bounds.{lines_at}
use Rattle.icu_locale_lines.proofs.LineCuts.{before_first-position, after_first-position, before_first-no_position}
use Rattle.icu_locale_lines.proofs.LineCuts.{after_first-no_position}
use Rattle.icu_locale_lines.proofs.runs.cut.cut.Goals as goal

pub returns-in-Some-clause-first : goal.returns-in-Some-clause-first
returns-in-Some-clause-first c = c.split_at.ensures.front ∙ sym (before_first-position is_line_feed c.args.text.now c.in-Some.place (sym c.in-Some.ensures))

pub returns-in-Some-clause-rest : goal.returns-in-Some-clause-rest
returns-in-Some-clause-rest c =
    rw (c.split_at-in-Some.ensures.back, c.split_at.ensures.back) (drop-drop 1 c.in-Some.place c.args.text.now)
    ∙ sym (after_first-position is_line_feed c.args.text.now c.in-Some.place (sym c.in-Some.ensures))

pub returns-in-None-clause-first : goal.returns-in-None-clause-first
returns-in-None-clause-first c = sym (before_first-no_position is_line_feed c.args.text.now (sym c.in-None.ensures))

pub returns-in-None-clause-rest : goal.returns-in-None-clause-rest
returns-in-None-clause-rest c = sym (after_first-no_position is_line_feed c.args.text.now (sym c.in-None.ensures))

pub returns-in-Some-clause-lines : goal.returns-in-Some-clause-lines
returns-in-Some-clause-lines c some =
    lines_at c.args.text.now some ∙ (λ i. sym (returns-in-Some-clause-first c) i ∷ lines (sym (returns-in-Some-clause-rest c) i))

pub returns-in-None-clause-lines : goal.returns-in-None-clause-lines
returns-in-None-clause-lines c some =
    lines_at c.args.text.now some ∙ (λ i. sym (returns-in-None-clause-first c) i ∷ lines (sym (returns-in-None-clause-rest c) i))
