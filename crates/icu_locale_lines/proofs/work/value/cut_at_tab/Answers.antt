use Rattle.std.proofs.Common.{Some, drop, ap, sym, ◌∙◌}
use Rattle.std.proofs.lemmas.List.{drop-drop}
use Rattle.icu_locale_lines.specs.Locales.{is_tab}
use Rattle.icu_locale_lines.proofs.LineCuts.{before_first-position, before_first-no_position}
use Rattle.icu_locale_lines.proofs.LocaleLines.{value_text-position, value_text-no_position}
use Rattle.icu_locale_lines.proofs.work.value.cut_at_tab.Goals as goal

pub returns-in-Some-clause-identifier : goal.returns-in-Some-clause-identifier
returns-in-Some-clause-identifier c = c.split_at.ensures.front ∙ sym (before_first-position is_tab c.args.line.now c.in-Some.place (sym c.in-Some.ensures))

pub returns-in-Some-clause-value : goal.returns-in-Some-clause-value
returns-in-Some-clause-value c =
    ap Some (c.split_at-in-Some.ensures.back ∙ ap (drop 1) c.split_at.ensures.back ∙ drop-drop 1 c.in-Some.place c.args.line.now)
    ∙ sym (value_text-position c.args.line.now c.in-Some.place (sym c.in-Some.ensures))

pub returns-in-None-clause-identifier : goal.returns-in-None-clause-identifier
returns-in-None-clause-identifier c = sym (before_first-no_position is_tab c.args.line.now (sym c.in-None.ensures))

pub returns-in-None-clause-value : goal.returns-in-None-clause-value
returns-in-None-clause-value c = sym (value_text-no_position c.args.line.now (sym c.in-None.ensures))
