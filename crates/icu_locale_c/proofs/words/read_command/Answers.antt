use Rattle.std.proofs.Common.{◌≡◌, Some, ap, sym, ◌∙◌}
use Rattle.std.specs.List.{slice_split}
use Rattle.std.proofs.lemmas.Option.{same_Some}
use Rattle.std.proofs.lemmas.Result.{IfErr-weaker}
use Rattle.icu_locale_lines.specs.Grammar.{parse}
use Rattle.icu_locale_lines.specs.Lists.{is_space}
use Rattle.icu_locale_lines.specs.declared.command.LineCommand.{LineCommand}
use Rattle.icu_locale_lines.specs.laws.Words.{word_parsed}
use Rattle.icu_locale_c.specs.Calls.{plainly}
use Rattle.icu_locale_c.proofs.words.read_command.Goals as goal

-- what is asked for is no command that answers lines over the tables that are held
pub returns-in-Some-from_words-clause-refused : goal.returns-in-Some-from_words-clause-refused
returns-in-Some-from_words-clause-refused c =
    let told : c.from_words.result ≡ parse (slice_split is_space c.args.text.now) =
    c.from_words.ensures ∙ ap parse (c.cut.ensures ∙ ap (slice_split is_space) c.in-Ok.ensures.cases.0) in
    IfErr-weaker c.lines_of.result _ _ (λ e h. (h.0, λ utf8 k names. h.1 k (same_Some _ _ (sym c.in-Some-from_words.is ∙ told ∙ names)))) c.lines_of.ensures.refused

-- one word alone
pub returns-in-Some-clause-named : goal.returns-in-Some-clause-named
returns-in-Some-clause-named c =
    word_parsed c.args.text.now c.in-Some.task (sym c.task_of.ensures ∙ c.in-Some.is) ∙ ap (λ (l : LineCommand). Some (plainly l)) (sym c.plain.ensures)
