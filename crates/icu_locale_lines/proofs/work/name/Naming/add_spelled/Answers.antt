use Rattle.std.proofs.Common.{◌≡◌, ◌∙◌, ap, sym, subst}
use Rattle.icu_locale_names.specs.LanguageChains.{chain_of}
use Rattle.icu_locale_names.specs.declared.options.LanguageDisplay.TheVariants.{Dialect}
use Rattle.icu_locale_lines.specs.Names.{answers_in, name_asked, name_asked_with, whole_name_asked, IsNamedLine}
use Rattle.icu_locale_lines.proofs.LineAnswers.{if_adds}
use Rattle.icu_locale_lines.proofs.work.name.Naming.add_spelled.Goals as goal

-- nothing is said beside the identifier, so it has its name
pub returns-else-says_more-clause-answer : goal.returns-else-says_more-clause-answer
returns-else-says_more-clause-answer c =
    let n = c.args.self.now in
    let whole = c.args.whole.now in
    let asked : whole_name_asked n whole ≡ name_asked n whole.locale.id =
    ap (λ extensions. name_asked_with n extensions whole) c.in-Some.is
    ∙ c.says_more.ensures.silent c.if-says_more.false (answers_in n.tables n.preferences.locale) (chain_of n.chain) Dialect c.in-Some.names.now in
    if_adds _ _ (λ t a h. subst (λ name. IsNamedLine name t a) (sym asked) h) _ _ c.add.result c.add.ensures.answer
