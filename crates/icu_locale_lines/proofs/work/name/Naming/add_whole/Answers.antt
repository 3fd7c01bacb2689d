use Rattle.std.proofs.Common.{subst, sym, inl, inr}
use Rattle.icu_locale_names.specs.LanguageChains.{chain_of}
use Rattle.icu_locale_names.specs.declared.options.LanguageDisplay.TheVariants.{Dialect}
use Rattle.icu_locale_full_names.specs.FullNames.{GivesFullName}
use Rattle.icu_locale_lines.specs.Names.{answers_in, IsNamedLine}
use Rattle.icu_locale_lines.proofs.FullNames.{refusal_of}
use Rattle.icu_locale_lines.proofs.LineAnswers.{if_adds, if_unnamed}
use Rattle.icu_locale_lines.proofs.work.name.Naming.add_whole.Goals as goal

-- the line of the name
pub returns-in-Ok-clause-answer : goal.returns-in-Ok-clause-answer
returns-in-Ok-clause-answer c =
    let n = c.args.self.now in
    let given = subst (GivesFullName (answers_in n.tables n.preferences.locale) (chain_of n.chain) Dialect c.args.names.now c.args.whole.now) c.in-Ok.is c.whole_name.ensures in
    let written = c.given_names_are_written.ensures (answers_in n.tables n.preferences.locale) (chain_of n.chain) Dialect c.args.names.now c.args.whole.now c.in-Ok.name given in
    if_adds _ _ (λ t a h. subst (λ name. IsNamedLine name t a) (sym written.1) h) _ _ c.add_full_name.result
    (c.add_full_name.ensures.answer written.0 written.2)

-- a refusal is that of the name, or for want of memory, which has no line
pub returns-in-Err-clause-answer : goal.returns-in-Err-clause-answer
returns-in-Err-clause-answer c =
    let n = c.args.self.now in
    let given = subst (GivesFullName (answers_in n.tables n.preferences.locale) (chain_of n.chain) Dialect c.args.names.now c.args.whole.now) c.in-Err.is c.whole_name.ensures in
    elim (refusal_of (answers_in n.tables n.preferences.locale) (chain_of n.chain) Dialect c.args.names.now c.args.whole.now c.in-Err.refusal given) [
      | inl is ↦ if_adds _ _ (λ t a h. subst (λ name. IsNamedLine name t a) (sym is) h) _ _ c.add_nameless.result c.add_nameless.ensures.answer
      | inr lacks ↦ if_unnamed c.in-Err.refusal lacks _ _ _ c.add_nameless.result c.add_nameless.ensures.told
    ]
