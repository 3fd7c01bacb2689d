use Rattle.std.proofs.Common.{◌∙◌, ◌||◌, ap, sym, None}
use Rattle.std.proofs.lemmas.Bool.{or_left}
use Rattle.icu_locale_full_names.specs.FullNames.{further_texts}
use Rattle.icu_locale_full_names.specs.inner.Drafts.{is_any}
use Rattle.icu_locale_full_names.proofs.Silence.{silent_name, none_by_test, some_is}
use Rattle.icu_locale_full_names.proofs.whole.says_more.Goals as goal

-- there is a language of `t`
pub returns-then-is_some-clause-told : goal.returns-then-is_some-clause-told
returns-then-is_some-clause-told c = λ names separator.
    sym (or_left _ _ (sym c.is_some.ensures ∙ c.if-is_some.true))

-- there is none, so it is the rest that says something
pub returns-clause-told : goal.returns-clause-told
returns-clause-told c = λ names separator.
    let texts = further_texts names separator None c.args.x.now in
    c.has_further.ensures names separator ∙ some_is texts
    ∙ sym (ap (λ b. b || is_any texts) (sym c.is_some.ensures ∙ c.if-is_some.false))

-- there is no language of `t`, and nothing else is said
pub returns-clause-silent : goal.returns-clause-silent
returns-clause-silent c = λ says answers chain display names.
    silent_name answers chain display names c.args.x.now (none_by_test c.args.x.now.locale.extensions.transform.lang (sym c.is_some.ensures ∙ c.if-is_some.false))
    (λ separator. sym (c.has_further.ensures names separator) ∙ says)
