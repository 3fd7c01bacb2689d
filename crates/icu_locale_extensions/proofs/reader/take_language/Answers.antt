use Rattle.std.proofs.Common.{[], Err, ap, sym, subst, ◌∙◌, inl, inr}
use Rattle.icu_locale_extensions.specs.laws.Reader.{read_on}
use Rattle.icu_locale_extensions.specs.Built.{with_language}
use Rattle.icu_locale_extensions.specs.inner.Takes.{IsEnd}
use Rattle.icu_locale_extensions.specs.laws.Reader.Part.{fields}
use Rattle.icu_locale_extensions.proofs.Languages.{language_read, language_refused}
use Rattle.icu_locale_extensions.proofs.Taking.{end_front, handed_on, handed_memory, kept_front}
use Rattle.icu_locale_extensions.proofs.reader.take_language.Goals as goal

pub returns-in_err-lang-clause-read : goal.returns-in_err-lang-clause-read
returns-in_err-lang-clause-read c = handed_on c.from_residual.result c.in_err-lang.field-0.0 _ _ c.from_residual.ensures.0 c.from_residual.ensures.1
    (elim c.in_err-lang.ensures.refused [
      | inl memory ↦ inl memory
      | inr refused ↦ inr (language_refused c.args.x.now c.args.pieces.now c.requires (sym c.at_field.ensures ∙ c.if-at_field.false) refused.1
          ∙ ap Err (sym refused.0))
    ])

pub returns-clause-read : goal.returns-clause-read
returns-clause-read c =
    language_read c.args.x.now c.args.pieces.now c.in_ok-lang.lang c.requires (sym c.at_field.ensures ∙ c.if-at_field.false) c.in_ok-lang.ensures.read
    ∙ ap (read_on fields [] (with_language c.args.x.now c.in_ok-lang.lang)) (sym c.in_ok-lang.ensures.rest)

pub returns-clause-rest : goal.returns-clause-rest
returns-clause-rest c = subst (λ ps. IsEnd ps c.args.pieces.now) (sym c.in_ok-lang.ensures.rest) (end_front c.args.pieces.now)

pub returns-in_err-lang-clause-memory : goal.returns-in_err-lang-clause-memory
returns-in_err-lang-clause-memory c is = kept_front c.args.pieces.now (c.read_language.ensures.memory
    (handed_memory c.from_residual.result c.read_language.result c.in_err-lang.field-0.0 c.from_residual.ensures.0 c.from_residual.ensures.1 c.in_err-lang.was is))
