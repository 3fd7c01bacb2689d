use Rattle.std.proofs.Common.{ap, sym, ◌∙◌, inl, inr}
use Rattle.icu_locale_extensions.specs.Built.{bare}
use Rattle.icu_locale_extensions.specs.declared.identifier.LocaleIdentifier.{LocaleIdentifier}
use Rattle.icu_locale_lines.proofs.Alike.{line_bare}
use Rattle.icu_locale_lines.proofs.LineAnswers.{if_adds}
use Rattle.icu_locale_lines.proofs.work.key.KeyingAnswering.add_line.Goals as goal

-- the line of the key, which is that of the locale identifier that has it alone
pub returns-in-Ok-clause-answer : goal.returns-in-Ok-clause-answer
returns-in-Ok-clause-answer c =
    let key = c.bring_identifier_to_key.new.id in
    let changed = c.in-Ok.ensures.told in
    if_adds _ _ (λ t a h. inl (
      bare key,
      c.in-Ok.changed,
      c.in-Ok.ensures.key,
      (
        λ modified same. changed.0 modified (ap (λ (x : LocaleIdentifier). x.locale.id) same),
        λ other. changed.1 (λ same. other (ap bare same)),
      ),
      h.0 ∙ sym (line_bare key c.in-Ok.changed),
      h.1,
    )) _ _ c.add_changed.result c.add_changed.ensures.answer

-- and of why there is none
pub returns-in-Err-clause-answer : goal.returns-in-Err-clause-answer
returns-in-Err-clause-answer c = if_adds _ _ (λ t a h. inr (c.in-Err.refusal, c.in-Err.ensures.refused, h))
    _ _ c.add_refusal.result c.add_refusal.ensures.answer
