use Rattle.std.proofs.Common.{◌≡◌, ◌∙◌, sym, subst, true}
use Rattle.std.proofs.lemmas.Bool.{false≢true}
use Rattle.icu_locale_extensions.specs.Built.{bare}
use Rattle.icu_locale_extensions.specs.declared.identifier.LocaleIdentifier.{LocaleIdentifier}
use Rattle.icu_locale_extensions.specs.declared.syntax.Syntax.TheVariants.{Bcp47}
use Rattle.icu_locale_matching.proofs.requests.identifier_of_tag.Goals as goal
use Rattle.icu_locale_matching.proofs.requests.identifier_of_tag.Goals.{else-bare_alone-via-then-bare_alone+else-not-is_plain, else-bare_alone-via-else-bare_alone}

-- one with extensions is none
pub returns-then-not-is_plain : goal.returns-then-not-is_plain
returns-then-not-is_plain c = λ y asked.
    let tag = rw c.in-Ok-Some.field-0-is at c.in-Ok-Some.ensures in
    let same : asked.tag ≡ c.in-Ok-Some.tag = c.spelled_once_by.ensures Bcp47 c.args.range.now asked.tag c.in-Ok-Some.tag asked.is.1 tag.1 in
    let plain = subst (λ (x : LocaleIdentifier). x ≡ bare x.locale.id) same (asked.plain c.if-bare_alone.true) in
    false≢true (sym c.if-not-is_plain.true ∙ c.is_plain.ensures.1 plain)

pub returns : goal.returns
returns c =
    let plain : c.args.bare_alone ≡ true → c.in-Ok-Some.tag ≡ bare c.in-Ok-Some.tag.locale.id = elim c.else-bare_alone.branch [
      | else-bare_alone-via-then-bare_alone+else-not-is_plain w ↦ λ _. w.is_plain.ensures.0 w.if-not-is_plain.false
      | else-bare_alone-via-else-bare_alone w ↦ λ is. absurd (false≢true (sym w.if-bare_alone.false ∙ is))
    ] in
    record {
      tag = c.in-Ok-Some.tag;
      is = rw c.in-Ok-Some.field-0-is at c.in-Ok-Some.ensures;
      plain = plain;
      at = sym c.identifier_of.ensures;
    }
