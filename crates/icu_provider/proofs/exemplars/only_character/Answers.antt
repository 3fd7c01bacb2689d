use Rattle.std.proofs.Common.{sym, ap, ◌∙◌}
use Rattle.std.proofs.lemmas.Str.{chars_past_char}
use Rattle.std.specs.Str.{chars}
use Rattle.icu_provider.specs.Exemplars.{only_item}
use Rattle.icu_provider.proofs.StringSets.{more_follow, none_follows}
use Rattle.icu_provider.proofs.exemplars.only_character.Goals as goal

pub returns-in-Some : goal.returns-in-Some
returns-in-Some c =
    let rest = c.next.new.self.rest.now in
    let spelled = chars_past_char c.args.text.now rest c.in_ok-first.first c.utf8.text (sym c.chars-characters.ensures.rest ∙ c.in_ok-first.ensures.steps.0) in
    sym (ap only_item spelled ∙ more_follow c.in_ok-first.first c.in-Some.field-0 (chars rest) (sym c.in-Some.is ∙ c.next-2.ensures.steps.2))

pub returns-in-None : goal.returns-in-None
returns-in-None c =
    let rest = c.next.new.self.rest.now in
    let spelled = chars_past_char c.args.text.now rest c.in_ok-first.first c.utf8.text (sym c.chars-characters.ensures.rest ∙ c.in_ok-first.ensures.steps.0) in
    sym (ap only_item spelled ∙ none_follows c.in_ok-first.first (chars rest) (sym c.in-None.is ∙ c.next-2.ensures.steps.2))
