use Rattle.std.proofs.Common.{◌∙◌, ◌∷◌, [], sym, ap}
use Rattle.std.specs.Option.{option_to_list}
use Rattle.icu_locale_matching.specs.Service.{begins}
use Rattle.icu_locale_matching.proofs.Choices.{and_true}
use Rattle.icu_locale_matching.proofs.filtering.Subtags.takes_region.Goals as goal

pub returns-in-Some : goal.returns-in-Some
returns-in-Some c =
    sym (c.takes.ensures [] ∙ and_true c.takes.result)
    ∙ ap (λ t. begins (t ∷ []) c.args.self.now) c.as_str.ensures.text
    ∙ ap (λ o. begins (option_to_list o) c.args.self.now) (sym c.in-Some.is)
