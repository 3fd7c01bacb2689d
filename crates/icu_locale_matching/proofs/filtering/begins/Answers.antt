use Rattle.std.proofs.Common.{◌∙◌, ◌++◌, ◌∷◌, ◌&&◌, List, ℕ, sym, ap}
use Rattle.std.specs.Option.{option_to_list}
use Rattle.icu_locale_matching.specs.Service.{begins, subtags_of}
use Rattle.icu_locale_matching.proofs.filtering.begins.Goals as goal

-- the language is another
pub returns-then-not-takes : goal.returns-then-not-takes
returns-then-not-takes c =
    let ps : List (List ℕ) = option_to_list c.args.range.now.script ++ option_to_list c.args.range.now.region in
    sym (ap (λ t. begins (t ∷ ps) (subtags_of c.args.id.now)) (sym c.as_str.ensures.text)
    ∙ ap (begins (c.as_str.result.now ∷ ps)) (sym c.of-rest.ensures)
    ∙ c.takes.ensures ps
    ∙ ap (λ r. r && begins ps c.takes.new.self) c.if-not-takes.true)
