use Rattle.std.proofs.Common.{rules, [], ◌∷◌}
use Rattle.std.proofs.lemmas.Fn.{always_returns_same}
use Rattle.icu_locale_core.specs.laws.SortedMaps.{searched}
use Rattle.icu_locale_validity.specs.Types.{value_cmp}
use Rattle.icu_locale_validity.proofs.Ones.{value_total}
use Rattle.icu_locale_validity.proofs.listed.find_value.Goals as goal

-- the closure compares a row's value with the one that is sought
pub returns : goal.returns
returns c =
    let facts = c.binary_search_by.ensures in
    let by_value = facts.position (λ row. value_cmp row.0 (c.args.piece ∷ [])) (always_returns_same _ _ _ (λ a r f called. search rules)) in
    searched value_total c.args.rows.now (c.args.piece ∷ []) c.binary_search_by.result c.requires facts.bound by_value
