use Rattle.std.proofs.Common.{rules}
use Rattle.std.proofs.lemmas.Fn.{always_returns_same}
use Rattle.icu_locale_core.specs.TextSet.{text_cmp}
use Rattle.icu_locale_core.specs.laws.TextSets.{text_total}
use Rattle.icu_provider.specs.laws.SortedMaps.{searched}
use Rattle.icu_provider.proofs.table_text.search.Goals as goal

-- the closure compares a row's text with the one that is sought
pub returns : goal.returns
returns g c =
    let facts = c.binary_search_by.ensures in
    let by_text = facts.position (λ row. text_cmp row.0 c.args.text.now) (always_returns_same _ _ _ (λ a r f called. search rules)) in
    searched text_total c.args.rows.now c.args.text.now c.binary_search_by.result c.requires facts.bound by_text
