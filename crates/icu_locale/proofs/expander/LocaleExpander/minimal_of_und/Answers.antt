use Rattle.std.proofs.Common.{sym, ◌∙◌}
use Rattle.icu_locale.specs.Locales.{locale_with}
use Rattle.icu_locale.proofs.Rows.{moved}
use Rattle.icu_locale.proofs.expander.LocaleExpander.minimal_of_und.Goals as goal

-- the maximal form has the script and the region
pub returns : goal.returns
returns c =
    let maximal = c.maximal_of_bare-maximal.result in
    moved _ c.args.favor _ _ _ (sym c.maximal_of_bare-maximal.ensures ∙ (λ i. locale_with maximal.language (c.in-Some.is i)
    (c.in-Some-region.is i))) c.minimal_of_full.ensures
