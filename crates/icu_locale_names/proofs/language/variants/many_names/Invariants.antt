use Rattle.std.proofs.Common.{◌≡◌, [], map}
use Rattle.icu_locale_core.specs.TextSet.{rising}
use Rattle.icu_provider.specs.declared.names.NameKey.TheVariants.{Variant}
use Rattle.icu_locale_names.specs.Chains.{variant_heavy, answers_behind}
use Rattle.icu_locale_names.specs.LanguageNames.{qualifier}
use Rattle.icu_locale_names.specs.Shown.{piece_of}
use Rattle.icu_locale_names.proofs.language.variants.many_names.Given as goal

-- the names so far, and the answers to the variants that are left after them
abbrev pub invariant-loop-variant : goal.invariant-loop-variant
invariant-loop-variant g l =
    let ask = qualifier (λ marker key. g.P.DataProvider.name l.provider marker l.locale key) variant_heavy (λ v. Variant v) in
    answers_behind ask (map piece_of l.names.items) l.variant-iterator ≡ answers_behind ask [] (rising l.fn.variants)
