use Rattle.std.proofs.Common.{◌≡◌, drop}
use Rattle.icu_locale_names.specs.Names.{menu_by}
use Rattle.icu_locale_names.proofs.chain.first_menu.Given as goal

-- what is left of the chain decides
abbrev pub invariant-loop-marker : goal.invariant-loop-marker
invariant-loop-marker g l =
    let asked = menu_by (g.P.DataProvider.menu l.provider) l.locale l.language in
    asked l.chain ≡ asked (drop l.marker-index l.chain)
