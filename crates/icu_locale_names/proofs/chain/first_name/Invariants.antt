use Rattle.std.proofs.Common.{◌≡◌, drop}
use Rattle.icu_locale_names.specs.Names.{name_by}
use Rattle.icu_locale_names.proofs.chain.first_name.Given as goal

-- what is left of the chain decides
abbrev pub invariant-loop-marker : goal.invariant-loop-marker
invariant-loop-marker g l =
    let asked = name_by (g.P.DataProvider.name l.provider) l.locale l.key in
    asked l.chain ≡ asked (drop l.marker-index l.chain)
