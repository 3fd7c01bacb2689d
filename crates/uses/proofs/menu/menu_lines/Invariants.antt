use Rattle.std.proofs.Common.{Ok, take}
use Rattle.std.specs.List.{AllZip}
use Rattle.icu_locale_names.specs.LanguageNames.{in_locale}
use Rattle.uses.specs.Menu.{IsLineFor}
use Rattle.uses.proofs.menu.menu_lines.Given as goal

-- the lines so far are those of the identifiers so far
abbrev pub invariant-loop-subject : goal.invariant-loop-subject
invariant-loop-subject g l =
    let answers = in_locale (g.P.DataProvider.name l.provider) (g.P.DataProvider.menu l.provider)
    (g.P.DataProvider.essentials l.provider) l.preferences.locale in
    AllZip (λ x line. IsLineFor answers x (Ok line)) (take l.subject-index l.subjects) l.lines.items
