use Rattle.std.proofs.Common.{◌≡◌, drop}
use Rattle.icu_locale_names.specs.inner.LanguageParts.{keys_asked}
use Rattle.icu_locale_names.proofs.language.base.base_by_keys.Given as goal

-- what is left of the keys decides
abbrev pub invariant-loop-key : goal.invariant-loop-key
invariant-loop-key g l =
    let asked = keys_asked (g.P.DataProvider.name l.provider) l.locale l.chain l.subject in
    asked l.keys ≡ asked (drop l.key-index l.keys)
