use Rattle.std.proofs.Common.{◌∙◌}
use Rattle.icu_locale_names.specs.inner.LanguageParts.{chains_of, base_asked}
use Rattle.icu_locale_names.proofs.FlatRequests.{base_asked_is_base}
use Rattle.icu_locale_names.proofs.language.base.find_base.Goals as goal

-- what was asked step by step is the first hit of the flat list
pub returns : goal.returns
returns g c =
    ◌∙◌ {b = base_asked (g.P.DataProvider.name c.args.provider.now) (g.P.DataProvider.menu c.args.provider.now) c.args.locale.now
    (chains_of c.args.chains.now) c.args.subject.now c.language_keys-keys.result.now} c.base_at.ensures
    (base_asked_is_base (g.P.DataProvider.name c.args.provider.now) (g.P.DataProvider.menu c.args.provider.now)
    (g.P.DataProvider.essentials c.args.provider.now) c.args.locale.now (chains_of c.args.chains.now) c.args.subject.now c.args.display
    c.language_keys-keys.result.now c.language_keys-keys.ensures)
