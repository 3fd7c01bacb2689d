use Rattle.icu_locale_names.specs.LanguageChains.{chain_of}
use Rattle.icu_locale_names.specs.LanguageNames.{in_locale, display_of}
use Rattle.icu_locale_full_names.proofs.Giving.{refused_first}
use Rattle.icu_locale_full_names.proofs.name.LocaleDisplayName.try_new_unstable.Goals as goal

-- the language of `t` is not asked for then
pub returns-in-Err : goal.returns-in-Err
returns-in-Err g c =
    let answers = in_locale (g.P.DataProvider.name c.args.provider.now) (g.P.DataProvider.menu c.args.provider.now)
    (g.P.DataProvider.essentials c.args.provider.now) c.args.preferences.locale in
    refused_first answers (chain_of c.args.chain) (display_of c.args.options) c.args.names.now c.args.subject.now c.parts.result c.in-Err.refusal
    c.in-Err.is c.parts.ensures
