use Rattle.std.proofs.Common.{◌≡◌, ◌∙◌, sym, ap, Some, None, codes}
use Rattle.std.specs.Option.{option_map}
use Rattle.icu_locale_core.specs.TextSet.{empty}
use Rattle.icu_locale.specs.RuleSet.{lent}
use Rattle.icu_locale.specs.Kinds.{sign_language}
use Rattle.icu_locale.specs.Rules.{replaced, of_language}
use Rattle.icu_locale.proofs.WithoutVariants.{replaced-sign}
use Rattle.icu_locale.proofs.canonicalizer.kinds.by_sign_region.Goals as goal

pub returns : goal.returns
returns c =
    let x = c.args.x.now in
    let found : sign_language (lent c.args.rules.now) x ≡ Some c.in_ok-language.language = sym c.in_ok-language.ensures in
    ap Some (sym (replaced-sign x c.in_ok-language.language)) ∙ ap (option_map
    (λ l. replaced x (record { language = codes "sgn"; script = None; region = x.region; variants = empty }) (of_language l))) (sym found)
