use Rattle.std.proofs.Common.{◌≡◌, ◌∙◌, sym, ap, Some}
use Rattle.std.specs.Option.{option_map}
use Rattle.icu_locale_core.specs.TextSet.{empty}
use Rattle.icu_locale.specs.RuleSet.{lent}
use Rattle.icu_locale.specs.Kinds.{language_alias}
use Rattle.icu_locale.specs.Rules.{replaced, of_language}
use Rattle.icu_locale.proofs.WithoutVariants.{replaced-alias, guarded}
use Rattle.icu_locale.proofs.canonicalizer.kinds.by_language_alias.Goals as goal

pub returns : goal.returns
returns c =
    let x = c.args.x.now in
    let b = c.in_ok-alias.alias.now in
    let found : language_alias (lent c.args.rules.now) x.language ≡ Some b = sym c.in_ok-alias.ensures in
    (λ i. Some (record { language = b.language; script = c.or.ensures i; region = c.or-2.ensures i; variants = x.variants }))
    ∙ ap Some (sym (replaced-alias x b (guarded _ _ b found).0))
    ∙ ap (option_map (λ a. replaced x (of_language x.language) (record a { variants = empty }))) (sym found)
