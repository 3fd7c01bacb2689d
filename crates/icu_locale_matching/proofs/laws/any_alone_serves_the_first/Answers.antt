use Rattle.std.proofs.Common.{codes, refl}
use Rattle.icu_locale_extensions.specs.declared.syntax.Syntax.TheVariants.{Bcp47}
use Rattle.icu_locale_core.specs.declared.parse_error.ParseError.TheVariants.{InvalidLanguage}
use Rattle.icu_locale_extensions.specs.Syntaxes.{preferred}
use Rattle.icu_locale_matching.proofs.Wished.{any_serves_first}
use Rattle.icu_locale_matching.proofs.laws.any_alone_serves_the_first.Goals as goal

pub returns : goal.returns
unfolding preferred
returns c = any_serves_first (λ x spells. c.refusals_are_faults.ensures.nothing Bcp47 (codes "*") InvalidLanguage x
    ((c.refusals_are_faults.ensures.language Bcp47 (codes "*")).1 refl) spells)
