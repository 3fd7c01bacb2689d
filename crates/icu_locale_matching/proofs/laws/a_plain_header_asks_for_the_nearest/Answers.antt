use Rattle.std.proofs.Common.{codes, refl}
use Rattle.icu_locale_extensions.specs.declared.syntax.Syntax.TheVariants.{Bcp47}
use Rattle.icu_locale_core.specs.declared.parse_error.ParseError.TheVariants.{InvalidLanguage}
use Rattle.icu_locale_extensions.specs.Syntaxes.{preferred}
use Rattle.icu_locale_matching.proofs.Heard.{plain_is_nearest}
use Rattle.icu_locale_matching.proofs.laws.a_plain_header_asks_for_the_nearest.Goals as goal

pub returns : goal.returns
unfolding preferred
returns c s header xs result found plain is q = plain_is_nearest c.spelled_once_by.ensures
    (λ x spells. c.refusals_are_faults.ensures.nothing Bcp47 (codes "*") InvalidLanguage x
    ((c.refusals_are_faults.ensures.language Bcp47 (codes "*")).1 refl) spells) s header xs plain result found is q
