use Rattle.std.proofs.Common.{◌<◌, ℕ, List, length, subst, arith}
use Rattle.std.specs.Prelude.{Vec}
use Rattle.std.specs.Global.{Global}
use Rattle.std.specs.List.{All}
use Rattle.icu_provider.specs.declared.matching.MatchRules.{MatchRules}
use Rattle.icu_locale_matching.specs.Distance.{HasApart}
use Rattle.icu_locale_matching.proofs.telling.tells_apart.Goals as goal

pub returns : goal.returns
returns c = λ some. record {
  rules = subst (λ (rows : List (List ℕ × MatchRules)). All (λ row. HasApart row.1) rows) c.as_slice.ensures.rows
      (c.each_has_apart.ensures c.if-not-each_has_apart.false);
  language = omega (arith, c.if-matching-eq0.false);
  script = omega (arith, c.if-matching-eq0-2.false);
  region = omega (arith, c.if-matching-eq0-3.false);
  macros = subst (λ (rows : List (List ℕ × Vec (List ℕ) Global)). All (λ row. 0 < length row.1.items) rows) c.as_slice-2.ensures.rows
      (c.each_stands_for_some.ensures some);
}
