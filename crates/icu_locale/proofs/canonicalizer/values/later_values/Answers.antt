use Rattle.std.proofs.Common.{◌≡◌, IfSome, sym, subst, rules}
use Rattle.std.specs.Option.{option_copied}
use Rattle.std.proofs.lemmas.Result.{err_from_is_err_and}
use Rattle.icu_locale_core.specs.Maps.{value_at}
use Rattle.icu_locale_core.specs.TextSet.{text_cmp}
use Rattle.icu_locale.specs.RuleSet.{lent}
use Rattle.icu_locale.specs.Canonical.{rg, sd, next_value}
use Rattle.icu_locale.specs.Cost.{AddsNoPieces}
use Rattle.icu_locale_runs.specs.Run.{IsLaterEndOf}
use Rattle.icu_locale.specs.inner.CanonicalParts.{IsValueRefusal}
use Rattle.icu_locale.proofs.Values.{refused_first, refused_second}
use Rattle.icu_locale.proofs.canonicalizer.values.later_values.Goals as goal

-- a refusal at `rg`
pub returns-in_err-region_override-clause-refused : goal.returns-in_err-region_override-clause-refused
returns-in_err-region_override-clause-refused c =
    let p = err_from_is_err_and c.from_residual.result c.from_residual.ensures.1 in
    let e = c.in_err-region_override.field-0.0 in
    let at_rg : option_copied c.get.result ≡ value_at text_cmp c.args.keywords.now rg = search rules in
    rw (p.1, p.2) (refused_first (lent c.args.rules.now) c.args.keywords.now e
    (subst (λ o. IsValueRefusal (lent c.args.rules.now) o e) at_rg c.in_err-region_override.ensures.refused))

pub returns-in_err-region_override-clause-free : goal.returns-in_err-region_override-clause-free
returns-in_err-region_override-clause-free c = λ no_rg no_sd.
    let p = err_from_is_err_and c.from_residual.result c.from_residual.ensures.1 in
    let at_rg : option_copied c.get.result ≡ value_at text_cmp c.args.keywords.now rg = search rules in
    rw (p.1, p.2) (c.in_err-region_override.ensures.free (subst (λ o. IfSome o (AddsNoPieces (lent c.args.rules.now))) (sym at_rg) no_rg))

-- a refusal at `sd`
pub returns-in_err-subdivision-clause-refused : goal.returns-in_err-subdivision-clause-refused
returns-in_err-subdivision-clause-refused c =
    let p = err_from_is_err_and c.from_residual-in_err-subdivision.result c.from_residual-in_err-subdivision.ensures.1 in
    let e = c.in_err-subdivision.field-0.0 in
    let at_rg : option_copied c.get.result ≡ value_at text_cmp c.args.keywords.now rg = search rules in
    let at_sd : option_copied c.get-2.result ≡ value_at text_cmp c.args.keywords.now sd = search rules in
    let ends = subst (λ o. IsLaterEndOf (next_value (lent c.args.rules.now)) o c.in_ok-region_override.region_override) at_rg
    c.in_ok-region_override.ensures.end in
    rw (p.1, p.2) (refused_second (lent c.args.rules.now) c.args.keywords.now c.in_ok-region_override.region_override ends e
    (subst (λ o. IsValueRefusal (lent c.args.rules.now) o e) at_sd c.in_err-subdivision.ensures.refused))

pub returns-in_err-subdivision-clause-free : goal.returns-in_err-subdivision-clause-free
returns-in_err-subdivision-clause-free c = λ no_rg no_sd.
    let p = err_from_is_err_and c.from_residual-in_err-subdivision.result c.from_residual-in_err-subdivision.ensures.1 in
    let at_sd : option_copied c.get-2.result ≡ value_at text_cmp c.args.keywords.now sd = search rules in
    rw (p.1, p.2) (c.in_err-subdivision.ensures.free (subst (λ o. IfSome o (AddsNoPieces (lent c.args.rules.now))) (sym at_sd) no_sd))
