use Rattle.std.proofs.Common.{Option, Some, None, IfSome, IfNone, inr, subst, ◌∙◌}
use Rattle.icu_locale.specs.LikelySubtags.{maximal}
use Rattle.icu_locale.specs.LikelyTable.{likely}
use Rattle.uses.specs.Fallback.{plain_form, wide_form, HasScript}
use Rattle.uses.specs.Meaning.{MeanTheSame, NoneMeans}
use Rattle.uses.proofs.switcher.serve.Goals as goal

at_any : {X : Type 0} (r : Option X) (P : Type 0) → P → IfNone r P
at_any None P h = h
at_any (Some x) P h = tt

-- the form without variants was asked before
pub returns-clause-none_plain : goal.returns-clause-none_plain
returns-clause-none_plain c =
    let asked = NoneMeans (likely c.args.negotiator.now.expander) c.args.negotiator.now.available in
    at_any c.find_meaning-3.result (asked (plain_form c.args.request.now)) (subst asked c.without_variants-plain.ensures c.in_default-find_meaning.ensures.none)

-- language and script of the maximal form were asked last
pub returns-clause-none_wide : goal.returns-clause-none_wide
returns-clause-none_wide c = λ has.
    let asked = NoneMeans (likely c.args.negotiator.now.expander) c.args.negotiator.now.available in
    let wide = c.in_ok-wide.ensures.wide.0 ∙ (λ i. wide_form (maximal (likely (c.expander.ensures.expander i)) (c.without_variants-plain.ensures i))) in
    subst (λ x. IfNone c.find_meaning-3.result (asked x)) wide c.find_meaning-3.ensures.none

of_some : {X : Type 0} (r : Option X) (P Q : X → Type 0) → ((x : X) → P x → Q x) → IfSome r P → IfSome r Q
of_some None P Q f h = tt
of_some (Some x) P Q f h = f x h

-- neither the request nor its form without variants was met by then
pub returns-clause-served : goal.returns-clause-served
returns-clause-served c =
    let table = likely c.args.negotiator.now.expander in
    let asked = NoneMeans table c.args.negotiator.now.available in
    let none = subst asked c.without_variants-plain.ensures c.in_default-find_meaning.ensures.none in
    let has = subst HasScript (λ i. maximal (likely (c.expander.ensures.expander i)) (c.without_variants-plain.ensures i)) c.in_ok-wide.ensures.wide.1 in
    let wide = c.in_ok-wide.ensures.wide.0 ∙ (λ i. wide_form (maximal (likely (c.expander.ensures.expander i)) (c.without_variants-plain.ensures i))) in
    of_some c.find_meaning-3.result _ _ (λ served means. inr (inr (none, has, subst (λ x. MeanTheSame table x served.now) wide means)))
    c.find_meaning-3.ensures.found
