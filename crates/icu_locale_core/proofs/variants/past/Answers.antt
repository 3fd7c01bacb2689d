use Rattle.std.proofs.Common.{◌∙◌, sym, ap, subst}
use Rattle.std.specs.List.Sorted.{IsStrictlySortedBy}
use Rattle.icu_locale_core.specs.TextSet.{text_cmp}
use Rattle.icu_locale_core.specs.laws.TextSets.{is_among}
use Rattle.icu_locale_core.proofs.Merges.{rest_rises, nowhere_below, here, past_lower, later_less, later_equal}
use Rattle.icu_locale_core.proofs.variants.past.Goals as goal

pub loop-first-preserved : goal.loop-first-preserved
loop-first-preserved c =
    let variant = c.args.variant.now in
    let first = c.in-Some.first.now in
    let rest = c.in-Some.rest.now in
    let is = c.in-Some.ensures.cases.0 in
    let rise = subst (IsStrictlySortedBy text_cmp) is c.loop-first.invariant.rises in
    let less = sym c.in-Less.ensures in
    record {
      rises = rest_rises variant first rest rise;
      there = c.loop-first.invariant.there ∙ ap (is_among variant) is ∙ past_lower variant first rest less;
      later = λ q above. c.loop-first.invariant.later q above ∙ ap (is_among q) is ∙ later_less variant first rest rise less q above;
    }

pub returns-in-Equal : goal.returns-in-Equal
returns-in-Equal c =
    let variant = c.args.variant.now in
    let first = c.in-Some.first.now in
    let rest = c.in-Some.rest.now in
    let is = c.in-Some.ensures.cases.0 in
    let rise = subst (IsStrictlySortedBy text_cmp) is c.loop-first.invariant.rises in
    let equal = sym c.in-Equal.ensures in
    record {
      there = sym (c.loop-first.invariant.there ∙ ap (is_among variant) is ∙ here variant first rest rise equal);
      later = λ q above. c.loop-first.invariant.later q above ∙ ap (is_among q) is ∙ later_equal variant first rest rise equal q above;
      rises = rest_rises variant first rest rise;
    }

pub returns-in-Greater-clause-there : goal.returns-in-Greater-clause-there
returns-in-Greater-clause-there c =
    let variant = c.args.variant.now in
    let is = c.in-Some.ensures.cases.0 in
    let rise = subst (IsStrictlySortedBy text_cmp) is c.loop-first.invariant.rises in
    sym (c.loop-first.invariant.there ∙ ap (is_among variant) is ∙ nowhere_below variant c.in-Some.first.now c.in-Some.rest.now rise (sym c.in-Greater.ensures))
