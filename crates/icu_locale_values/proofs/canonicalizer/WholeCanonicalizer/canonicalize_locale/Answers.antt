use Rattle.std.proofs.Common.{ap, sym, subst, ◌∙◌}
use Rattle.std.specs.Option.{option_or}
use Rattle.std.proofs.lemmas.Result.{err_from_is_err_and}
use Rattle.icu_locale_runs.specs.Run.{BecomesEnd}
use Rattle.icu_locale_runs.specs.laws.LaterEnds.{BecomesEnd-later_end, EndsIfAny-later_end}
use Rattle.icu_locale.specs.Kinds.{next}
use Rattle.icu_locale_values.specs.Aliases.{next_keyword}
use Rattle.icu_locale_values.specs.Whole.{whole_rules}
use Rattle.icu_locale_values.proofs.Counting.{CountsLocale-all, CountsLocale-refused, CountsLocale-transform}
use Rattle.icu_locale_values.proofs.Refused.{AllEnd-later, refused_by_rest, refused_by_transform}
use Rattle.icu_locale_values.proofs.Ruled.{AreThere-rules, BecomeEnds-whole}
use Rattle.icu_locale_values.proofs.canonicalizer.WholeCanonicalizer.canonicalize_locale.Goals as goal

-- the keywords end, and so the transform language is asked
pub returns-in_err-transform-clause-refusal : goal.returns-in_err-transform-clause-refusal
returns-in_err-transform-clause-refusal c =
    let by = whole_rules c.args.self.now in
    let old = c.args.locale.now in
    let passed_on = err_from_is_err_and c.from_residual-in_err-transform.result c.from_residual-in_err-transform.ensures.1 in
    let all = AllEnd-later (next_keyword by.keywords) old.extensions.unicode.keywords c.in_ok-ends.ends.items c.in_ok-ends.ensures.ends in
    rw (passed_on.1, passed_on.2) (refused_by_transform by old all c.in_err-transform.field-0.0 c.in_err-transform.ensures.refusal)

-- it ends too, and so the rules are asked
pub returns-in_err-by_rules-clause-refusal : goal.returns-in_err-by_rules-clause-refusal
returns-in_err-by_rules-clause-refusal c =
    let by = whole_rules c.args.self.now in
    let old = c.args.locale.now in
    let passed_on = err_from_is_err_and c.from_residual-in_err-by_rules.result c.from_residual-in_err-by_rules.ensures.1 in
    rw (passed_on.1, passed_on.2) (refused_by_rest by old (record {
      keywords = AllEnd-later (next_keyword by.keywords) old.extensions.unicode.keywords c.in_ok-ends.ends.items c.in_ok-ends.ensures.ends;
      transform = EndsIfAny-later_end (next by.likely by.rules) old.extensions.transform.lang c.in_ok-transform.transform c.in_ok-transform.ensures.end;
    }) c.in_err-by_rules.field-0.0 c.in_err-by_rules.ensures.refusal)

-- the rules take no key out
pub put_ends-requires : goal.put_ends-requires
put_ends-requires c =
    let by = whole_rules c.args.self.now in
    let old = c.args.locale.now.extensions.unicode.keywords in
    let mid = c.canonicalize_rest.new.locale.extensions.unicode.keywords in
    let is = c.in_ok-by_rules.ensures.canonical.keywords in
    let keys = c.canonical_keywords_by_key.ensures in
    AreThere-rules by.rules by.keywords old mid c.in_ok-ends.ends.items c.in_ok-ends.ensures.ends
    (keys.region_override by.rules old mid is) (keys.subdivision by.rules old mid is) (keys.others by.rules old mid is)

pub returns-clause-canonical : goal.returns-clause-canonical
returns-clause-canonical c =
    let by = whole_rules c.args.self.now in
    let old = c.args.locale.now.extensions.unicode.keywords in
    let lang = c.args.locale.now.extensions.transform.lang in
    let end = c.in_ok-transform.transform in
    let mid = c.canonicalize_rest.new.locale.extensions.unicode.keywords in
    let is = c.in_ok-by_rules.ensures.canonical in
    let keys = c.canonical_keywords_by_key.ensures in
    record {
      id = is.id;
      transform = subst (BecomesEnd (next by.likely by.rules) lang)
          (sym (c.put_language-answer.ensures.put ∙ ap (λ t. option_or end t.lang) c.in_ok-by_rules.ensures.transform))
          (BecomesEnd-later_end (next by.likely by.rules) lang end c.in_ok-transform.ensures.end);
      keywords = BecomeEnds-whole by.rules by.keywords old mid c.put_ends.new.map c.in_ok-ends.ends.items
          c.in_ok-ends.ensures.ends c.put_ends.ensures.put
          (keys.region_override by.rules old mid is.keywords) (keys.subdivision by.rules old mid is.keywords) (keys.others by.rules old mid is.keywords);
    }

-- the searches where a keyword's run has no end, where that of the transform language has none, where the rules come to
-- none, and to the end
pub returns-in_err-ends-clause-count : goal.returns-in_err-ends-clause-count
returns-in_err-ends-clause-count c =
    CountsLocale-refused (whole_rules c.args.self.now) c.args.locale.now c.args.turns.now c.keyword_ends.new.turns c.in_err-ends.ensures.count

pub returns-in_err-transform-clause-count : goal.returns-in_err-transform-clause-count
returns-in_err-transform-clause-count c =
    CountsLocale-transform (whole_rules c.args.self.now) c.args.locale.now c.args.turns.now c.keyword_ends.new.turns c.transform_end.new.turns
    c.in_ok-ends.ensures.count c.in_err-transform.ensures.count

pub returns-in_err-by_rules-clause-count : goal.returns-in_err-by_rules-clause-count
returns-in_err-by_rules-clause-count c =
    CountsLocale-all (whole_rules c.args.self.now) c.args.locale.now c.args.turns.now c.keyword_ends.new.turns c.transform_end.new.turns
    c.canonicalize_rest.new.turns c.in_ok-ends.ensures.count c.in_ok-transform.ensures.count c.in_err-by_rules.ensures.count

pub returns-clause-count : goal.returns-clause-count
returns-clause-count c =
    CountsLocale-all (whole_rules c.args.self.now) c.args.locale.now c.args.turns.now c.keyword_ends.new.turns c.transform_end.new.turns
    c.canonicalize_rest.new.turns c.in_ok-ends.ensures.count c.in_ok-transform.ensures.count c.in_ok-by_rules.ensures.count
