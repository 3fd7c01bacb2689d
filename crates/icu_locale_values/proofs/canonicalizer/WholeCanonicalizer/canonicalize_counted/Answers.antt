use Rattle.std.proofs.Common.{inr, sym, subst, refl}
use Rattle.std.proofs.lemmas.Result.{err_from_is_err_and}
use Rattle.icu_locale_core.specs.Maps.{value_at}
use Rattle.icu_locale_core.specs.TextSet.{text_cmp}
use Rattle.icu_locale_runs.specs.Run.{BecomesEnd}
use Rattle.icu_locale_runs.specs.laws.LaterEnds.{BecomesEnd-later_end}
use Rattle.icu_locale_values.specs.Aliases.{next_field}
use Rattle.icu_locale_values.specs.Whole.{whole_rules}
use Rattle.icu_locale_values.proofs.Counting.{CountsWhole-locale, CountsWhole-refused}
use Rattle.icu_locale_values.proofs.Refused.{AllEnd-later, refused_by_locale, refused_memory}
use Rattle.icu_locale_values.proofs.Ruled.{there_later}
use Rattle.icu_locale_values.proofs.canonicalizer.WholeCanonicalizer.canonicalize_counted.Goals as goal

-- a field's run has no end
pub returns-in_err-ends-clause-ends : goal.returns-in_err-ends-clause-ends
returns-in_err-ends-clause-ends c = λ all.
    let by = whole_rules c.args.self.now in
    let passed_on = err_from_is_err_and c.from_residual.result c.from_residual.ensures.1 in
    let memory = refused_memory by c.args.locale.now all c.in_err-ends.field-0.0 c.in_err-ends.ensures.refusal in
    inr (rw (passed_on.1, passed_on.2) memory)

-- the fields end, and so the locale is asked
pub returns-in_err-by_locale-clause-refusal : goal.returns-in_err-by_locale-clause-refusal
returns-in_err-by_locale-clause-refusal c =
    let by = whole_rules c.args.self.now in
    let old = c.args.locale.now in
    let passed_on = err_from_is_err_and c.from_residual-in_err-by_locale.result c.from_residual-in_err-by_locale.ensures.1 in
    let all = AllEnd-later (next_field by.fields) old.fields c.in_ok-ends.ends.items c.in_ok-ends.ensures.ends in
    rw (passed_on.1, passed_on.2) (refused_by_locale by old all c.in_err-by_locale.field-0.0 c.in_err-by_locale.ensures.refusal)

pub returns-in_err-by_locale-clause-ends : goal.returns-in_err-by_locale-clause-ends
returns-in_err-by_locale-clause-ends c = λ runs.
    let by = whole_rules c.args.self.now in
    let old = c.args.locale.now in
    let passed_on = err_from_is_err_and c.from_residual-in_err-by_locale.result c.from_residual-in_err-by_locale.ensures.1 in
    let all = AllEnd-later (next_field by.fields) old.fields c.in_ok-ends.ends.items c.in_ok-ends.ensures.ends in
    let refusal = refused_by_locale by old all c.in_err-by_locale.field-0.0 c.in_err-by_locale.ensures.refusal in
    inr (rw (passed_on.1, passed_on.2) (refused_memory by old runs c.in_err-by_locale.field-0.0 refusal))

pub put_ends-answer-requires : goal.put_ends-answer-requires
put_ends-answer-requires c = λ key some.
    let by = whole_rules c.args.self.now in
    there_later (next_field by.fields key) (value_at text_cmp c.args.locale.now.fields key)
    (value_at text_cmp c.in_ok-ends.ends.items key) (c.in_ok-ends.ensures.ends key) some

pub returns-clause-canonical : goal.returns-clause-canonical
returns-clause-canonical c =
    let by = whole_rules c.args.self.now in
    let old = c.args.locale.now.fields in
    let ends = c.in_ok-ends.ends.items in
    record {
      locale = c.in_ok-by_locale.ensures.canonical;
      fields = λ key. subst (BecomesEnd (next_field by.fields key) (value_at text_cmp old key)) (sym (c.put_ends-answer.ensures.put key))
          (BecomesEnd-later_end (next_field by.fields key) (value_at text_cmp old key) (value_at text_cmp ends key) (c.in_ok-ends.ensures.ends key));
      attributes = refl;
      others = refl;
      private_use = refl;
      maps = record { keywords = c.known-2.ensures; fields = c.known.ensures };
    }

-- the searches where a field's run has no end, where the locale is refused, and to the end
pub returns-in_err-ends-clause-count : goal.returns-in_err-ends-clause-count
returns-in_err-ends-clause-count c =
    CountsWhole-refused (whole_rules c.args.self.now) c.args.locale.now c.args.turns.now c.field_ends.new.turns c.in_err-ends.ensures.count

pub returns-in_err-by_locale-clause-count : goal.returns-in_err-by_locale-clause-count
returns-in_err-by_locale-clause-count c =
    CountsWhole-locale (whole_rules c.args.self.now) c.args.locale.now c.args.turns.now c.field_ends.new.turns c.canonicalize_locale.new.turns
    c.in_ok-ends.ensures.count c.in_err-by_locale.ensures.count

pub returns-clause-count : goal.returns-clause-count
returns-clause-count c =
    CountsWhole-locale (whole_rules c.args.self.now) c.args.locale.now c.args.turns.now c.field_ends.new.turns c.canonicalize_locale.new.turns
    c.in_ok-ends.ensures.count c.in_ok-by_locale.ensures.count
