use Rattle.std.proofs.Common.{◌≡◌, ◌↔◌, subst, sym, inl, inr, refl, rules}
use Rattle.std.proofs.lemmas.Result.{err_from_is_err_and}
use Rattle.icu_locale.specs.LikelyTable.{likely}
use Rattle.icu_locale.specs.RuleSet.{lent}
use Rattle.icu_locale.specs.Canonical.{IsCanonical, answer_of, is_applied}
use Rattle.icu_locale.specs.declared.expander.TransformResult.TheVariants.{Unmodified}
use Rattle.icu_locale.proofs.CanonicalAgain.{unmodified_exactly}
use Rattle.icu_locale.proofs.Canonicals.{IsCanonical-with_changes, memory_from_end, no_repeat, no_value_repeat, named, named_value}
use Rattle.icu_locale.proofs.canonicalizer.lending.CanonicalizerRef.canonicalize_counted.Goals as goal

pub returns-in_err-changes-clause-outcome : goal.returns-in_err-changes-clause-outcome
returns-in_err-changes-clause-outcome c =
    let p = err_from_is_err_and c.from_residual.result c.from_residual.ensures.1 in
    let refusal = c.in_err-changes.field-0.0 in
    rw (p.1, p.2) record {
      canonical = tt;
      answer = tt;
      unmodified = tt;
      refusal = c.in_err-changes.ensures.refusal;
      unchanged = refl;
      ends = λ ends. inr (memory_from_end (likely c.args.self.now.expander) (lent c.args.self.now.rules) c.args.locale.now refusal
          c.in_err-changes.ensures.refusal ends);
      repeats = λ z first. named (likely c.args.self.now.expander) (lent c.args.self.now.rules) c.args.locale.now refusal z
          c.in_err-changes.ensures.refusal first;
      values_repeat = λ v first. named_value (likely c.args.self.now.expander)
          (lent c.args.self.now.rules) c.args.locale.now refusal v c.in_err-changes.ensures.refusal first;
      free = c.in_err-changes.ensures.free;
    }

pub returns-clause-outcome : goal.returns-clause-outcome
returns-clause-outcome c =
    let kept = lent c.args.self.now.rules in
    let known = likely c.args.self.now.expander in
    let changes = c.in_ok-changes.changes in
    let said : c.write.result ≡ answer_of (is_applied known kept c.args.locale.now) = search rules in
    let canonical = subst (IsCanonical known kept c.args.locale.now) (sym c.write.ensures.changed)
    (IsCanonical-with_changes known kept c.args.locale.now changes c.in_ok-changes.ensures.found) in
    record {
      canonical = canonical;
      answer = said;
      unmodified = subst (λ answer. (answer ≡ Unmodified) ↔ (c.write.new.locale ≡ c.args.locale.now)) (sym said)
          (unmodified_exactly known kept c.args.locale.now c.write.new.locale canonical);
      refusal = tt;
      unchanged = tt;
      ends = λ ends. inl refl;
      repeats = λ z first. absurd (no_repeat known kept c.args.locale.now changes z c.in_ok-changes.ensures.found first);
      values_repeat = λ v first. absurd (no_value_repeat known kept c.args.locale.now changes v c.in_ok-changes.ensures.found first);
      free = λ needs out. out;
    }
