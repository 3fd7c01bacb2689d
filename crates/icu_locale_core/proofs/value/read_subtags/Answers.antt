use Rattle.std.proofs.Common.{◌≡◌, true, false, sym, ap, not, ◌∙◌, arith}
use Rattle.std.proofs.lemmas.Bool.{not-true}
use Rattle.std.proofs.lemmas.Grind.{common_steps}
use Rattle.icu_locale_core.specs.Value.{is_true}
use Rattle.icu_locale_core.proofs.Values.{IsValue-more}
use Rattle.icu_locale_core.proofs.value.read_subtags.Goals as goal

-- what is pushed is a subtag, and another than `true`
pub loop-piece-preserved-in-Continue-1 : goal.loop-piece-preserved-in-Continue-1
loop-piece-preserved-in-Continue-1 c =
    let subtag = c.in-Some-try_from_bytes.subtag in
    let kept : not (is_true subtag) ≡ true = sym (ap (λ t. not (is_true t)) c.as_str.ensures.text) ∙ sym c.ne.ensures ∙ c.if-ne.true in
    let plain : is_true subtag ≡ false = not-true (is_true subtag) kept in
    record {
      read = grind (arith, common_steps);
      all = grind (arith, common_steps);
      known = rw c.in_ok-push.ensures.items (IsValue-more c.loop-piece.list.items subtag c.loop-piece.invariant.known c.as_str.ensures.known plain);
    }
