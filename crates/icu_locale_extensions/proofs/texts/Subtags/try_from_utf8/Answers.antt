use Rattle.std.proofs.Common.{◌≡◌, true, subst, sym, ap, ◌∙◌}
use Rattle.std.proofs.lemmas.Bool.{false≢true}
use Rattle.icu_locale_core.specs.Identifier.{pieces}
use Rattle.icu_locale_extensions.specs.Extensions.{are_pieces}
use Rattle.icu_locale_extensions.specs.inner.Texts.{IsPiecesText}
use Rattle.icu_locale_extensions.proofs.Spellings.{IsPiecesText-spelled, pieces-spelled}
use Rattle.icu_locale_extensions.proofs.texts.Subtags.try_from_utf8.Goals as goal

pub invariant_of-result : goal.invariant_of-result
invariant_of-result g c =
    let told : are_pieces g.row.LOW (pieces c.args.text.now) ≡ true = cc (c.new.ensures, c.are_pieces.ensures, c.if-not-are_pieces.false) in
    subst (IsPiecesText g.row.LOW) (sym c.in_ok-lowered.ensures.read) (IsPiecesText-spelled g.row.LOW c.args.text.now told)

pub returns : goal.returns
returns g c =
    let told : are_pieces g.row.LOW (pieces c.args.text.now) ≡ true = cc (c.new.ensures, c.are_pieces.ensures, c.if-not-are_pieces.false) in
    record {
      read = ap pieces c.in_ok-lowered.ensures.read ∙ pieces-spelled c.args.text.now;
      refused = (λ e. absurd (cc), λ e. absurd (false≢true (sym e ∙ told)));
      language = λ e. absurd (cc);
    }
