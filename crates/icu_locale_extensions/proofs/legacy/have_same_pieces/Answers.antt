use Rattle.std.proofs.Common.{sym, ◌∙◌, below_more, arith}
use Rattle.icu_locale_extensions.proofs.Tags.{all_alike, alike_pieces, differ_at, lengths_differ}
use Rattle.icu_locale_extensions.proofs.legacy.have_same_pieces.Goals as goal

pub returns-then-text-other : goal.returns-then-text-other
returns-then-text-other c = sym (lengths_differ c.args.text.now c.args.other.now c.if-text-other.true)

pub returns-then-spelled : goal.returns-then-spelled
returns-then-spelled c =
    sym (differ_at c.args.text.now c.args.other.now c.loop-i.i
    (λ same. c.if-spelled.true (c.spelled.ensures ∙ same ∙ sym c.spelled-in-loop-i.ensures)))

pub loop-i-preserved : goal.loop-i-preserved
loop-i-preserved c = below_more _ _ c.loop-i.invariant (sym c.spelled.ensures ∙ c.if-spelled.false ∙ c.spelled-in-loop-i.ensures)

pub returns : goal.returns
returns c =
    let t = c.args.text.now in
    let u = c.args.other.now in
    sym (alike_pieces t u (all_alike t u c.if-text-other.false (λ k low. c.loop-i.invariant k (omega arith))))
