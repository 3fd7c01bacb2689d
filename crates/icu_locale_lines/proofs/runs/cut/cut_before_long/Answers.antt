use Rattle.std.proofs.Common.{rules, ◌≡◌, false, ap, sym, subst, ◌∙◌}
use Rattle.icu_locale_lines.specs.Lines.{first_line, exceeds, AreWithin}
use Rattle.icu_locale_lines.specs.Streams.{EndsLines}
use Rattle.icu_locale_lines.proofs.Bounds.{not_empty, WithinBefore, WithinBefore-more, WithinBefore-front, within_unbounded}
use Rattle.icu_locale_lines.proofs.runs.cut.cut_before_long.Goals as goal

pub returns-then-is_none-clause-front : goal.returns-then-is_none-clause-front
returns-then-is_none-clause-front c = (c.requires, within_unbounded c.args.longest (search rules) c.args.text.now)

-- one more line is within the bound
pub loop-longest-preserved : goal.loop-longest-preserved
loop-longest-preserved c =
    let rest = c.loop-longest.rest.now in
    let short : exceeds c.args.longest (first_line rest) ≡ false =
    ap (exceeds c.args.longest) (sym c.cut.ensures.first) ∙ sym c.is_too_long.ensures ∙ (search rules) in
    subst (WithinBefore c.args.longest c.args.text.now) (sym c.cut.ensures.rest)
    (WithinBefore-more c.args.longest c.args.text.now rest c.requires (not_empty rest (search rules)) c.loop-longest.invariant short)

pub returns-clause-front : goal.returns-clause-front
returns-clause-front c =
    let before = c.loop-longest.invariant in
    let front = c.split_at.ensures.front ∙ (WithinBefore-front c.args.longest c.args.text.now c.loop-longest.rest.now before).0 in
    (subst EndsLines (sym front) before.whole, subst (AreWithin c.args.longest) (sym front) before.within)
