use Rattle.std.proofs.Common.{◌≡◌, ◌∙◌, sym, arith, ◌<◌, length, ◌-◌, get_or, true, false}
use Rattle.icu_locale_matching.specs.Header.{is_space}
use Rattle.icu_locale_matching.proofs.Trims.{trim_end-space, trim_end-none}
use Rattle.icu_locale_matching.proofs.parts.end_trimmed.Goals as goal

pub returns-then-not-is_space : goal.returns-then-not-is_space
returns-then-not-is_space c =
    let t = c.loop-left.left.now in
    let some : 0 < length t = omega arith in
    let kept : is_space (get_or t (length t - 1) 0) ≡ false = sym c.is_space.ensures ∙ c.if-not-is_space.true in
    trim_end-none t some kept ∙ c.loop-left.invariant

pub loop-left-preserved : goal.loop-left-preserved
loop-left-preserved c =
    let t = c.loop-left.left.now in
    let some : 0 < length t = omega arith in
    let space : is_space (get_or t (length t - 1) 0) ≡ true = sym c.is_space.ensures ∙ c.if-not-is_space.false in
    trim_end-space t some space ∙ c.loop-left.invariant
