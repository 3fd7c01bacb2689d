use Rattle.std.proofs.Common.{List, [], ◌∷◌, map, subst, sym}
use Rattle.icu_locale_full_names.specs.Says.{keyword_says}
use Rattle.icu_locale_full_names.specs.Says.{Row}
use Rattle.icu_locale_full_names.specs.inner.Drafts.{Joins}
use Rattle.icu_locale_full_names.proofs.Joining.{joins_none, joins_left}
use Rattle.icu_locale_full_names.proofs.pairs.Language.join_keywords.Goals as goal

pub loop-key-preserved : goal.loop-key-preserved
loop-key-preserved c =
    let sep = c.args.self.now.separator.now in
    let says = keyword_says c.args.self.now.names.now c.args.self.now.separator.now in
    let first = c.loop-key.draft in
    let so_far = c.loop-key.is_any in
    let rest = c.next.new.self in
    joins_left sep (says (c.in-Some.key.now, c.in-Some.value.now) ∷ []) (map says rest) (map says c.args.keywords.now) c.args.draft.now c.args.before first so_far c.join_keyword.new.draft c.in_ok-is_any.is_any
    (λ new after j. c.loop-key.invariant new after (subst (λ (xs : List Row). Joins sep (map says xs) first so_far new after) (sym c.in-Some.ensures.steps) j))
    c.in_ok-is_any.ensures

-- none is left
pub returns : goal.returns
returns c =
    let sep = c.args.self.now.separator.now in
    let says = keyword_says c.args.self.now.names.now c.args.self.now.separator.now in
    let d = c.loop-key.draft in
    let any = c.loop-key.is_any in
    c.loop-key.invariant d any (subst (λ (xs : List Row). Joins sep (map says xs) d any d any) (sym c.in-None.ensures.steps.0) (joins_none sep d any))
