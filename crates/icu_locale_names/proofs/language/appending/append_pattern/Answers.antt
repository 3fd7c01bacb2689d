use Rattle.std.proofs.Common.{◌≡◌, ◌+◌, ◌∙◌, ap, sym, subst, ◌||◌, false, [], ◌++◌, map, drop, arith}
use Rattle.std.specs.List.{flat_map}
use Rattle.std.proofs.lemmas.List.{drop_more, drop_all}
use Rattle.std.proofs.lemmas.Result.{err_from_is_err_and}
use Rattle.icu_provider.specs.Names.{part_of}
use Rattle.icu_locale_names.specs.inner.Appended.{AddsPieces, filled_in}
use Rattle.icu_locale_names.proofs.Appending.{grown_none, grown_more, grown_by, adds_none, adds_more, or_assoc, or_none}
use Rattle.icu_locale_names.specs.Pieces.{text_of}
use Rattle.icu_locale_names.proofs.language.appending.append_pattern.Goals as goal

pub loop-item-init : goal.loop-item-init
loop-item-init c = record { grown = grown_none c.args.text.now.items; rest = λ new is_raw adds. adds }

pub returns-in_err-more-clause-part : goal.returns-in_err-more-clause-part
returns-in_err-more-clause-part c =
    let refused = err_from_is_err_and c.from_residual.result c.from_residual.ensures.1 in
    rw refused.1 (grown_more _ _ _ c.loop-item.invariant.grown c.in_err-more.ensures.part)

-- one item more
pub loop-item-preserved : goal.loop-item-preserved
loop-item-preserved c =
    let f = filled_in c.args.name.now in
    let items = c.args.name.now.pattern.now in
    let i = c.loop-item.item-index in
    let item = c.item-item.result in
    let first = c.loop-item.text.items in
    let middle = c.append_item.new.text.items in
    let adds = c.in_ok-more.ensures.added in
    let rest = flat_map f (map part_of (drop (i + 1) items)) in
    let left : flat_map f (map part_of (drop i items)) ≡ f (part_of item) ++ rest = ap (λ xs. flat_map f (map part_of xs))
    (drop_more items i item c.loop-item-test.true) ∙ ap (λ x. f (part_of x) ++ rest) (sym c.item-item.is) in
    record {
      grown = grown_more _ first middle c.loop-item.invariant.grown (grown_by first (text_of (f (part_of item))) middle adds.text);
      rest = λ new is_raw more. subst (AddsPieces _ _ new) (sym (or_assoc c.loop-item.is_raw c.in_ok-more.more is_raw))
          (c.loop-item.invariant.rest new (c.in_ok-more.more || is_raw) (subst (λ ps. AddsPieces ps first new (c.in_ok-more.more || is_raw))
          (sym left) (adds_more (f (part_of item)) rest first middle new c.in_ok-more.more is_raw adds more)));
    }

-- none is left
pub returns-clause-added : goal.returns-clause-added
returns-clause-added c =
    let f = filled_in c.args.name.now in
    let items = c.args.name.now.pattern.now in
    let t = c.loop-item.text.items in
    let none : drop c.loop-item.item-index items ≡ [] = drop_all c.loop-item.item-index items (omega (arith, c.loop-item-test.false)) in
    subst (AddsPieces _ _ t) (or_none c.loop-item.is_raw) (c.loop-item.invariant.rest t false
    (subst (λ xs. AddsPieces (flat_map f (map part_of xs)) t t false) (sym none) (adds_none t)))
