use Rattle.std.proofs.Common.{◌≡◌, ◌∙◌, ap, sym, subst, [], ◌++◌, ◌+◌, map, drop, arith, List}
use Rattle.std.specs.List.{flat_map}
use Rattle.std.proofs.lemmas.List.{drop_more, drop_all}
use Rattle.icu_provider.specs.Names.{PatternPart, part_of}
use Rattle.icu_locale_names.specs.LanguageNames.{filled}
use Rattle.icu_locale_names.specs.LentNames.{lent_piece}
use Rattle.icu_locale_names.specs.Pieces.{Piece}
use Rattle.icu_locale_full_names.specs.Squares.{squared}
use Rattle.icu_locale_full_names.specs.inner.Has.{has_pieces}
use Rattle.icu_locale_full_names.specs.inner.Drafts.{Adds}
use Rattle.icu_locale_full_names.proofs.Adding.{adds_none, adds_left}
use Rattle.icu_locale_full_names.proofs.pairs.Language.add_pair.Goals as goal

pub loop-item-preserved : goal.loop-item-preserved
loop-item-preserved c =
    let f = filled (lent_piece c.args.key) (has_pieces c.args.self.now.names.now c.args.self.now.separator.now c.args.has) in
    let items = c.items-item-items.result.now in
    let i = c.loop-item.item-index in
    let item = c.item-item.result in
    let first = c.loop-item.draft in
    let rest = flat_map f (map part_of (drop (i + 1) items)) in
    let left : flat_map f (map part_of (drop i items)) ≡ f (part_of item) ++ rest = ap (λ xs. flat_map f (map part_of xs))
    (drop_more items i item c.loop-item-test.true) ∙ ap (λ x. f (part_of x) ++ rest) (sym c.item-item.is) in
    adds_left (f (part_of item)) rest (flat_map f (map part_of items)) c.args.draft.now first c.add_item.new.draft
    (λ new adds. c.loop-item.invariant new (subst (λ (ps : List Piece). Adds (squared ps) first new) (sym left) adds))
    c.in_ok-add_item.ensures

pub returns : goal.returns
returns c =
    let f = filled (lent_piece c.args.key) (has_pieces c.args.self.now.names.now c.args.self.now.separator.now c.args.has) in
    let items = c.items-item-items.result.now in
    let d = c.loop-item.draft in
    let none : drop c.loop-item.item-index items ≡ [] = drop_all c.loop-item.item-index items (omega (arith, c.loop-item-test.false)) in
    let all : Adds (squared (flat_map f (map part_of items))) c.args.draft.now d = c.loop-item.invariant d
    (subst (λ xs. Adds (squared (flat_map f (map part_of xs))) d d) (sym none) (adds_none d)) in
    subst (λ (ps : List PatternPart). Adds (squared (flat_map f ps)) c.args.draft.now d) c.items-item-items.ensures all
