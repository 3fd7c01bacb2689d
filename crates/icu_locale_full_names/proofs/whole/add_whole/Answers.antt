use Rattle.std.proofs.Common.{rules, ◌≡◌, ◌∙◌, ap, sym, subst, [], ◌∷◌, ◌++◌, ◌+◌, true, false, map, drop, arith, List, OnOk}
use Rattle.std.specs.List.{flat_map}
use Rattle.std.proofs.lemmas.List.{drop_more, drop_all}
use Rattle.icu_provider.specs.Names.{part_of}
use Rattle.icu_locale_names.specs.LanguageNames.{filled}
use Rattle.icu_locale_names.specs.LentNames.{parts_of}
use Rattle.icu_locale_names.specs.Pieces.{Piece}
use Rattle.icu_locale_full_names.specs.FullNames.{all_texts, joined_texts, full_pieces}
use Rattle.icu_locale_full_names.specs.inner.Drafts.{Adds, are_some}
use Rattle.icu_locale_full_names.specs.inner.Has.{lent_language}
use Rattle.icu_locale_full_names.proofs.Adding.{adds_none, adds_more}
use Rattle.icu_locale_full_names.proofs.Joining.{glued_where_none, glued_where_some}
use Rattle.icu_locale_full_names.proofs.whole.add_whole.Goals as goal

-- there is no qualifier
pub returns-then-not-has_qualifiers : goal.returns-then-not-has_qualifiers
returns-then-not-has_qualifiers c =
    let base = parts_of c.args.name.now in
    let texts = all_texts base c.args.names.now (lent_language c.args.language) c.args.x.now in
    let none : are_some texts ≡ false = search (rules, c.has_qualifiers.ensures c.args.names.now) in
    let alone : base.base ∷ [] ≡ full_pieces base (lent_language c.args.language) c.args.names.now c.args.x.now = sym (glued_where_none base.base texts base.pattern base.separator none) in
    subst (λ (ps : List Piece). OnOk c.add.result (Adds ps c.args.draft.now c.add.new.self)) alone (rw c.base.ensures at c.add.ensures)

pub loop-item-preserved : goal.loop-item-preserved
loop-item-preserved c = λ new more.
    let base = parts_of c.args.name.now in
    let texts = all_texts base c.args.names.now (lent_language c.args.language) c.args.x.now in
    let f = filled base.base (joined_texts base.separator texts) in
    let items = c.pattern-item-items.result.now in
    let i = c.loop-item.item-index in
    let item = c.item-item.result in
    let first = c.loop-item.draft in
    let rest = flat_map f (map part_of (drop (i + 1) items)) in
    let left : flat_map f (map part_of (drop i items)) ≡ f (part_of item) ++ rest = ap (λ xs. flat_map f (map part_of xs))
    (drop_more items i item c.loop-item-test.true) ∙ ap (λ x. f (part_of x) ++ rest) (sym c.item-item.is) in
    c.loop-item.invariant new (subst (λ (ps : List Piece). Adds ps first new) (sym left)
    (adds_more (f (part_of item)) rest first c.add_part.new.draft new c.in_ok-add_part.ensures more))

pub returns : goal.returns
returns c =
    let base = parts_of c.args.name.now in
    let texts = all_texts base c.args.names.now (lent_language c.args.language) c.args.x.now in
    let f = filled base.base (joined_texts base.separator texts) in
    let items = c.pattern-item-items.result.now in
    let d = c.loop-item.draft in
    let none : drop c.loop-item.item-index items ≡ [] = drop_all c.loop-item.item-index items (omega (arith, c.loop-item-test.false)) in
    let some : are_some texts ≡ true = search (rules, c.has_qualifiers.ensures c.args.names.now) in
    let all : Adds (flat_map f (map part_of items)) c.args.draft.now d = c.loop-item.invariant d
    (subst (λ xs. Adds (flat_map f (map part_of xs)) d d) (sym none) (adds_none d)) in
    subst (λ (ps : List Piece). Adds ps c.args.draft.now d)
    (ap (flat_map f) c.pattern-item-items.ensures ∙ sym (glued_where_some base.base texts base.pattern base.separator some)) all
