use Rattle.std.proofs.Common.{◌≡◌, ◌∷◌, ◌∙◌, [], ap, sym, subst, ◌++◌, ◌+◌, true, List, map, drop, arith}
use Rattle.std.proofs.lemmas.List.{drop_more, drop_all}
use Rattle.icu_locale_names.specs.LanguageNames.{joined}
use Rattle.icu_locale_names.specs.Pieces.{Piece}
use Rattle.icu_locale_full_names.specs.Says.{value_piece}
use Rattle.icu_locale_full_names.specs.Squares.{squared}
use Rattle.icu_locale_full_names.specs.inner.Drafts.{Adds, pieces_behind}
use Rattle.icu_locale_full_names.proofs.Adding.{adds_none, adds_left, behind_cons, behind_none}
use Rattle.icu_locale_full_names.proofs.pairs.Language.add_codes.Goals as goal

pub loop-code-preserved : goal.loop-code-preserved
loop-code-preserved c =
    let f = value_piece c.args.self.now.names.now c.args.key.now in
    let sep = c.args.self.now.separator.now in
    let list = c.args.list.now in
    let i = c.loop-code.code-index in
    let code = c.code-item.result in
    let any = c.loop-code.is_any in
    let first = c.loop-code.draft in
    let rest = map f (drop (i + 1) list) in
    let left : pieces_behind any sep (map f (drop i list)) ≡ pieces_behind any sep (f code ∷ []) ++ pieces_behind true sep rest =
    ap (λ xs. pieces_behind any sep (map f xs)) (drop_more list i code c.loop-code-test.true)
    ∙ ap (λ x. pieces_behind any sep (f x ∷ rest)) (sym c.code-item.is) ∙ behind_cons any sep (f code) rest in
    adds_left (pieces_behind any sep (f code ∷ [])) (pieces_behind true sep rest) (joined sep (map f list)) c.args.draft.now first c.add_code.new.draft
    (λ new adds. c.loop-code.invariant new (subst (λ (ps : List Piece). Adds (squared ps) first new) (sym left) adds))
    c.in_ok-add_code.ensures

pub returns : goal.returns
returns c =
    let f = value_piece c.args.self.now.names.now c.args.key.now in
    let sep = c.args.self.now.separator.now in
    let list = c.args.list.now in
    let any = c.loop-code.is_any in
    let d = c.loop-code.draft in
    let none : drop c.loop-code.code-index list ≡ [] = drop_all c.loop-code.code-index list (omega (arith, c.loop-code-test.false)) in
    let left : pieces_behind any sep (map f (drop c.loop-code.code-index list)) ≡ [] = ap (λ xs. pieces_behind any sep (map f xs)) none ∙ behind_none any sep in
    c.loop-code.invariant d (subst (λ (ps : List Piece). Adds (squared ps) d d) (sym left) (adds_none d))
