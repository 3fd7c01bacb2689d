use Rattle.std.proofs.Common.{◌≡◌, ◌+◌, ◌∙◌, ap, sym, subst, [], ◌∷◌, map, drop, arith}
use Rattle.std.proofs.lemmas.List.{drop_more, drop_all}
use Rattle.std.proofs.lemmas.Result.{err_from_is_err_and}
use Rattle.icu_locale_names.specs.inner.Appended.{Joins}
use Rattle.icu_locale_names.specs.Shown.{piece_of}
use Rattle.icu_locale_names.proofs.Appending.{grown_more, grown_by_joins, joins_none, joins_more}
use Rattle.icu_locale_names.proofs.language.appending.append_each.Goals as goal

pub returns-in_err-so_far-clause-part : goal.returns-in_err-so_far-clause-part
returns-in_err-so_far-clause-part c =
    let refused = err_from_is_err_and c.from_residual.result c.from_residual.ensures.1 in
    rw refused.1 (grown_more _ _ _ c.loop-shown.invariant.grown c.in_err-so_far.ensures.part)

-- one qualifier more
pub loop-shown-preserved : goal.loop-shown-preserved
loop-shown-preserved c =
    let sep = c.args.separator.now in
    let qs = c.args.qualifiers.now in
    let i = c.loop-shown.shown-index in
    let shown = c.shown-item.result in
    let first = c.loop-shown.text.items in
    let middle = c.append_next.new.text.items in
    let joins = subst (λ p. Joins sep (p ∷ []) first c.loop-shown.so_far middle c.in_ok-so_far.so_far) c.lend.ensures c.in_ok-so_far.ensures.joined in
    let left : map piece_of (drop i qs) ≡ piece_of shown ∷ map piece_of (drop (i + 1) qs) = ap (map piece_of)
    (drop_more qs i shown c.loop-shown-test.true) ∙ ap (λ s. piece_of s ∷ map piece_of (drop (i + 1) qs)) (sym c.shown-item.is) in
    record {
      grown = grown_more _ first middle c.loop-shown.invariant.grown (grown_by_joins sep
          (piece_of shown ∷ []) first c.loop-shown.so_far middle c.in_ok-so_far.so_far joins);
      rest = λ new after more. c.loop-shown.invariant.rest new after (subst (λ ps. Joins sep ps first c.loop-shown.so_far new after)
          (sym left) (joins_more sep (piece_of shown ∷ []) (map piece_of (drop (i + 1) qs)) first c.loop-shown.so_far middle
          c.in_ok-so_far.so_far new after joins more));
    }

-- none is left
pub returns-clause-joined : goal.returns-clause-joined
returns-clause-joined c =
    let sep = c.args.separator.now in
    let qs = c.args.qualifiers.now in
    let t = c.loop-shown.text.items in
    let j = c.loop-shown.so_far in
    let none : drop c.loop-shown.shown-index qs ≡ [] = drop_all c.loop-shown.shown-index qs (omega (arith, c.loop-shown-test.false)) in
    c.loop-shown.invariant.rest t j (subst (λ ps. Joins sep (map piece_of ps) t j t j) (sym none) (joins_none sep t j))
