use Rattle.std.proofs.Common.{◌≡◌, ◌∙◌, ◌∷◌, [], ap, subst, IfOk, List}
use Rattle.icu_locale_names.specs.LentNames.{lent_piece}
use Rattle.icu_locale_names.specs.Pieces.{Piece}
use Rattle.icu_locale_full_names.specs.Says.{says, row_says, value_piece}
use Rattle.icu_locale_full_names.specs.inner.Drafts.{Joins}
use Rattle.icu_locale_full_names.proofs.pairs.Language.join_row.Goals as goal

pub returns : goal.returns
returns g c =
    let names = c.args.self.now.names.now in
    let key = c.args.key.now in
    let written = c.as_str-written.ensures.text in
    let says_row : says names key c.as_str-written.result.now (lent_piece c.value_piece.result ∷ []) ∷ [] ≡ row_says names (key, c.args.value.now) ∷ [] =
    λ i. says names key (written i) ((c.value_piece.ensures ∙ ap (value_piece names key) written) i ∷ []) ∷ [] in
    subst (λ (ts : List (List Piece)). IfOk c.join_says.result (Joins c.args.self.now.separator.now ts c.args.draft.now c.args.is_any c.join_says.new.draft)) says_row c.join_says.ensures
