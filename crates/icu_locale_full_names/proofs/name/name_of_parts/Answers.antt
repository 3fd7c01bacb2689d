use Rattle.std.proofs.Common.{rules, ◌≡◌, ◌∙◌, subst, Some, IfOk, List}
use Rattle.icu_locale_names.specs.LentNames.{parts_of}
use Rattle.icu_locale_names.specs.Pieces.{Piece}
use Rattle.icu_locale_full_names.specs.FullNames.{full_pieces, written}
use Rattle.icu_locale_full_names.proofs.name.name_of_parts.Goals as goal

-- what is lent is what it was lent of
pub returns-in-Some-clause-made : goal.returns-in-Some-clause-made
returns-in-Some-clause-made c =
    let names = c.args.names.now in
    let x = c.args.subject.now in
    let base = c.args.base.now in
    let lent : full_pieces (parts_of c.as_borrowed-name.result) (Some (parts_of c.as_borrowed-language.result)) names x
    ≡ full_pieces base (Some c.in-Some.language) names x =
    λ i. full_pieces (c.as_borrowed-name.ensures i) (Some (c.as_borrowed-language.ensures i)) names x in
    let here : full_pieces base (Some c.in-Some.language) names x ≡ full_pieces base c.args.language.now names x = search rules in
    subst (λ (ps : List Piece). IfOk c.written_name.result (λ made. made ≡ written ps)) (lent ∙ here) c.written_name.ensures.made
