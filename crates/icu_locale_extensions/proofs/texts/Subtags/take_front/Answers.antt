use Rattle.std.proofs.Common.{map, ◌≡◌, ◌++◌, ap, ◌∙◌}
use Rattle.icu_locale_core.specs.Subtag.{lowercase}
use Rattle.icu_locale_core.specs.Cuts.{front, other_than}
use Rattle.icu_locale_extensions.specs.Extensions.{is_piece}
use Rattle.icu_locale_extensions.specs.Rows.{dashed}
use Rattle.icu_locale_extensions.proofs.PiecesTaken.{taken_text, taken_read}
use Rattle.icu_locale_extensions.proofs.texts.Subtags.take_front.Goals as goal

pub invariant_of-result : goal.invariant_of-result
invariant_of-result g c =
    let start : c.push_lower.new.text.items ≡ lowercase c.in-Some.first.now = c.in_ok-push_lower.ensures.appended ∙ ap (λ t. t ++ lowercase c.in-Some.first.now) c.new-text.ensures.items in
    let is = c.in_ok-push_front.ensures.appended ∙ (λ i. start i ++ dashed (map lowercase (front (other_than (is_piece g.row.LOW)) (c.next_piece.ensures.rest i)))) in
    taken_text g.row.LOW c.args.pieces.now (lowercase c.in-Some.first.now) c.push_front.new.text.items c.in-Some.ensures.read is

pub returns-clause-read : goal.returns-clause-read
returns-clause-read g c =
    let start : c.push_lower.new.text.items ≡ lowercase c.in-Some.first.now = c.in_ok-push_lower.ensures.appended ∙ ap (λ t. t ++ lowercase c.in-Some.first.now) c.new-text.ensures.items in
    let is = c.in_ok-push_front.ensures.appended ∙ (λ i. start i ++ dashed (map lowercase (front (other_than (is_piece g.row.LOW)) (c.next_piece.ensures.rest i)))) in
    taken_read g.row.LOW c.args.pieces.now (lowercase c.in-Some.first.now) c.push_front.new.text.items c.in-Some.ensures.read is
