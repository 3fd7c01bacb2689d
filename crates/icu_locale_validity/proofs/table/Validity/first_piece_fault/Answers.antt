use Rattle.std.proofs.Common.{sym, ap, subst, ◌∙◌}
use Rattle.std.specs.List.{All}
use Rattle.std.proofs.lemmas.List.Elements.{All-tail}
use Rattle.icu_locale_core.specs.Subtag.{IsSubtag}
use Rattle.icu_locale_validity.specs.Statuses.{is_valid_status}
use Rattle.icu_locale_validity.specs.Types.{first_fault, statuses}
use Rattle.icu_locale_validity.proofs.FirstFaults.{at_fault, past_valid}
use Rattle.icu_locale_validity.proofs.table.Validity.first_piece_fault.Goals as goal

pub returns-then-not-is_valid_status : goal.returns-then-not-is_valid_status
returns-then-not-is_valid_status c =
    let v = c.args.self.now in
    let row = c.args.row.now in
    let parts = c.in-Some.ensures.steps in
    c.field_piece-status.ensures
    ∙ sym (c.pieces.invariant.same ∙ ap (λ ps. first_fault (statuses v row ps)) parts
    ∙ at_fault v row c.in-Some.first.now c.next.new.self (sym (ap is_valid_status c.field_piece-status.ensures) ∙ sym c.is_valid_status.ensures ∙ c.if-not-is_valid_status.true))

pub pieces-preserved : goal.pieces-preserved
pieces-preserved c =
    let v = c.args.self.now in
    let row = c.args.row.now in
    let parts = c.in-Some.ensures.steps in
    record {
      known = All-tail IsSubtag c.in-Some.first.now c.next.new.self (subst (All IsSubtag) parts c.pieces.invariant.known);
      same = c.pieces.invariant.same ∙ ap (λ ps. first_fault (statuses v row ps)) parts
          ∙ past_valid v row c.in-Some.first.now c.next.new.self (sym (ap is_valid_status c.field_piece-status.ensures) ∙ sym c.is_valid_status.ensures ∙ c.if-not-is_valid_status.false);
    }
