use Rattle.std.proofs.Common.{◌+◌, length, refl, sym, ◌∙◌, subst}
use Rattle.std.proofs.lemmas.Option.{slice_get_read}
use Rattle.icu_locale_matching.specs.inner.Made.{IsGrouped}
use Rattle.icu_locale_matching.proofs.Groups.{IsGrouped-kept, IsGrouped-put}
use Rattle.icu_locale_matching.proofs.candidates.groups_of.Goals as goal
use Rattle.icu_locale_matching.proofs.candidates.groups_of.Goals.{then-not-contains_key+in_ok-group+in_ok-put, else-not-contains_key}

pub loop-candidate-preserved : goal.loop-candidate-preserved
loop-candidate-preserved c =
    let forms = c.args.forms.now in
    let n = c.loop-candidate.candidate-index in
    let stands = slice_get_read forms (length forms) n c.candidate-item.result refl c.loop-candidate-test.true c.candidate-item.is in
    let item = c.candidate-item.result in
    elim c.if-not-contains_key.branch [
      | then-not-contains_key+in_ok-group+in_ok-put w ↦ subst (IsGrouped forms (n + 1)) (sym w.groups-is)
          (IsGrouped-put forms n item stands c.loop-candidate.groups w.put.new.groups w.in_ok-group.group c.loop-candidate.invariant
          w.in_ok-group.ensures w.in_ok-put.ensures)
      | else-not-contains_key w ↦ subst (IsGrouped forms (n + 1)) (sym w.groups-is)
          (IsGrouped-kept forms n item stands c.loop-candidate.groups c.loop-candidate.invariant (sym c.contains_key.ensures ∙ w.if-not-contains_key.false))
    ]
