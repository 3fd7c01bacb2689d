use Rattle.std.proofs.Common.{◌≡◌, ◌+◌, ◌-◌, ◌/◌, suc, refl, ap, sym, ◌∙◌, take, add-one, arith}
use Rattle.std.proofs.lemmas.List.{take_all}
use Rattle.icu_locale_core.specs.Identifier.{pieces}
use Rattle.icu_locale_places.specs.Places.{begins_some}
use Rattle.icu_locale_places.proofs.Bytes.{pieces_length}
use Rattle.icu_locale_places.proofs.fronts.first_wrong.Goals as goal

pub halves-init : goal.halves-init
halves-init c =
    let ps = pieces c.args.text.now in
    record {
      ordered = omega arith;
      inside = omega (arith, pieces_length c.args.text.now, c.separators-high.ensures);
      before = refl;
      there = ap begins_some (take_all (suc c.separators-high.result) ps (omega (arith, pieces_length c.args.text.now, c.separators-high.ensures))) ∙ c.requires;
    }

pub halves-preserved-then-branch : goal.halves-preserved-then-branch
halves-preserved-then-branch c =
    let ps = pieces c.args.text.now in
    let middle = c.halves.low + (c.halves.high - c.halves.low) / 2 in
    record {
      ordered = omega arith;
      inside = c.halves.invariant.inside;
      before = ap (λ n. begins_some (take n ps)) (add-one middle) ∙ ap begins_some (sym c.front.ensures)
          ∙ sym c.in_ok-begins_some.ensures ∙ c.if-branch.true;
      there = c.halves.invariant.there;
    }

pub returns-clause-there : goal.returns-clause-there
returns-clause-there c =
    let ps = pieces c.args.text.now in
    let same : c.halves.low ≡ c.halves.high = omega arith in
    ap (λ n. begins_some (take (suc n) ps)) same ∙ c.halves.invariant.there
