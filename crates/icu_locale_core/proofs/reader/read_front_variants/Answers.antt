use Rattle.std.proofs.Common.{◌∷◌, ◌++◌, ◌∙◌, [], Ok, ap, sym, inr, map, append_assoc}
use Rattle.std.specs.List.{list_any}
use Rattle.icu_locale_core.specs.Cuts.{front, from, other_than}
use Rattle.icu_locale_core.specs.Readings.{read_variants}
use Rattle.icu_locale_core.specs.Subtag.{is_variant, lowercase}
use Rattle.icu_locale_core.specs.laws.Fronts.{any-next, front-next, front-none, from-next}
use Rattle.icu_locale_core.proofs.Readings.{no_pieces}
use Rattle.icu_locale_core.proofs.reader.read_front_variants.Goals as goal

pub returns-in_default-clause-read : goal.returns-in_default-clause-read
returns-in_default-clause-read c =
    inr (ap Ok c.new.ensures ∙ sym no_pieces ∙ ap read_variants (sym (front-none is_variant lowercase c.args.pieces.now (sym c.in_default.ensures.read))))

pub pieces-preserved : goal.pieces-preserved
pieces-preserved c =
    let ps = c.pieces.pieces in
    let v = c.in-Some-next_variant.variant in
    let read = sym c.in-Some-next_variant.ensures.read in
    let rest = c.next_variant-in-pieces.ensures.rest in
    let left = map lowercase (front (other_than is_variant) c.next_variant-in-pieces.new.pieces) in
    record {
      lower = c.pieces.invariant.lower
          ∙ ap (λ ts. c.pieces.list.items ++ ts) (front-next is_variant lowercase ps v read
          ∙ ap (λ qs. v ∷ map lowercase (front (other_than is_variant) qs)) (sym rest))
          ∙ sym (append_assoc c.pieces.list.items (v ∷ []) left)
          ∙ ap (λ ts. ts ++ left) (sym c.in_ok-push-2.ensures.items);
      all = c.pieces.invariant.all;
      left = c.pieces.invariant.left ∙ from-next is_variant lowercase ps ∙ ap (from (other_than is_variant)) (sym rest);
      some = λ e. c.pieces.invariant.some (any-next is_variant lowercase ps v read
          (ap (λ qs. list_any is_variant (front (other_than is_variant) qs)) (sym rest) ∙ e));
    }
