use Rattle.std.proofs.Common.{[], ◌∷◌, ◌++◌, map, refl, ap, sym, ◌∙◌, subst}
use Rattle.std.proofs.lemmas.List.{map-append}
use Rattle.icu_locale_core.specs.Subtag.{is_subtag, lowercase}
use Rattle.icu_locale_core.specs.TextSet.{from_list, rising}
use Rattle.icu_locale_extensions.specs.laws.Reader.{read_on}
use Rattle.icu_locale_extensions.specs.Built.{with_attributes}
use Rattle.icu_locale_extensions.specs.laws.Reader.Part.{keywords}
use Rattle.icu_locale_extensions.specs.inner.Takes.{IsEnd}
use Rattle.icu_locale_extensions.proofs.Taking.{next_some, next_none, attributes_step, attributes_next, attributes_none, end_none, end_both, end_next, rising_none}
use Rattle.icu_locale_extensions.proofs.reader.take_attributes.Goals as goal

pub pieces-init : goal.pieces-init
pieces-init c = record {
  read = [];
  now = ap (with_attributes c.args.x.now) (c.requires ∙ sym rising_none);
  goes_on = refl;
  rest = end_none c.args.pieces.now;
}

pub pieces-preserved : goal.pieces-preserved
pieces-preserved c =
    let read = c.pieces.invariant.read in
    let next = next_some is_subtag c.pieces.pieces c.in-Some.attribute (sym c.in-Some.ensures.read) in
    record {
      read = read ++ next.0 ∷ [];
      now = λ i. with_attributes (c.pieces.invariant.now i) ((c.in_ok-insert.ensures.members
          ∙ (λ j. rising (from_list (sym next.1.1.1 j ∷ (c.pieces.invariant.now j).attributes)))
          ∙ attributes_step (lowercase next.0) (map lowercase read)
          ∙ ap (λ ts. rising (from_list ts)) (sym (map-append lowercase read (next.0 ∷ [])))) i);
      goes_on = c.pieces.invariant.goes_on ∙ attributes_next c.args.x.now read c.pieces.pieces next.0 c.next_of.new.pieces
          (next.1.0 ∙ ap (λ ps. next.0 ∷ ps) (sym c.next_of.ensures.rest)) next.1.1.0;
      rest = end_both c.next_of.new.pieces c.pieces.pieces c.args.pieces.now
          (end_next is_subtag c.pieces.pieces c.next_of.new.pieces c.in-Some.attribute (sym c.in-Some.ensures.read) c.next_of.ensures.rest) c.pieces.invariant.rest;
    }

pub returns : goal.returns
returns c =
    let none = next_none is_subtag c.pieces.pieces (sym c.in_default.ensures.read) in
    let same = c.next_of.ensures.rest ∙ none.0 in
    record {
      read = c.pieces.invariant.goes_on ∙ attributes_none c.args.x.now c.pieces.invariant.read c.pieces.pieces none.1
          ∙ (λ i. read_on keywords [] (sym c.pieces.invariant.now i) (sym same i));
      rest = subst (λ ps. IsEnd ps c.args.pieces.now) (sym same) c.pieces.invariant.rest;
    }
