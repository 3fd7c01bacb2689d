use Rattle.std.proofs.Common.{[], Some, refl, ap, sym, ◌∙◌}
use Rattle.icu_locale_core.specs.Subtag.{is_key}
use Rattle.icu_locale_extensions.specs.laws.Reader.{read_on}
use Rattle.icu_locale_extensions.specs.Built.{with_keywords}
use Rattle.icu_locale_core.specs.Maps.{add_first}
use Rattle.icu_locale_core.specs.TextSet.{text_cmp}
use Rattle.icu_locale_extensions.specs.laws.Reader.Part.{keywords, keyword}
use Rattle.icu_locale_extensions.specs.inner.Takes.{read_opened}
use Rattle.icu_locale_extensions.proofs.Taking.{key_next, opened_taken, left_shorter, end_both, end_from, end_next}
use Rattle.icu_locale_extensions.proofs.reader.take_keywords.Goals as goal

pub pieces-smaller : goal.pieces-smaller
pieces-smaller c = rw (c.in_ok-value.ensures.rest, c.next_of.ensures.rest)
    (left_shorter is_key _ c.pieces.pieces c.in-Some.key (sym c.in-Some.ensures.read))

pub pieces-preserved : goal.pieces-preserved
pieces-preserved c =
    let x = c.pieces.x in
    let k = c.in-Some.key in
    let is = sym c.in-Some.ensures.read in
    let rows = x.locale.extensions.unicode.keywords in
    record {
      read = c.pieces.invariant.read ∙ key_next keywords is_key keyword (λ x p ps. refl) (λ x. refl) x c.pieces.pieces k is
          ∙ ap (read_opened (Some (keyword k)) x) (sym c.next_of.ensures.rest) ∙ opened_taken (keyword k) x c.next_of.new.pieces refl
          ∙ (λ i. read_on keywords [] (with_keywords x ((ap (add_first text_cmp rows k) (sym c.in_ok-value.ensures.read)
          ∙ sym c.in_ok-add.ensures.rows) i))
          (sym c.in_ok-value.ensures.rest i));
      rest = end_both c.read_front.new.pieces c.next_of.new.pieces c.args.pieces.now (end_from _ c.read_front.new.pieces c.next_of.new.pieces c.in_ok-value.ensures.rest)
          (end_both c.next_of.new.pieces c.pieces.pieces c.args.pieces.now (end_next is_key c.pieces.pieces c.next_of.new.pieces k is c.next_of.ensures.rest) c.pieces.invariant.rest);
    }
