use Rattle.std.proofs.Common.{inr, [], Some, refl, ap, sym, ◌∙◌}
use Rattle.icu_locale_extensions.specs.Extensions.{is_piece, is_tkey}
use Rattle.icu_locale_extensions.specs.laws.Reader.{read_on}
use Rattle.icu_locale_extensions.specs.Built.{with_fields}
use Rattle.icu_locale_core.specs.Maps.{add_first}
use Rattle.icu_locale_core.specs.TextSet.{text_cmp}
use Rattle.icu_locale_extensions.specs.laws.Reader.Part.{fields, field}
use Rattle.icu_locale_extensions.specs.inner.Takes.{read_opened}
use Rattle.icu_locale_extensions.proofs.Taking.{key_next, opened_taken, first-front, left_shorter, end_both, end_from, end_next, fields_kept, kept_field}
use Rattle.icu_locale_extensions.proofs.reader.take_fields.Goals as goal

pub pieces-smaller : goal.pieces-smaller
pieces-smaller c = rw (c.in_ok-value.ensures.rest, c.next_field_key.ensures.rest)
    (left_shorter is_tkey _ c.pieces.pieces c.in-Some.key (sym c.in-Some.ensures.read))

pub pieces-preserved : goal.pieces-preserved
pieces-preserved c =
    let x = c.pieces.x in
    let k = c.in-Some.key in
    let is = sym c.in-Some.ensures.read in
    let rows = x.fields in
    record {
      read = c.pieces.invariant.read ∙ key_next fields is_tkey field (λ x p ps. refl) (λ x. refl) x c.pieces.pieces k is
          ∙ ap (read_opened (Some (field k)) x) (sym c.next_field_key.ensures.rest) ∙ opened_taken (field k) x c.next_field_key.new.pieces (sym (first-front (is_piece 3) c.next_field_key.new.pieces) ∙ c.in_ok-value.ensures.some refl)
          ∙ (λ i. read_on fields [] (with_fields x ((ap (add_first text_cmp rows k) (sym c.in_ok-value.ensures.read)
          ∙ sym c.in_ok-add.ensures.rows) i))
          (sym c.in_ok-value.ensures.rest i));
      rest = end_both c.read_front.new.pieces c.next_field_key.new.pieces c.args.pieces.now (end_from _ c.read_front.new.pieces c.next_field_key.new.pieces c.in_ok-value.ensures.rest)
          (end_both c.next_field_key.new.pieces c.pieces.pieces c.args.pieces.now (end_next is_tkey c.pieces.pieces c.next_field_key.new.pieces k is c.next_field_key.ensures.rest) c.pieces.invariant.rest);
      some = inr (fields_kept c.args.pieces.now c.pieces.pieces k c.pieces.invariant.some is);
    }

pub returns-in_err-value-clause-memory : goal.returns-in_err-value-clause-memory
returns-in_err-value-clause-memory c is =
    kept_field c.args.pieces.now (fields_kept c.args.pieces.now c.pieces.pieces c.in-Some.key c.pieces.invariant.some (sym c.in-Some.ensures.read))

pub returns-in_err-add-clause-memory : goal.returns-in_err-add-clause-memory
returns-in_err-add-clause-memory c is =
    kept_field c.args.pieces.now (fields_kept c.args.pieces.now c.pieces.pieces c.in-Some.key c.pieces.invariant.some (sym c.in-Some.ensures.read))
