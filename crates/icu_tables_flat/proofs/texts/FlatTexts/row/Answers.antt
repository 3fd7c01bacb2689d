use Rattle.std.proofs.Common.{◌∙◌, Some, sym, ap, slice_get, option_copied, [], arith}
use Rattle.std.proofs.lemmas.List.Sums.{AllPass-from_list_all}
use Rattle.icu_tables_flat.specs.Flat.{run_at}
use Rattle.icu_tables_flat.specs.Form.{is_row, row_of}
use Rattle.icu_tables_flat.specs.inner.Views.{parts_of}
use Rattle.icu_tables_flat.proofs.Forms.{formed, run_known, run_unknown, slice_get_there, slice_get_beyond}
use Rattle.icu_tables_flat.proofs.texts.FlatTexts.row.Goals as goal

pub rows_of-requires : goal.rows_of-requires
rows_of-requires c = (formed (parts_of c.self.inside) c.self.invariant).ended

pub returns-in_default : goal.returns-in_default
returns-in_default c =
    ap (λ rows. slice_get rows c.args.at)
    (sym (run_unknown (parts_of c.self.inside) c.args.run (sym c.rows_of.ensures ∙ ap option_copied c.in_default.is)))
    ∙ ap (λ f. slice_get (run_at f c.args.run) c.args.at) c.self.view_is

pub key_of-requires : goal.key_of-requires
key_of-requires c =
    AllPass-from_list_all (is_row c.self.inside.texts.now) c.in-Some.rows.now
    (run_known (parts_of c.self.inside) c.args.run c.in-Some.rows.now (formed _ c.self.invariant)
    (sym c.rows_of.ensures ∙ ap option_copied c.in-Some.is)).pieces c.args.at [] (omega arith)

pub text_of-requires : goal.text_of-requires
text_of-requires c =
    AllPass-from_list_all (is_row c.self.inside.texts.now) c.in-Some.rows.now
    (run_known (parts_of c.self.inside) c.args.run c.in-Some.rows.now (formed _ c.self.invariant)
    (sym c.rows_of.ensures ∙ ap option_copied c.in-Some.is)).pieces c.args.at [] (omega arith)

pub returns-then-at-rows : goal.returns-then-at-rows
returns-then-at-rows c =
    sym (slice_get_beyond (row_of c.self.inside.texts.now) c.in-Some.rows.now c.args.at (omega arith))
    ∙ ap (λ rows. slice_get rows c.args.at)
    (sym (run_known (parts_of c.self.inside) c.args.run c.in-Some.rows.now (formed _ c.self.invariant)
    (sym c.rows_of.ensures ∙ ap option_copied c.in-Some.is)).rows)
    ∙ ap (λ f. slice_get (run_at f c.args.run) c.args.at) c.self.view_is

pub returns : goal.returns
returns c =
    (λ i. Some (c.key_of.ensures i, c.text_of.ensures i))
    ∙ sym (slice_get_there (row_of c.self.inside.texts.now) c.in-Some.rows.now c.args.at (omega arith))
    ∙ ap (λ rows. slice_get rows c.args.at)
    (sym (run_known (parts_of c.self.inside) c.args.run c.in-Some.rows.now (formed _ c.self.invariant)
    (sym c.rows_of.ensures ∙ ap option_copied c.in-Some.is)).rows)
    ∙ ap (λ f. slice_get (run_at f c.args.run) c.args.at) c.self.view_is
