use Rattle.std.proofs.Common.{◌∙◌, sym, ap, option_copied, length}
use Rattle.std.proofs.lemmas.List.{length-map}
use Rattle.icu_tables_flat.specs.Flat.{run_at}
use Rattle.icu_tables_flat.specs.Form.{row_of}
use Rattle.icu_tables_flat.specs.inner.Views.{parts_of}
use Rattle.icu_tables_flat.proofs.Forms.{formed, run_known, run_unknown}
use Rattle.icu_tables_flat.proofs.texts.FlatTexts.run_len.Goals as goal

pub rows_of-requires : goal.rows_of-requires
rows_of-requires c = (formed (parts_of c.self.inside) c.self.invariant).ended

pub returns-in_default : goal.returns-in_default
returns-in_default c =
    ap length
    (sym (run_unknown (parts_of c.self.inside) c.args.run (sym c.rows_of.ensures ∙ ap option_copied c.in_default.is)))
    ∙ ap (λ f. length (run_at f c.args.run)) c.self.view_is

pub returns : goal.returns
returns c =
    sym (length-map c.in-Some.rows.now (row_of c.self.inside.texts.now))
    ∙ ap length (sym (run_known (parts_of c.self.inside) c.args.run c.in-Some.rows.now (formed _ c.self.invariant)
    (sym c.rows_of.ensures ∙ ap option_copied c.in-Some.is)).rows)
    ∙ ap (λ f. length (run_at f c.args.run)) c.self.view_is
