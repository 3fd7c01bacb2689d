use Rattle.std.proofs.Common.{◌∙◌, sym, ap, option_copied}
use Rattle.icu_locale_core.specs.Maps.{value_at}
use Rattle.icu_locale_core.specs.TextSet.{text_cmp}
use Rattle.icu_tables_flat.specs.Flat.{text_in}
use Rattle.icu_tables_flat.specs.inner.Views.{parts_of}
use Rattle.icu_tables_flat.proofs.Forms.{formed, run_known, run_unknown}
use Rattle.icu_tables_flat.proofs.texts.FlatTexts.get.Goals as goal

pub rows_of-requires : goal.rows_of-requires
rows_of-requires c = (formed (parts_of c.self.inside) c.self.invariant).ended

pub returns-in_default : goal.returns-in_default
returns-in_default c =
    ap (λ rows. value_at text_cmp rows c.args.key.now)
    (sym (run_unknown (parts_of c.self.inside) c.args.run (sym c.rows_of.ensures ∙ ap option_copied c.in_default.is)))
    ∙ ap (λ f. text_in f c.args.run c.args.key.now) c.self.view_is

pub text_at_key-requires-clause-pieces : goal.text_at_key-requires-clause-pieces
text_at_key-requires-clause-pieces c =
    (run_known (parts_of c.self.inside) c.args.run c.in-Some.rows.now (formed _ c.self.invariant)
    (sym c.rows_of.ensures ∙ ap option_copied c.in-Some.is)).pieces

pub text_at_key-requires-clause-rise : goal.text_at_key-requires-clause-rise
text_at_key-requires-clause-rise c =
    (run_known (parts_of c.self.inside) c.args.run c.in-Some.rows.now (formed _ c.self.invariant)
    (sym c.rows_of.ensures ∙ ap option_copied c.in-Some.is)).rise

pub returns : goal.returns
returns c =
    c.text_at_key.ensures
    ∙ ap (λ rows. value_at text_cmp rows c.args.key.now)
    (sym (run_known (parts_of c.self.inside) c.args.run c.in-Some.rows.now (formed _ c.self.invariant)
    (sym c.rows_of.ensures ∙ ap option_copied c.in-Some.is)).rows)
    ∙ ap (λ f. text_in f c.args.run c.args.key.now) c.self.view_is
