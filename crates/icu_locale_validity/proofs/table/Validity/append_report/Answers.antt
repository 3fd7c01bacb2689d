use Rattle.std.proofs.Common.{◌++◌, ◌-◌, length, take, sym, ap, ◌∙◌}
use Rattle.icu_locale_validity.specs.Reports.{report_of}
use Rattle.icu_locale_validity.proofs.Told.{cut_last, faults_told, valid_told}
use Rattle.icu_locale_validity.proofs.table.Validity.append_report.Goals as goal

pub returns-then-is_valid-clause-appended : goal.returns-then-is_valid-clause-appended
returns-then-is_valid-clause-appended c =
    c.in_ok-extend_from_slice.ensures.items ∙ ap (λ r. c.args.report.now.items ++ r)
    (sym (valid_told c.args.self.now c.args.text.now c.args.x.now (sym c.is_valid.ensures.test ∙ c.if-is_valid.true)))

-- the tab after the last part is taken away
pub returns-in-Ok-clause-appended : goal.returns-in-Ok-clause-appended
returns-in-Ok-clause-appended c =
    let old = c.args.report.now.items in
    let whole = faults_told c.args.self.now c.args.text.now c.args.x.now (sym c.is_valid.ensures.test ∙ c.if-is_valid.false) in
    c.drop_last.ensures
    ∙ ap (λ items. take (length items - 1) items) (c.in-Ok.ensures.appended ∙ ap (λ r. old ++ r) whole)
    ∙ cut_last old (report_of c.args.self.now c.args.text.now c.args.x.now) 9
