use Rattle.std.proofs.Common.{sym, ◌∙◌}
use Rattle.icu_locale_validity.specs.Parts.{is_valid_part, parts_of}
use Rattle.icu_locale_validity.proofs.Wholes.{each_is_told, whole}
use Rattle.icu_locale_validity.proofs.table.Validity.is_valid.Goals as goal

pub returns-clause-test : goal.returns-clause-test
returns-clause-test c = c.is_whole.ensures ∙ whole c.args.self.now c.args.x.now

pub returns-clause-each : goal.returns-clause-each
returns-clause-each c =
    let same = c.is_whole.ensures ∙ whole c.args.self.now c.args.x.now in
    let told = each_is_told (is_valid_part c.args.self.now) (parts_of c.args.x.now) in
    (λ e. told.0 (sym same ∙ e), λ each. same ∙ told.1 each)
