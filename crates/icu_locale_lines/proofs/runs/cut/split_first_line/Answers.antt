use Rattle.std.proofs.Common.{◌≡◌, arith, rules}
use Rattle.std.proofs.lemmas.Grind.{common_steps}
use Rattle.icu_locale_lines.specs.Lines.{after_first_line}
use Rattle.icu_locale_lines.proofs.Bounds.{ends_split}
use Rattle.icu_locale_lines.proofs.runs.cut.split_first_line.Goals as goal

pub returns-clause-whole : goal.returns-clause-whole
returns-clause-whole c =
    let behind : c.split_at.result.1.now ≡ after_first_line c.args.text.now = grind (arith, common_steps) in
    ends_split c.args.text.now c.split_at.result.0.now c.split_at.result.1.now (search rules) behind
