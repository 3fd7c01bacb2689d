use Rattle.std.proofs.Common.{sym}
use Rattle.icu_locale_matching.proofs.Groups.{no_group}
use Rattle.icu_locale_matching.proofs.candidates.group_at.Goals as goal

pub returns-in-None : goal.returns-in-None
returns-in-None c = λ forms grouped. sym (no_group forms c.args.groups.now c.args.language.now grouped c.in-None.ensures)
