use Rattle.icu_locale_lines.proofs.SameTables.{same_tables}
use Rattle.icu_locale_lines.proofs.Works.{same_held, works_alike}
use Rattle.icu_locale_lines.proofs.laws.works_answer_alike.Goals as goal

pub returns-clause-held : goal.returns-clause-held
returns-clause-held c = λ command h one two line text accepted of_one of_two says.
    works_alike c.spelled_once.ensures command h h (same_held h) line one two text accepted of_one of_two says

pub returns-clause-rows : goal.returns-clause-rows
returns-clause-rows c = λ command h k one two line text accepted rows available wholes of_one of_two says.
    works_alike c.spelled_once.ensures command h k (record {
      tables = same_tables h.tables k.tables rows;
      available = available;
      wholes = wholes;
    }) line one two text accepted of_one of_two says
