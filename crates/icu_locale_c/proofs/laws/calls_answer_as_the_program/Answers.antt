use Rattle.std.proofs.Common.{◌≡◌, sym, subst, refl, ◌∙◌}
use Rattle.std.proofs.lemmas.Bool.{false≢true}
use Rattle.std.specs.Prelude.{Some, []}
use Rattle.icu_locale_lines.specs.Held.{HoldsList, IsWorkOver}
use Rattle.icu_locale_lines.specs.Lines.{first_line}
use Rattle.icu_locale_lines.specs.Runs.{WritesAll}
use Rattle.icu_locale_c.specs.Program.{as_line, behind_list}
use Rattle.icu_locale_c.proofs.Programs.{answered_behind, first_is, status_for, status_for-is, text_alone, work_alone, writes_one, wrote_one}
use Rattle.icu_locale_c.proofs.laws.calls_answer_as_the_program.Goals as goal

pub returns-clause-alone : goal.returns-clause-alone
returns-clause-alone c = λ h command line text accepted asks none. (
  λ answer.
      let alone = asks answer.asked answer.named in
      record {
        asked = answer.asked;
        named = answer.named;
        whole = answer.whole;
        status = status_for accepted;
        written = record {
          work = answer.work;
          work_of = record {
            held = h;
            for = record { tables = refl; list = λ listed. absurd (false≢true (sym alone ∙ listed)) };
            over = answer.work_of;
          };
          all_written = subst (λ t. WritesAll answer.work t (Some []) (Some answer.whole) (status_for accepted))
              (sym (text_alone answer.asked (as_line line) alone)) (writes_one answer.work line answer.whole accepted none answer.answer);
        };
        status_is = status_for-is accepted;
        text_is = answer.text_is;
      },
  λ written.
      let alone = asks written.asked written.named in
      let lines = written.written in
      record {
        asked = written.asked;
        named = written.named;
        work = lines.work;
        work_of = work_alone written.asked h lines.work_of.held lines.work alone lines.work_of.for.tables lines.work_of.over;
        whole = written.whole;
        answer = wrote_one lines.work line written.whole accepted written.status none
            (subst (λ t. WritesAll lines.work t (Some []) (Some written.whole) written.status) (text_alone written.asked (as_line line) alone)
            lines.all_written) written.status_is;
        text_is = written.text_is;
      },
)

pub returns-clause-listed : goal.returns-clause-listed
returns-clause-listed c = λ syntax t list h command line text accepted asks no_feed none is. (
  λ answer.
      let in_list = asks answer.asked answer.named in
      record {
        asked = answer.asked;
        named = answer.named;
        whole = answer.whole;
        status = status_for accepted;
        written = record {
          work = answer.work;
          work_of = record {
            held = h;
            for = record {
              tables = is.tables;
              list = λ listed. subst (λ s. HoldsList s (first_line (behind_list list line)) h) (sym in_list.1)
                  (subst (λ l. HoldsList syntax l h) (sym (first_is list (as_line line) no_feed)) is.listed);
            };
            over = answer.work_of;
          };
          all_written = subst (λ t. WritesAll answer.work t (Some []) (Some answer.whole) (status_for accepted))
              (sym (answered_behind answer.asked list line no_feed in_list.0)) (writes_one answer.work line answer.whole accepted none answer.answer);
        };
        status_is = status_for-is accepted;
        text_is = answer.text_is;
      },
  λ written.
      let in_list = asks written.asked written.named in
      let lines = written.written in
      let k = lines.work_of.held in
      let listed = subst (λ l. HoldsList syntax l k) (first_is list (as_line line) no_feed)
      (subst (λ s. HoldsList s (first_line (behind_list list line)) k) in_list.1 (lines.work_of.for.list in_list.0)) in
      let one = c.a_list_is_one.ensures syntax list k h listed is.listed in
      let same : k ≡ h = λ i. record {
        tables = (lines.work_of.for.tables ∙ sym is.tables) i;
        available = one.0 i;
        wholes = one.1 i;
      } in
      record {
        asked = written.asked;
        named = written.named;
        work = lines.work;
        work_of = subst (λ g. IsWorkOver written.asked g lines.work) same lines.work_of.over;
        whole = written.whole;
        answer = wrote_one lines.work line written.whole accepted written.status none
            (subst (λ t. WritesAll lines.work t (Some []) (Some written.whole) written.status)
            (answered_behind written.asked list line no_feed in_list.0) lines.all_written) written.status_is;
        text_is = written.text_is;
      },
)
