-- What is answered over tables that were opened of a text, and what the program writes over that text.
use Rattle.std.proofs.Common.{◌≡◌, ◌↔◌, ℕ, Bool, true, false, List, [], ◌∷◌, ◌++◌, Option, None, Some, Ok, refl, ap, sym, subst, ◌∙◌, append-nil}
use Rattle.std.specs.List.{list_any}
use Rattle.icu_tables.specs.File.{rows_in}
use Rattle.icu_tables.specs.Supplement as further
use Rattle.icu_tables.specs.declared.tables.Tables.{Tables}
use Rattle.icu_locale_lines.specs.Lines.{Stream, after_first_line, first_line, is_line_feed}
use Rattle.icu_locale_lines.specs.Runs.{ReadsAll}
use Rattle.icu_locale_lines.specs.SameRows.{HaveSameRows}
use Rattle.icu_locale_lines.specs.WholeRuns.{WritesOutput}
use Rattle.icu_locale_lines.specs.declared.asked.Asked.{Asked}
use Rattle.icu_locale_lines.specs.declared.command.Command.{Command}
use Rattle.icu_locale_lines.specs.declared.command.Command.TheVariants.{Lines, Settled}
use Rattle.icu_locale_lines.specs.declared.command.LineCommand.{LineCommand}
use Rattle.icu_locale_lines.specs.declared.runs.Status.{Status}
use Rattle.icu_locale_lines.specs.Held.{Held}
use Rattle.icu_locale_c.specs.Calls.{IsAnswerTo, IsOpened, Names, plainly, unended}
use Rattle.icu_locale_c.specs.Program.{IsWrittenFor, IsWrittenOverJson, as_line, behind_list}
use Rattle.icu_locale_c.proofs.Programs.{first_is, rest_is, same_answer}

-- words name one command
abbrev line_of : LineCommand → Command → LineCommand
line_of c (Lines d) = d
line_of c Settled = c

abbrev asked_of : LineCommand → Option Asked → LineCommand
asked_of c None = c
asked_of c (Some a) = line_of c a.command

one_named : (command : List ℕ) (c d : LineCommand) → Names command c → Names command d → c ≡ d
one_named command c d is other = ap (asked_of c) (sym is ∙ other)

-- what is read to the end is all
all_of : (input read : List ℕ) (new : Stream) → ReadsAll (Some input) new read → read ≡ input
all_of input read None reads = absurd reads.consumed
all_of input read (Some left) reads = sym (append-nil read) ∙ ap (λ t. read ++ t) (sym reads.ended) ∙ sym reads.consumed

abbrev OutputIsOne : Type 0
OutputIsOne = (c : Command) (t u : Tables) (input one two : List ℕ) (of_one of_two : Status) → HaveSameRows t u
    → WritesOutput c t input (Some []) (Some one) of_one → WritesOutput c u input (Some []) (Some two) of_two → (one ≡ two) × (of_one ≡ of_two)

module _ (json : List ℕ) (old : Option Held) (h : Held) (command line text : List ℕ) (accepted : Bool)
    (none : list_any is_line_feed json ≡ false) (opened : IsOpened json old (Some h) (Ok tt)) (w : IsWrittenFor h.tables command (as_line line) text accepted) where
  pub over_json : IsWrittenOverJson json command line text accepted
  over_json = record {
    asked = w.asked;
    named = w.named;
    left = Some [];
    whole = w.whole;
    status = w.status;
    written = (
      h.tables,
      as_line line,
      record {
        input = behind_list json line;
        all_read = record { consumed = sym (append-nil (behind_list json line)); ended = refl };
        rows = ap rows_in (first_is json (as_line line) none) ∙ opened.0;
        alone = opened.1;
        rest_is = sym (rest_is json (as_line line) none);
      },
      w.written,
    );
    status_is = w.status_is;
    text_is = w.text_is;
  }

  pub over_one : OutputIsOne → (other : List ℕ) (also : Bool) → IsWrittenOverJson json command line other also → (text ≡ other) × (accepted ≡ also)
  over_one one other also run =
      let t = run.written.0 in
      let reads = run.written.2 in
      let all = all_of (behind_list json line) reads.input run.left reads.all_read in
      let first : first_line reads.input ≡ json = ap first_line all ∙ first_is json (as_line line) none in
      let rest : run.written.1 ≡ as_line line = reads.rest_is ∙ ap after_first_line all ∙ rest_is json (as_line line) none in
      let same : HaveSameRows h.tables t = record {
        rows = cc (sym opened.0 ∙ ap rows_in (sym first) ∙ reads.rows);
        supplement = ap further.rows_of (opened.1.0 ∙ sym reads.alone.0);
        lent = opened.1.1 ∙ sym reads.alone.1;
      } in
      let asked = one_named command run.asked w.asked run.named w.named in
      let written = subst (λ c. WritesOutput (Lines c) t (as_line line) (Some []) (Some run.whole) run.status) asked
      (subst (λ input. WritesOutput (Lines run.asked) t input (Some []) (Some run.whole) run.status) rest run.written.3) in
      let output = one (Lines w.asked) h.tables t (as_line line) w.whole run.whole w.status run.status same w.written written in (
        w.text_is ∙ ap unended output.0 ∙ sym run.text_is,
        same_answer accepted also (
          (λ yes_first. run.status_is.0 (sym output.1 ∙ w.status_is.1 yes_first)),
          (λ yes_then. w.status_is.0 (output.1 ∙ run.status_is.1 yes_then)),
        ),
      )
