-- How the ends of a stream's lines make the ends of the stream.
use Rattle.std.proofs.Common.{◌≡◌, ℕ, true, false, List, [], ◌∷◌, ◌++◌, Option, Some, None, Result, IfOk, IfErr, inl, inr, refl, ap, sym, ◌⊎◌}
use Rattle.std.proofs.Common.{subst, ◌∙◌, append_assoc, append-nil}
use Rattle.std.specs.Io.KnownBytes.{Consumes, prepend_known}
use Rattle.std.proofs.KnownBytes.{Consumes-nil, Consumes-trans}
use Rattle.std.proofs.lemmas.Result.{IfOk-weaker, IfErr-weaker}
use Rattle.icu_tables.specs.declared.tables.Tables.{Tables}
use Rattle.icu_locale_lines.specs.declared.command.Command.TheVariants.{Lines}
use Rattle.icu_locale_lines.specs.declared.command.LineCommand.{LineCommand}
use Rattle.icu_locale_lines.specs.declared.error.CliError.{CliError}
use Rattle.icu_locale_lines.specs.declared.error.CliError.TheVariants.{Read, Memory}
use Rattle.icu_locale_lines.specs.declared.runs.Status.{Status}
use Rattle.icu_locale_lines.specs.declared.runs.Status.TheVariants.{Accepted}
use Rattle.icu_locale_lines.specs.declared.work.Work.{Work}
use Rattle.icu_locale_lines.specs.Held.{IsWorkOver, HoldsList, held_in}
use Rattle.icu_locale_lines.specs.Lines.{first_line, after_first_line, AreWithin, Stream}
use Rattle.icu_locale_lines.specs.Runs.{ReadsAll, WritesAll}
use Rattle.icu_locale_lines.specs.Streams.{IsRunWithin, HasHead, StopsStream, StopsLoaded, ReadsLine}
use Rattle.icu_locale_lines.specs.Tasks.{asks_list}
use Rattle.icu_locale_lines.specs.WholeRuns.{IsUnread}
use Rattle.icu_locale_lines.specs.declared.session.Session.{Session}
use Rattle.icu_locale_lines.proofs.Bounds.{within_none, within_alone, within_ended, within_after}
use Rattle.icu_locale_lines.proofs.FirstLines.{place_of_end, alone}
use Rattle.icu_locale_lines.proofs.Progress.{answered_none, all_answered}
use Rattle.icu_locale_lines.proofs.Sessions.{work_alone, work_listed, answered_alone, answered_listed}

-- nothing before a reader
pub prepend_none : (read : Stream) → prepend_known [] read ≡ read
prepend_none None = refl
prepend_none (Some xs) = refl

-- a command whose lines follow a head
module _ (c : LineCommand) (t : Tables) (longest : Option ℕ) (start mid : Stream) (w : Work) (h : HasHead longest c t start mid w)
    (left read' wrote wrote' : Stream) where
  pub run_behind : (r : Result Status CliError) → IfOk r (λ status. (input : List ℕ) × ReadsAll mid read' input × AreWithin longest input
      × WritesAll w input wrote wrote' status) → IfOk r (IsRunWithin longest (Lines c) t start left read' wrote wrote')
  run_behind r run = IfOk-weaker r _ _ (λ s (input, all, later, writes). (
    h.head ++ input,
    record { consumed = Consumes-trans start mid read' h.head input h.head_read all.consumed; ended = all.ended },
    within_after longest h.head input h.ends h.within later,
    record { work = w; work_of = h.work_of input; all_written = subst (λ x. WritesAll w x wrote wrote' s) (sym (h.answered input)) writes },
  )) run

  pub stopped_behind : (r : Result Status CliError) → IfErr r (StopsStream longest w mid read' wrote wrote')
      → IfErr r (StopsLoaded longest (Lines c) t start left read' wrote wrote')
  stopped_behind r stopped = IfErr-weaker r _ _ (λ e s. inr (mid, w, h, s)) stopped

-- a command that asks for no list
pub head_alone : (c : LineCommand) (t : Tables) (s : Session) (w : Work) → asks_list c.task ≡ false → IsWorkOver c (held_in t s) w
    → (longest : Option ℕ) (start : Stream) → HasHead longest c t start start w
head_alone c t s w asks over longest start = record {
  head = [];
  head_read = Consumes-nil start;
  ends = inl refl;
  within = within_none longest;
  work_of = work_alone c t s w asks over;
  answered = answered_alone c asks;
}

-- a command whose first line was read, and lists what is available
module _ (c : LineCommand) (t : Tables) (asks : asks_list c.task ≡ true) (line : List ℕ) (s : Session) (w : Work)
    (lists : HoldsList c.syntax line (held_in t s)) (over : IsWorkOver c (held_in t s) w) (longest : Option ℕ) (start : Stream) where
  pub head_listed : (mid : Stream) → ReadsLine longest start mid line false → HasHead longest c t start mid w
  head_listed mid reads = record {
    head = line ++ 10 ∷ [];
    head_read = reads.consumed;
    ends = inr (line, refl);
    within = within_ended longest line reads.alone reads.within;
    work_of = λ text. work_listed c t s w line lists over ((line ++ 10 ∷ []) ++ text)
        (ap first_line (append_assoc line (10 ∷ []) text) ∙ (place_of_end line text reads.alone).0);
    answered = λ text. answered_listed c asks ((line ++ 10 ∷ []) ++ text)
        ∙ (ap after_first_line (append_assoc line (10 ∷ []) text) ∙ (place_of_end line text reads.alone).1);
  }

  -- where the input ended with that line, nothing is answered
  pub ended_run : (left read wrote : Stream) → ReadsLine longest start read line true
      → IsRunWithin longest (Lines c) t start left read wrote wrote Accepted
  ended_run left read wrote reads =
      let whole = alone line reads.alone in (
        line,
        record { consumed = subst (Consumes start read) (append-nil line) reads.consumed; ended = reads.at_end refl },
        within_alone longest line (reads.alone, reads.within),
        record {
          work = w;
          work_of = work_listed c t s w line lists over line whole.0;
          all_written = subst (λ x. WritesAll w x wrote wrote Accepted) (sym (answered_listed c asks line ∙ whole.1)) (all_answered {text = []} (answered_none w wrote));
        },
      )

-- a line that was not read
pub unread_from : (Left : Type 0) (e : CliError) → (e ≡ Read) ⊎ (e ≡ Memory) → (e ≡ Read → Left) → IsUnread Left e
unread_from Left e (inl is) left = subst (IsUnread Left) (sym is) (left is)
unread_from Left e (inr is) left = subst (IsUnread Left) (sym is) tt
