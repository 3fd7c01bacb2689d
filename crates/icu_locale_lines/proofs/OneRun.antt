-- The words of a program and its input determine what is written.
use Rattle.std.proofs.Common.{◌≡◌, ℕ, Bool, true, false, List, [], ◌∷◌, ◌++◌, Option, Some, None, Ok, refl, ap, sym, subst, ◌∙◌, append-nil, append_assoc}
use Rattle.std.proofs.lemmas.Option.{same_Some}
use Rattle.icu_tables.specs.File.{rows_in}
use Rattle.icu_tables.specs.Rows.{rows_of}
use Rattle.icu_tables.specs.Supplement as further
use Rattle.icu_tables.specs.declared.supplement.Supplement.{Supplement}
use Rattle.icu_tables.specs.declared.tables.Tables.{Tables}
use Rattle.icu_locale_lines.specs.Lines.{Stream, after_first_line, first_line}
use Rattle.icu_locale_lines.specs.Runs.{ReadsAll}
use Rattle.icu_locale_lines.specs.SameRows.{HaveSameRows}
use Rattle.icu_locale_lines.specs.Streams.{IsRunWithin, ReadsLine}
use Rattle.icu_locale_lines.specs.WholeRuns.{ReadsInput, StandAlone, WritesOutput}
use Rattle.icu_locale_lines.specs.WordRuns.{IsRunBy, IsSample, IsStreamFrom, IsWholeSample, IsWordsRun, IsWordsStream}
use Rattle.icu_locale_lines.specs.declared.asked.Asked.{Asked}
use Rattle.icu_locale_lines.specs.declared.asked.Source.{Source}
use Rattle.icu_locale_lines.specs.declared.asked.Source.TheVariants as source
use Rattle.icu_locale_lines.specs.declared.command.Command.{Command}
use Rattle.icu_locale_lines.specs.declared.command.Command.TheVariants as command
use Rattle.icu_locale_lines.specs.declared.runs.Status.{Status}
use Rattle.icu_locale_lines.proofs.FirstLines.{alone as alone_line, place_of_end}

-- the output is one over tables with the same rows
abbrev pub OutputIsOne : Type 0
OutputIsOne = (c : Command) (t u : Tables) (input one two : List ℕ) (of_one of_two : Status) → HaveSameRows t u
    → WritesOutput c t input (Some []) (Some one) of_one → WritesOutput c u input (Some []) (Some two) of_two → (one ≡ two) × (of_one ≡ of_two)

-- ---- what is read

-- what is read to the end is all
all_of : (input read : List ℕ) (new : Stream) → ReadsAll (Some input) new read → read ≡ input
all_of input read None reads = absurd reads.consumed
all_of input read (Some left) reads = sym (append-nil read) ∙ ap (λ t. read ++ t) (sym reads.ended) ∙ sym reads.consumed

-- the first line that is read is that of the input, and what follows it is left
pub record IsCutThere (input : List ℕ) (mid : Stream) (line : List ℕ) : Type 0 where
  pub line_is : line ≡ first_line input
  pub left : mid ≡ Some (after_first_line input)

cut_there : (input : List ℕ) (mid : Stream) (line : List ℕ) (has_ended : Bool) → ReadsLine None (Some input) mid line has_ended → IsCutThere input mid line
cut_there input None line has_ended reads = absurd reads.consumed
cut_there input (Some left) line true reads =
    let none : left ≡ [] = reads.at_end refl in
    let is : input ≡ line = reads.consumed ∙ ap (λ t. (line ++ []) ++ t) none ∙ append-nil (line ++ []) ∙ append-nil line in
    let parts = alone_line line reads.alone in
    record { line_is = sym parts.0 ∙ ap first_line (sym is); left = ap Some (none ∙ sym parts.1 ∙ ap after_first_line (sym is)) }
cut_there input (Some left) line false reads =
    let is : input ≡ line ++ 10 ∷ left = reads.consumed ∙ append_assoc line (10 ∷ []) left in
    let parts = place_of_end line left reads.alone in
    record { line_is = sym parts.0 ∙ ap first_line (sym is); left = ap Some (sym parts.1 ∙ ap after_first_line (sym is)) }

-- ---- tables of one text

tables_of_one : (text other : List ℕ) (t u : Tables) → text ≡ other → rows_in text ≡ Ok (rows_of t) → rows_in other ≡ Ok (rows_of u) → StandAlone t
    → StandAlone u → HaveSameRows t u
tables_of_one text other t u same is also of_t of_u = record {
  rows = cc (sym is ∙ ap rows_in same ∙ also);
  supplement = ap further.rows_of (of_t.0 ∙ sym of_u.0);
  lent = of_t.1 ∙ sym of_u.1;
}

-- with supplements of one text
with_supplements : (t u : Tables) (s r : Supplement) → HaveSameRows t u → further.rows_of s ≡ further.rows_of r
    → HaveSameRows (record t { supplement = s }) (record u { supplement = r })
with_supplements t u s r same further_same = record { rows = same.rows; supplement = further_same; lent = same.lent }

supplements_of_one : (text other : List ℕ) (s r : Supplement) → text ≡ other → further.rows_in text ≡ Ok (further.rows_of s)
    → further.rows_in other ≡ Ok (further.rows_of r) → further.rows_of s ≡ further.rows_of r
supplements_of_one text other s r same is also = cc (sym is ∙ ap further.rows_in same ∙ also)

samples_same : (t u : Tables) → IsSample t → IsSample u → HaveSameRows t u
samples_same t u p q = tables_of_one _ _ t u refl p.0 q.0 p.1 q.1

whole_samples_same : (t u : Tables) → IsWholeSample t → IsWholeSample u → HaveSameRows t u
whole_samples_same t u p q = subst (λ (z : Tables × Tables). HaveSameRows z.0 z.1) (λ i. (sym p.is i, sym q.is i))
    (with_supplements p.sample q.sample p.supplement q.supplement (samples_same p.sample q.sample p.rows q.rows)
    (supplements_of_one _ _ p.supplement q.supplement refl p.supplement_rows q.supplement_rows))

-- ---- runs

module _ (output_is_one : OutputIsOne) (input one two : List ℕ) (read also : Stream) (of_one of_two : Status) where
  -- over the same of the input
  reads_one : (c : Command) (mid left mid' left' : Stream) (rest : List ℕ) (s r : List ℕ) → mid ≡ Some rest → mid' ≡ Some rest
      → ReadsInput c mid left read s → ReadsInput c mid' left' also r → s ≡ r
  reads_one command.Settled mid left mid' left' rest s r is is' p q = p.0 ∙ sym q.0
  reads_one (command.Lines c) mid left mid' left' rest s r is is' p q =
      all_of rest s read (subst (λ m. ReadsAll m read s) is p) ∙ sym (all_of rest r also (subst (λ m. ReadsAll m also r) is' q))

  over_one : (c : Command) (t u : Tables) (s r : List ℕ) → HaveSameRows t u → s ≡ r → WritesOutput c t s (Some []) (Some one) of_one
      → WritesOutput c u r (Some []) (Some two) of_two → (one ≡ two) × (of_one ≡ of_two)
  over_one c t u s r tables same p q =
      output_is_one c t u r one two of_one of_two tables (subst (λ x. WritesOutput c t x (Some []) (Some one) of_one) same p) q

  run_one : (c : Command) (json : Bool) → IsRunBy c json (Some input) read (Some []) (Some one) of_one
      → IsRunBy c json (Some input) also (Some []) (Some two) of_two → (one ≡ two) × (of_one ≡ of_two)
  run_one c true (t, rest, reads, writes) (u, more, also_reads, also_writes) =
      let same = all_of input reads.input read reads.all_read ∙ sym (all_of input also_reads.input also also_reads.all_read) in
      over_one c t u rest more (tables_of_one (first_line reads.input) (first_line also_reads.input) t u (ap first_line same) reads.rows also_reads.rows
      reads.alone also_reads.alone) (reads.rest_is ∙ ap after_first_line same ∙ sym also_reads.rest_is) writes also_writes
  run_one c false (t, sample, (whole, reads, writes)) (u, also_sample, (also_whole, also_reads, also_writes)) =
      over_one c t u whole also_whole (samples_same t u sample also_sample)
      (reads_one c (Some input) (Some input) (Some input) (Some input) input whole also_whole refl refl reads also_reads) writes also_writes

  within_one : (longest : Option ℕ) (c : Command) (t u : Tables) (mid left mid' left' : Stream) (rest : List ℕ) → mid ≡ Some rest → mid' ≡ Some rest
      → HaveSameRows t u → IsRunWithin longest c t mid left read (Some []) (Some one) of_one
      → IsRunWithin longest c u mid' left' also (Some []) (Some two) of_two → (one ≡ two) × (of_one ≡ of_two)
  within_one longest c t u mid left mid' left' rest is is' same (s, reads, within, writes) (r, also_reads, also_within, also_writes) =
      over_one c t u s r same (reads_one c mid left mid' left' rest s r is is' reads also_reads) writes also_writes

  from_one : (from : Source) (longest : Option ℕ) (c : Command) → IsStreamFrom from longest c (Some input) read (Some []) (Some one) of_one
      → IsStreamFrom from longest c (Some input) also (Some []) (Some two) of_two → (one ≡ two) × (of_one ≡ of_two)
  from_one source.Sample longest c (t, mid, left, (sample, is, held), runs) (u, mid', left', (also_sample, is', held'), also_runs) =
      within_one longest c t u mid left mid' left' input is is' (whole_samples_same t u sample also_sample) runs also_runs
  from_one source.Json longest c (t, mid, left, (reads, behind), runs) (u, mid', left', (reads', behind'), also_runs) =
      let cut = cut_there input mid reads.line reads.has_ended reads.reads in
      let cut' = cut_there input mid' reads'.line reads'.has_ended reads'.reads in
      within_one longest c t u mid left mid' left' (after_first_line input) cut.left cut'.left (tables_of_one reads.line reads'.line t u
      (cut.line_is ∙ sym cut'.line_is) reads.rows reads'.rows reads.alone reads'.alone) runs also_runs
  from_one source.JsonAndSupplement longest c (t, mid, left, (reads, behind), runs) (u, mid', left', (reads', behind'), also_runs) =
      let first = reads.first in
      let first' = reads'.first in
      let cut = cut_there input reads.between first.line first.has_ended first.reads in
      let cut' = cut_there input reads'.between first'.line first'.has_ended first'.reads in
      let second = reads.second in
      let second' = reads'.second in
      let rest = after_first_line input in
      let more = cut_there rest mid second.line second.has_ended (subst (λ m. ReadsLine None m mid second.line second.has_ended) cut.left second.reads) in
      let more' = cut_there rest mid' second'.line second'.has_ended
      (subst (λ m. ReadsLine None m mid' second'.line second'.has_ended) cut'.left second'.reads) in
      let tables = tables_of_one first.line first'.line reads.tables reads'.tables (cut.line_is ∙ sym cut'.line_is) first.rows first'.rows
      first.alone first'.alone in
      let supplements = supplements_of_one second.line second'.line second.supplement second'.supplement (more.line_is ∙ sym more'.line_is)
      second.rows second'.rows in
      within_one longest c t u mid left mid' left' (after_first_line rest) more.left more'.left
      (subst (λ (z : Tables × Tables). HaveSameRows z.0 z.1) (λ i. (sym second.is i, sym second'.is i))
      (with_supplements reads.tables reads'.tables second.supplement second'.supplement tables supplements)) runs also_runs

module _ (output_is_one : OutputIsOne) (words : List (List ℕ)) (input one two : List ℕ) (read also : Stream) (of_one of_two : Status) where
  pub words_run_one : IsWordsRun words (Some input) read (Some []) (Some one) of_one → IsWordsRun words (Some input) also (Some []) (Some two) of_two
      → (one ≡ two) × (of_one ≡ of_two)
  words_run_one (c, json, is, runs) (d, other, also_is, also_runs) =
      let same = same_Some (c, json) (d, other) (sym is ∙ also_is) in
      run_one output_is_one input one two read also of_one of_two d other
      (subst (λ (z : Command × Bool). IsRunBy z.0 z.1 (Some input) read (Some []) (Some one) of_one) same runs) also_runs

  pub stream_one : IsWordsStream words (Some input) read (Some []) (Some one) of_one → IsWordsStream words (Some input) also (Some []) (Some two) of_two
      → (one ≡ two) × (of_one ≡ of_two)
  stream_one (asked, is, runs) (other, also_is, also_runs) =
      let same = same_Some asked other (sym is ∙ also_is) in
      from_one output_is_one input one two read also of_one of_two other.source other.longest other.command
      (subst (λ (z : Asked). IsStreamFrom z.source z.longest z.command (Some input) read (Some []) (Some one) of_one) same runs) also_runs
