-- How far the lines of a text come: no line yet, one after the other, and all that a stream does between.
use Rattle.std.proofs.Common.{◌≡◌, ◌≢◌, ◌⊎◌, ◌↔◌, ◌≤◌, ℕ, ◌==◌, true, false, List, [], ◌∷◌, ◌++◌, length, Option}
use Rattle.std.proofs.Common.{inl, inr, refl, ap, sym, subst, ◌∙◌, append_assoc, append-nil, arith}
use Rattle.std.specs.List.{list_any}
use Rattle.std.specs.Io.KnownBytes.{Consumes, Keeps, IsAtEnd}
use Rattle.std.proofs.KnownBytes.{Consumes-nil, Consumes-kept, Consumes-trans}
use Rattle.std.proofs.lemmas.Bool.{false≢true, or_parts}
use Rattle.std.proofs.lemmas.Bool.Decides.{nat_tests}
use Rattle.std.proofs.lemmas.List.Folds.{list_any-append}
use Rattle.icu_locale_lines.specs.declared.error.CliError.{CliError}
use Rattle.icu_locale_lines.specs.declared.error.CliError.TheVariants as error
use Rattle.icu_locale_lines.specs.declared.runs.Status.{Status}
use Rattle.icu_locale_lines.specs.declared.runs.Status.TheVariants.{Accepted, Refused}
use Rattle.icu_locale_lines.specs.declared.work.Work.{Work}
use Rattle.icu_locale_lines.specs.Lines.{is_line_feed, lines, first_line, after_first_line, exceeds, AreWithin, Stream}
use Rattle.icu_locale_lines.specs.Runs.{Answered, AnswersFirst, ReadsAll, WritesAll, WritesEarlier, WritesPart}
use Rattle.icu_locale_lines.specs.Streams.{part_size, IsUnended, EndsLines, AnswersUpTo, StopsAt, StopsStream}
use Rattle.icu_locale_lines.specs.inner.Parts.{StopsText}
use Rattle.icu_locale_lines.proofs.Bounds.{EndsLines-append, lines_after, lines_at, lines_ended, within_none, within_alone, within_after}
use Rattle.icu_locale_lines.proofs.Bounds.{exceeds-grows, few_left, nothing_exceeds}
use Rattle.icu_locale_lines.proofs.FirstLines.{IsWhole, IsCut, cut_at, alone, none_left, none_front}
use Rattle.icu_locale_lines.proofs.Progress.{answered_none, answered_later, answered_flushed, answered_all, all_answered}

-- the status of two parts
abbrev both_of : Status → Status → Status
both_of Accepted later = later
both_of Refused later = Refused

both_are : (first later : Status) → (both_of first later ≡ Accepted) ↔ ((first ≡ Accepted) × (later ≡ Accepted))
both_are Accepted later = (λ e. (refl, e), λ both. both.1)
both_are Refused later = (λ e. (e, absurd (cc)), λ both. both.0)

-- lines that end are whole
ends_of : {P : Type 0} → (text : List ℕ) → EndsLines text ⊎ (⊥ × P) → EndsLines text
ends_of text (inl ends) = ends
ends_of text (inr never) = absurd never.0

-- another reason for a last line without a line feed
up_to_where : {L M : Type 0} {longest : Option ℕ} {work : Work} {text left pending : List ℕ} {old new : Stream} {status : Status} → (L → M)
    → AnswersUpTo L longest work text left pending old new status → AnswersUpTo M longest work text left pending old new status
up_to_where {L} {M} {left = left} f a = record { ended = a.ended; whole = by a.whole; within = a.within; parted = a.parted; answered = a.answered }
  where
    by : EndsLines a.ended ⊎ (L × (left ≡ [])) → EndsLines a.ended ⊎ (M × (left ≡ []))
    by (inl ends) = inl ends
    by (inr (last, none)) = inr (f last, none)

-- ---- the laws

module _ {longest : Option ℕ} {work : Work} where
  -- nothing yet
  pub up_to_none : {Last : Type 0} {text : List ℕ} {old : Stream} → AnswersUpTo Last longest work text text [] old old Accepted
  up_to_none {old = old} = record {
    ended = [];
    whole = inl (inl refl);
    within = within_none longest;
    parted = refl;
    answered = answered_none work old;
  }

  -- one after the other
  pub up_to_later : {Last : Type 0} {text between left pending : List ℕ} {old mid new : Stream} {one two both : Status}
      → AnswersUpTo ⊥ longest work text between [] old mid one → AnswersUpTo Last longest work between left pending mid new two
      → (both ≡ Accepted) ↔ ((one ≡ Accepted) × (two ≡ Accepted)) → AnswersUpTo Last longest work text left pending old new both
  up_to_later {Last} {left = left} {pending = pending} {old = old} {new = new} {both = both} a b are =
      let ends = ends_of a.ended a.whole in record {
        ended = a.ended ++ b.ended;
        whole = by ends b.whole;
        within = within_after longest a.ended b.ended ends a.within b.within;
        parted = a.parted ∙ ap (λ t. a.ended ++ t) b.parted ∙ sym (append_assoc a.ended b.ended left);
        answered = subst (λ ls. Answered work ls pending old new both) (sym (lines_after a.ended b.ended ends)) (answered_later a.answered b.answered are);
      }
    where
      by : EndsLines a.ended → EndsLines b.ended ⊎ (Last × (left ≡ [])) → EndsLines (a.ended ++ b.ended) ⊎ (Last × (left ≡ []))
      by first (inl later) = inl (EndsLines-append a.ended b.ended first later)
      by first (inr last) = inr last

  -- with more text behind them
  pub up_to_more : {Last : Type 0} {left pending : List ℕ} {old new : Stream} {status : Status} (text rest : List ℕ)
      → AnswersUpTo ⊥ longest work text left pending old new status → AnswersUpTo Last longest work (text ++ rest) (left ++ rest) pending old new status
  up_to_more {left = left} text rest a = record {
    ended = a.ended;
    whole = inl (ends_of a.ended a.whole);
    within = a.within;
    parted = ap (λ t. t ++ rest) a.parted ∙ append_assoc a.ended left rest;
    answered = a.answered;
  }

  -- whole lines
  pub up_to_whole : {text : List ℕ} {old new : Stream} {status : Status} → EndsLines text → AreWithin longest text → WritesAll work text old new status
      → AnswersUpTo ⊥ longest work text [] [] old new status
  up_to_whole {text} whole within all = record {
    ended = text;
    whole = inl whole;
    within = within;
    parted = sym (append-nil text);
    answered = answered_all all;
  }

-- ---- what is carried

-- what was carried and its line's end are held
module _ (carry line held : List ℕ) (is : held ≡ carry ++ line) where
  pub carried_ends : line ≢ [] → EndsLines line → EndsLines held
  carried_ends some (inl none) = absurd (some none)
  carried_ends some (inr (before, ends)) =
      inr (carry ++ before, is ∙ ap (λ x. carry ++ x) ends ∙ sym (append_assoc carry before (10 ∷ [])))

  pub carried_all : (front others : List ℕ) → front ≡ line ++ others → held ++ others ≡ carry ++ front
  carried_all front others parted = ap (λ h. h ++ others) is ∙ append_assoc carry line others ∙ ap (λ f. carry ++ f) (sym parted)

-- what is left behind the lines that are answered
pub long_left : (longest : Option ℕ) (left : List ℕ) → false ≡ (length left == 0) → (left ≡ []) ⊎ (exceeds longest (first_line left) ≡ true)
    → exceeds longest (first_line left) ≡ true
long_left longest left some (inl none) = absurd (false≢true (some ∙ ap (λ x. length x == 0) none))
long_left longest left some (inr long) = long

pub nothing_left : (left : List ℕ) → true ≡ (length left == 0) → left ≡ []
nothing_left [] none = refl
nothing_left (c ∷ left) none = grind (arith, nat_tests)

-- ---- where lines stop

-- lines of a text are those of its beginning, and others follow
record HasBeginning (t : List ℕ) (earlier rest : List (List ℕ)) : Type 0 where
  ended : List ℕ
  left : List ℕ
  whole : EndsLines ended ⊎ (left ≡ [])
  parted : t ≡ ended ++ left
  are : lines ended ≡ earlier
  others : lines left ≡ rest

head_of : {A : Type 0} (x y : A) (xs ys : List A) → x ∷ xs ≡ y ∷ ys → x ≡ y
head_of x y xs ys e = cc

tail_of : {A : Type 0} (x y : A) (xs ys : List A) → x ∷ xs ≡ y ∷ ys → xs ≡ ys
tail_of x y xs ys e = cc

begins_with : (earlier : List (List ℕ)) (t : List ℕ) (rest : List (List ℕ)) → lines t ≡ earlier ++ rest → HasBeginning t earlier rest
begins_with [] t rest are = record { ended = []; left = t; whole = inl (inl refl); parted = refl; are = refl; others = are }
begins_with (first ∷ earlier) t rest are =
    let some : t ≢ [] = λ none. let nothing : [] ≡ first ∷ (earlier ++ rest) = ap lines (sym none) ∙ are in absurd (cc) in
    let split : first_line t ∷ lines (after_first_line t) ≡ first ∷ (earlier ++ rest) = sym (lines_at t some) ∙ are in
    by some (begins_with earlier (after_first_line t) rest (tail_of (first_line t) first (lines (after_first_line t)) (earlier ++ rest) split))
    (head_of (first_line t) first (lines (after_first_line t)) (earlier ++ rest) split) (cut_at t)
  where
    by : t ≢ [] → HasBeginning (after_first_line t) earlier rest → first_line t ≡ first → IsWhole t ⊎ IsCut t → HasBeginning t (first ∷ earlier) rest
    by some later same (inl whole) =
        let none = sym later.parted ∙ (alone t whole.1).1 in
        let left = none_left later.ended later.left none in record {
          ended = t;
          left = later.left;
          whole = inr left;
          parted = sym (append-nil t) ∙ ap (λ l. t ++ l) (sym left);
          are = lines_at t some ∙ (λ i. same i ∷ (ap lines ((alone t whole.1).1 ∙ sym (none_front later.ended later.left none)) ∙ later.are) i);
          others = later.others;
        }
    by some later same (inr cut) =
        let begun = first_line t ++ 10 ∷ [] in record {
          ended = begun ++ later.ended;
          left = later.left;
          whole = ends later.whole;
          parted = cut.0 ∙ sym (append_assoc (first_line t) (10 ∷ []) (after_first_line t)) ∙ ap (λ b. begun ++ b) later.parted
              ∙ sym (append_assoc begun later.ended later.left);
          are = lines_after begun later.ended (inr (first_line t, refl)) ∙ ap (λ ls. ls ++ lines later.ended) (lines_ended (first_line t) cut.1)
              ∙ (λ i. same i ∷ later.are i);
          others = later.others;
        }
      where
        ends : EndsLines later.ended ⊎ (later.left ≡ []) → EndsLines ((first_line t ++ 10 ∷ []) ++ later.ended) ⊎ (later.left ≡ [])
        ends (inl e) = inl (EndsLines-append (first_line t ++ 10 ∷ []) later.ended (inr (first_line t, refl)) e)
        ends (inr none) = inr none

-- what stops lines stops them before other text too
why_more : (longest : Option ℕ) (e : CliError) (left pending rest : List ℕ) → StopsAt longest e left pending → StopsAt longest e (left ++ rest) pending
why_more longest error.Read left pending rest (none, long) = (none, exceeds-grows longest left rest long)
why_more longest error.Memory left pending rest (none, some) = (none, λ nothing. some (none_front left rest nothing))
why_more longest error.Write left pending rest some = some
why_more longest error.Usage left pending rest none = absurd none
why_more longest (error.Tables t) left pending rest none = absurd none
why_more longest (error.Supplement t) left pending rest none = absurd none
why_more longest (error.Data d) left pending rest none = absurd none
why_more longest (error.Available f) left pending rest none = absurd none
why_more longest error.NotSettled left pending rest none = absurd none

module _ {longest : Option ℕ} {work : Work} where
  -- the first lines of a text
  up_to_first : {Last : Type 0} {text pending : List ℕ} {old new : Stream} {status : Status} {rest : List (List ℕ)} → AreWithin longest text
      → AnswersFirst work (lines text) pending old new status rest → (rest ≡ [] → EndsLines text ⊎ Last)
      → (left : List ℕ) × (lines left ≡ rest) × AnswersUpTo Last longest work text left pending old new status
  up_to_first {Last} {text} {pending} {old} {new} {status} {rest} within f whole =
      let begins = begins_with f.first text rest f.parted in
      let all = sym (list_any-append (exceeds longest) f.first rest) ∙ ap (list_any (exceeds longest)) (sym f.parted) ∙ within in (
        begins.left,
        begins.others,
        record {
          ended = begins.ended;
          whole = by begins begins.whole;
          within = ap (list_any (exceeds longest)) begins.are ∙ (or_parts (list_any (exceeds longest) f.first) (list_any (exceeds longest) rest) all).0;
          parted = begins.parted;
          answered = subst (λ ls. Answered work ls pending old new status) (sym begins.are) f.answered;
        },
      )
    where
      by : (b : HasBeginning text f.first rest) → EndsLines b.ended ⊎ (b.left ≡ []) → EndsLines b.ended ⊎ (Last × (b.left ≡ []))
      by b (inl ends) = inl ends
      by b (inr none) = on (whole (sym b.others ∙ ap lines none))
        where
          on : EndsLines text ⊎ Last → EndsLines b.ended ⊎ (Last × (b.left ≡ []))
          on (inl ends) = inl (subst EndsLines (b.parted ∙ ap (λ l. b.ended ++ l) none ∙ append-nil b.ended) ends)
          on (inr last) = inr (last, none)

  -- answers that were not all written
  pub stops_written : {Last : Type 0} {old new : Stream} (text : List ℕ) → EndsLines text ⊎ Last → AreWithin longest text → {e : CliError}
      → (e ≡ error.Memory) ⊎ (e ≡ error.Write) → (e ≡ error.Memory → WritesEarlier work text old new)
      → (e ≡ error.Write → WritesPart work text old new) → StopsText Last longest work text old new e
  stops_written {Last} {old} {new} text ends within (inl is) memory write =
      let (status, line, rest, first) = memory is in
      let (left, others, up_to) = up_to_first {Last = ([] ≢ []) × Last} within first (λ none. absurd (cc)) in
      subst (StopsText Last longest work text old new) (sym is) (record {
        left = left;
        pending = [];
        status = status;
        answered = up_to;
        why = (refl, λ none. let nothing : [] ≡ line ∷ rest = ap lines (sym none) ∙ others in absurd (cc));
      })
  stops_written {Last} {old} {new} text ends within (inr is) memory write =
      let (status, pending, rest, some, first) = write is in
      let (left, others, up_to) = up_to_first {Last = (pending ≢ []) × Last} within first (λ none. by pending some ends) in
      subst (StopsText Last longest work text old new) (sym is) (record { left = left; pending = pending; status = status; answered = up_to; why = some })
    where
      by : (pending : List ℕ) → pending ≢ [] → EndsLines text ⊎ Last → EndsLines text ⊎ ((pending ≢ []) × Last)
      by pending some (inl x) = inl x
      by pending some (inr x) = inr (some, x)

  -- so do lines behind others
  pub stops_later : {Last : Type 0} {text between : List ℕ} {old mid new : Stream} {one : Status} {e : CliError}
      → AnswersUpTo ⊥ longest work text between [] old mid one → StopsText Last longest work between mid new e → StopsText Last longest work text old new e
  stops_later {one = one} first s = record {
    left = s.left;
    pending = s.pending;
    status = both_of one s.status;
    answered = up_to_later first s.answered (both_are one s.status);
    why = s.why;
  }

  -- and lines before other text
  pub stops_more : {old new : Stream} {e : CliError} (text rest : List ℕ) → StopsText ⊥ longest work text old new e
      → StopsText ⊥ longest work (text ++ rest) old new e
  stops_more {e = e} text rest s = record {
    left = s.left ++ rest;
    pending = s.pending;
    status = s.status;
    answered = up_to_more text rest (up_to_where (λ last. last.1) s.answered);
    why = why_more longest e s.left s.pending rest s.why;
  }

-- ---- a stream

-- how far a stream came: what was read is answered but for what is carried
pub record Comes (longest : Option ℕ) (work : Work) (read read' wrote wrote' : Stream) (status : Status) (carry : List ℕ) : Type 0 where
  pub text : List ℕ
  pub consumed : Consumes read read' text
  pub answered : AnswersUpTo ⊥ longest work text carry [] wrote wrote' status
  pub unended : IsUnended longest carry

pub comes_none : {longest : Option ℕ} {work : Work} {read wrote : Stream} (carry : List ℕ) → carry ≡ []
    → Comes longest work read read wrote wrote Accepted carry
comes_none {longest} {read = read} carry none = record {
  text = carry;
  consumed = subst (Consumes read read) (sym none) (Consumes-nil read);
  answered = up_to_none;
  unended = (ap (list_any is_line_feed) none, ap (exceeds longest) none ∙ nothing_exceeds longest);
}

module _ {longest : Option ℕ} {work : Work} {read mid wrote between : Stream} {status : Status} {carry : List ℕ}
    (before : Comes longest work read mid wrote between status carry) where
  -- what was written is flushed
  pub comes_flushed : (new : Stream) → Keeps between new → Comes longest work read mid wrote new status carry
  comes_flushed new kept = let a = before.answered in record {
    text = before.text;
    consumed = before.consumed;
    answered = record { ended = a.ended; whole = a.whole; within = a.within; parted = a.parted; answered = answered_flushed a.answered kept };
    unended = before.unended;
  }

  -- a failed read, or a failed flush
  pub comes_failed : {e : CliError} {new : Stream} → (e ≡ error.Read) ⊎ (e ≡ error.Write) → Keeps mid new → StopsStream longest work read new wrote between e
  comes_failed {new = new} failed kept = record {
    text = before.text;
    left = carry;
    pending = [];
    status = status;
    consumed = Consumes-kept read mid new before.text before.consumed kept;
    answered = up_to_where (λ never. absurd never) before.answered;
    few = record { begun = carry; part = []; parted = sym (append-nil carry); unended = before.unended; short = omega arith };
    why = inr (failed, refl, before.unended);
  }

  read_more : (new : Stream) (part : List ℕ) → Consumes mid new part → Consumes read new (before.text ++ part)
  read_more new part more = Consumes-trans read mid new before.text part before.consumed more

  -- one more part was read
  module _ {new wrote' : Stream} (part : List ℕ) (more : Consumes mid new part) where
    pub comes_more : {left : List ℕ} {ended later : Status} → AnswersUpTo ⊥ longest work (carry ++ part) left [] between wrote' ended
        → IsUnended longest left → (later ≡ Accepted) ↔ ((status ≡ Accepted) × (ended ≡ Accepted))
        → Comes longest work read new wrote wrote' later left
    comes_more answers unended both = record {
      text = before.text ++ part;
      consumed = read_more new part more;
      answered = up_to_later (up_to_more before.text part before.answered) answers both;
      unended = unended;
    }

    -- and its lines stop
    pub comes_refused : {Last : Type 0} {e : CliError} → (Last → IsAtEnd new) → length part ≤ part_size
        → StopsText Last longest work (carry ++ part) between wrote' e → StopsStream longest work read new wrote wrote' e
    comes_refused at size s = record {
      text = before.text ++ part;
      left = s.left;
      pending = s.pending;
      status = both_of status s.status;
      consumed = read_more new part more;
      answered = up_to_later (up_to_more before.text part before.answered) (up_to_where (λ last. (last.0, at last.1)) s.answered) (both_are status s.status);
      few = few_left longest carry part s.answered.ended s.left before.unended size s.answered.parted s.answered.whole;
      why = inl s.why;
    }

    -- the end of the input, whose last line is answered where it is not empty
    pub comes_end : {last both : Status} → part ≡ [] → IsAtEnd new → WritesAll work carry between wrote' last
        → (both ≡ Accepted) ↔ ((status ≡ Accepted) × (last ≡ Accepted))
        → (input : List ℕ) × ReadsAll read new input × AreWithin longest input × WritesAll work input wrote wrote' both
    comes_end {both = both} none ended answers are =
        let a = before.answered in
        let ends = ends_of a.ended a.whole in (
          before.text,
          record { consumed = subst (Consumes read new) (ap (λ p. before.text ++ p) none ∙ append-nil before.text) (read_more new part more); ended = ended },
          subst (AreWithin longest) (sym a.parted) (within_after longest a.ended carry ends a.within (within_alone longest carry before.unended)),
          all_answered (subst (λ ls. Answered work ls [] wrote wrote' both) (sym (ap lines a.parted ∙ lines_after a.ended carry ends))
              (answered_later a.answered (answered_all answers) are)),
        )
