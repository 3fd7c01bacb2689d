-- How far the answers to lines came.
use Rattle.std.proofs.Common.{◌≡◌, ◌↔◌, ℕ, Bool, true, false, ◌&&◌, List, [], ◌∷◌, ◌++◌, refl, ap, sym, subst, ◌∙◌, append_assoc, append-nil}
use Rattle.std.specs.Io.KnownBytes.{Appends, Keeps}
use Rattle.std.proofs.KnownBytes.{Appends-nil, Appends-trans, Appends-kept}
use Rattle.std.proofs.lemmas.List.Folds.{list_all-append}
use Rattle.std.proofs.lemmas.Grind.{flat_map-append}
use Rattle.icu_locale_lines.specs.declared.runs.Status.{Status}
use Rattle.icu_locale_lines.specs.declared.runs.Status.TheVariants.{Accepted}
use Rattle.icu_locale_lines.specs.declared.work.Work.{Work}
use Rattle.icu_locale_lines.specs.Answers.{AddsLine, IsAnswer}
use Rattle.icu_locale_lines.specs.Lines.{lines, Stream}
use Rattle.icu_locale_lines.specs.Runs.{Answered, AnswersFirst, text_of_lines, all_accepted, WritesAll}
use Rattle.icu_locale_lines.specs.laws.Parts.{AllZip-append, all_accepted_of_parts, status_of_parts}

text_of-append : (xs ys : List (List ℕ × Bool)) → text_of_lines (xs ++ ys) ≡ text_of_lines xs ++ text_of_lines ys
text_of-append xs ys = flat_map-append (λ (t : List ℕ × Bool). t.0) xs ys

and_true : (b : Bool) → (b && true) ≡ b
and_true true = refl
and_true false = refl

pub answered_none : (work : Work) (old : Stream) → Answered work [] [] old old Accepted
answered_none work old = record {
  answers = [];
  each = tt;
  sent = [];
  written = Appends-nil old;
  parted = refl;
  status_is = (λ e. refl, λ e. refl);
}

-- some lines, and then others
pub answered_later : {work : Work} {ls ms : List (List ℕ)} {pending : List ℕ} {old mid new : Stream} {one two both : Status}
    → Answered work ls [] old mid one → Answered work ms pending mid new two → (both ≡ Accepted) ↔ ((one ≡ Accepted) × (two ≡ Accepted))
    → Answered work (ls ++ ms) pending old new both
answered_later {work} {ls} {ms} {pending} {old} {mid} {new} {one} {two} {both} a b are = record {
  answers = a.answers ++ b.answers;
  each = AllZip-append (λ line t. IsAnswer work line t.0 t.1) ls ms a.answers b.answers a.each b.each;
  sent = a.sent ++ b.sent;
  written = Appends-trans old mid new a.sent b.sent a.written b.written;
  parted = text_of-append a.answers b.answers ∙ (λ i. (a.parted ∙ append-nil a.sent) i ++ b.parted i) ∙ sym (append_assoc a.sent b.sent pending);
  status_is = status_of_parts a.answers b.answers one two both a.status_is b.status_is are;
}

pub answered_flushed : {work : Work} {ls : List (List ℕ)} {pending : List ℕ} {old mid new : Stream} {status : Status}
    → Answered work ls pending old mid status → Keeps mid new → Answered work ls pending old new status
answered_flushed {old = old} {mid} {new} a kept = record {
  answers = a.answers;
  each = a.each;
  sent = a.sent;
  written = Appends-kept old mid new a.sent a.written kept;
  parted = a.parted;
  status_is = a.status_is;
}

-- the first lines, and one more, or more of what is pending
module _ {work : Work} {all : List (List ℕ)} {pending : List ℕ} {old mid : Stream} {status : Status} {rest : List (List ℕ)} where
  pub first_more : {new : List ℕ} {accepted : Bool} {later : Status} (line : List ℕ) → AnswersFirst work all pending old mid status (line ∷ rest)
      → AddsLine (IsAnswer work line) pending new accepted → (later ≡ Accepted) ↔ ((status ≡ Accepted) × (accepted ≡ true))
      → AnswersFirst work all new old mid later rest
  first_more {accepted = accepted} line f adds are =
      let a = f.answered in
      let one = (adds.line, accepted) ∷ [] in
      let both = list_all-append (λ (t : List ℕ × Bool). t.1) a.answers one ∙ ap (λ b. all_accepted a.answers && b) (and_true accepted) in
      let each = all_accepted_of_parts (all_accepted a.answers) accepted in
      record {
        first = f.first ++ line ∷ [];
        parted = f.parted ∙ sym (append_assoc f.first (line ∷ []) rest);
        answered = record {
          answers = a.answers ++ one;
          each = AllZip-append (λ line t. IsAnswer work line t.0 t.1) f.first (line ∷ []) a.answers one a.each (adds.is, tt);
          sent = a.sent;
          written = a.written;
          parted = text_of-append a.answers one ∙ (λ i. a.parted i ++ append-nil adds.line i) ∙ append_assoc a.sent pending adds.line
              ∙ ap (λ t. a.sent ++ t) (sym adds.added);
          status_is = (
            λ e. let at = are.0 e in both ∙ each.1 (a.status_is.0 at.0, at.1),
            λ e. let at = each.0 (sym both ∙ e) in are.1 (a.status_is.1 at.0, at.1),
          );
        };
      }

  pub first_sent : {new : Stream} (part left : List ℕ) → AnswersFirst work all pending old mid status rest
      → pending ≡ part ++ left → Appends mid new part → AnswersFirst work all left old new status rest
  first_sent {new} part left f is more =
      let a = f.answered in record {
        first = f.first;
        parted = f.parted;
        answered = record {
          answers = a.answers;
          each = a.each;
          sent = a.sent ++ part;
          written = Appends-trans old mid new a.sent part a.written more;
          parted = a.parted ∙ ap (λ p. a.sent ++ p) is ∙ sym (append_assoc a.sent part left);
          status_is = a.status_is;
        };
      }

-- all was written
pub answered_all : {work : Work} {text : List ℕ} {old new : Stream} {status : Status} → WritesAll work text old new status
    → Answered work (lines text) [] old new status
answered_all all = record {
  answers = all.answers;
  each = all.each;
  sent = text_of_lines all.answers;
  written = all.written;
  parted = sym (append-nil (text_of_lines all.answers));
  status_is = all.status_is;
}

pub all_answered : {work : Work} {text : List ℕ} {old new : Stream} {status : Status} → Answered work (lines text) [] old new status
    → WritesAll work text old new status
all_answered {old = old} {new} a = record {
  answers = a.answers;
  each = a.each;
  written = subst (Appends old new) (sym (a.parted ∙ append-nil a.sent)) a.written;
  status_is = a.status_is;
}
