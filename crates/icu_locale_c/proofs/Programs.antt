-- A line that a call answers, as the program's input.
use Rattle.std.specs.Prelude.{if◌then◌else◌}
use Rattle.std.proofs.Common.{◌≡◌, ◌↔◌, ℕ, Bool, true, false, ◌||◌, List, [], ◌∷◌, ◌++◌, suc, ◌+◌, take, drop, Option, Some, refl, ap, sym, subst, ◌∙◌, append-nil, arith}
use Rattle.std.specs.List.{list_any, position_or_len, slice_split}
use Rattle.std.proofs.lemmas.Bool.{false≢true}
use Rattle.std.proofs.lemmas.Option.{same_Some}
use Rattle.icu_locale_core.specs.declared.langid.LanguageIdentifier.{LanguageIdentifier}
use Rattle.icu_locale_extensions.specs.declared.identifier.LocaleIdentifier.{LocaleIdentifier}
use Rattle.icu_locale_extensions.specs.declared.syntax.Syntax.{Syntax}
use Rattle.icu_locale_lines.specs.Answers.{IsAnswer}
use Rattle.icu_locale_lines.specs.Held.{AreToolsOver, Held, IsWorkOver, text_answered}
use Rattle.icu_locale_lines.specs.Tasks.{asks_list}
use Rattle.icu_locale_lines.specs.declared.command.LineCommand.{LineCommand}
use Rattle.icu_locale_lines.specs.Lines.{after_first_line, first_line, is_line_feed, lines}
use Rattle.icu_locale_lines.specs.Runs.{AreAnswers, all_accepted, text_of_lines, WritesAll}
use Rattle.icu_locale_lines.specs.laws.Parts.{without_empty_last-more}
use Rattle.icu_locale_lines.specs.declared.command.Task.{Task}
use Rattle.icu_locale_lines.specs.declared.command.Task.TheVariants as task
use Rattle.icu_locale_lines.specs.declared.runs.Status.{Status}
use Rattle.icu_locale_lines.specs.declared.runs.Status.TheVariants.{Accepted, Refused}
use Rattle.icu_locale_lines.specs.declared.work.Tools.{Tools}
use Rattle.icu_locale_lines.specs.declared.work.Tools.TheVariants as tools
use Rattle.icu_locale_lines.specs.declared.work.Work.{Work}
use Rattle.icu_locale_c.specs.Program.{as_line, behind_list}

-- ---- a text up to its first line feed

none_of : (a b : Bool) → (a || b) ≡ false → (a ≡ false) × (b ≡ false)
none_of true b none = absurd (false≢true (sym none))
none_of false b none = (refl, none)

pub cut_at : (a b : List ℕ) → list_any is_line_feed a ≡ false → slice_split is_line_feed (a ++ 10 ∷ b) ≡ a ∷ slice_split is_line_feed b
cut_at [] b none = refl
cut_at (c ∷ a) b none =
    let parts = none_of (is_line_feed c) (list_any is_line_feed a) none in
    rw (parts.0, cut_at a b parts.1) refl

pub first_is : (a b : List ℕ) → list_any is_line_feed a ≡ false → first_line (a ++ 10 ∷ b) ≡ a
first_is [] b none = refl
first_is (c ∷ a) b none =
    let parts = none_of (is_line_feed c) (list_any is_line_feed a) none in
    let one_more : 1 + position_or_len is_line_feed (a ++ 10 ∷ b) ≡ suc (position_or_len is_line_feed (a ++ 10 ∷ b)) = omega arith in
    rw (parts.0) (ap (λ n. take n (c ∷ (a ++ 10 ∷ b))) one_more ∙ ap (λ t. c ∷ t) (first_is a b parts.1))

pub rest_is : (a b : List ℕ) → list_any is_line_feed a ≡ false → after_first_line (a ++ 10 ∷ b) ≡ b
rest_is [] b none = refl
rest_is (c ∷ a) b none =
    let parts = none_of (is_line_feed c) (list_any is_line_feed a) none in
    let one_more : 1 + position_or_len is_line_feed (a ++ 10 ∷ b) + 1 ≡ suc (position_or_len is_line_feed (a ++ 10 ∷ b) + 1) = omega arith in
    rw (parts.0) (ap (λ n. drop n (c ∷ (a ++ 10 ∷ b))) one_more ∙ rest_is a b parts.1)

pub one_line : (line : List ℕ) → list_any is_line_feed line ≡ false → lines (as_line line) ≡ line ∷ []
one_line line none = rw (cut_at line [] none) (without_empty_last-more line [] [])

-- ---- the answer to one line

-- a status for each way to end
abbrev pub status_for : Bool → Status
status_for true = Accepted
status_for false = Refused

pub status_for-is : (a : Bool) → (status_for a ≡ Accepted) ↔ (a ≡ true)
status_for-is true = (λ _. refl, λ _. refl)
status_for-is false = (λ same. absurd (cc), λ same. absurd (false≢true same))

all_is : (a : Bool) (text : List ℕ) → all_accepted ((text, a) ∷ []) ≡ a
all_is true text = refl
all_is false text = refl

-- two answers are one where each is accepted just where the other is
pub same_answer : (a b : Bool) → (a ≡ true) ↔ (b ≡ true) → a ≡ b
same_answer true b both = sym (both.0 refl)
same_answer false true both = both.1 refl
same_answer false false both = refl

pub writes_one : (work : Work) (line whole : List ℕ) (a : Bool) → list_any is_line_feed line ≡ false → IsAnswer work line whole a
    → WritesAll work (as_line line) (Some []) (Some whole) (status_for a)
writes_one work line whole a none answer = record {
  answers = (whole, a) ∷ [];
  each = subst (λ ls. AreAnswers work ls ((whole, a) ∷ [])) (sym (one_line line none)) (answer, tt);
  written = sym (append-nil whole);
  status_is = (λ is. all_is a whole ∙ (status_for-is a).0 is, λ is. (status_for-is a).1 (sym (all_is a whole) ∙ is));
}

-- what is written for one line is its answer
only_one : (work : Work) (line whole : List ℕ) (a : Bool) (answers : List (List ℕ × Bool)) → AreAnswers work (line ∷ []) answers
    → whole ≡ text_of_lines answers → (a ≡ true) ↔ (all_accepted answers ≡ true) → IsAnswer work line whole a
only_one work line whole a [] each is both = absurd each
only_one work line whole a (x ∷ []) each is both =
    let text = is ∙ append-nil x.0 in
    let accepted = same_answer a x.1 (λ at. sym (all_is x.1 x.0) ∙ both.0 at, λ at. both.1 (all_is x.1 x.0 ∙ at)) in
    subst (λ t. IsAnswer work line t a) (sym text) (subst (IsAnswer work line x.0) (sym accepted) each.0)
only_one work line whole a (x ∷ y ∷ ys) each is both = absurd each.1

pub wrote_one : (work : Work) (line whole : List ℕ) (a : Bool) (status : Status) → list_any is_line_feed line ≡ false
    → WritesAll work (as_line line) (Some []) (Some whole) status → (status ≡ Accepted) ↔ (a ≡ true) → IsAnswer work line whole a
wrote_one work line whole a status none all both =
    only_one work line whole a all.answers (subst (λ ls. AreAnswers work ls all.answers) (one_line line none) all.each) all.written
    (λ is. all.status_is.0 (both.1 is), λ is. both.0 (all.status_is.1 is))

-- ---- commands that ask for no list, and those that do

module _ (c : LineCommand) where
  pub text_alone : (input : List ℕ) → asks_list c.task ≡ false → text_answered c input ≡ input
  text_alone input none = ap (λ b. if b then after_first_line input else input) none

  -- behind a list its line is answered
  pub answered_behind : (list line : List ℕ) → list_any is_line_feed list ≡ false → asks_list c.task ≡ true
      → text_answered c (behind_list list line) ≡ as_line line
  answered_behind list line none asks =
      ap (λ b. if b then after_first_line (behind_list list line) else behind_list list line) asks ∙ rest_is list (as_line line) none

-- tools that need no list are over tables alone
module _ (syntax : Option Syntax) (h : Held) (list : Option (List LanguageIdentifier)) (ws : List LocaleIdentifier) where
  tools_alone : (k : Task) (w : Tools) → asks_list k ≡ false → AreToolsOver syntax k h w
      → AreToolsOver syntax k (record { tables = h.tables; available = list; wholes = ws }) w
  tools_alone (task.Form form) (tools.Form other e) none are = are
  tools_alone task.Canonicalize (tools.Canonicalize k) none are = are
  tools_alone task.Direction (tools.Direction d) none are = are
  tools_alone (task.Name chain preferences) (tools.Name n) none are = are
  tools_alone task.Fallback (tools.Fallback f) none are = are
  tools_alone task.Distance (tools.Distance e matching) none are = are
  tools_alone task.Parts tools.Parts none are = are
  tools_alone (task.Key of) (tools.Key other k) none are = are
  tools_alone task.Validate (tools.Validate v) none are = are
  tools_alone (task.SubtagName chain preferences) (tools.SubtagName n) none are = are
  tools_alone (task.Exemplars marker preferences) (tools.Exemplars set) none are = are
  tools_alone (task.Subtags kind preferences) (tools.Subtags list) none are = are
  tools_alone task.Negotiate w none are = absurd (false≢true (sym none))
  tools_alone (task.Serve served) w none are = absurd (false≢true (sym none))
  tools_alone k w none are = absurd are

pub work_alone : (c : LineCommand) (h g : Held) (w : Work) → asks_list c.task ≡ false → g.tables ≡ h.tables → IsWorkOver c g w → IsWorkOver c h w
work_alone c h g w none same over = record {
  syntax = over.syntax;
  places = over.places;
  tools = subst (λ t. AreToolsOver c.syntax c.task (record { tables = t; available = h.available; wholes = h.wholes }) w.tools) same
      (tools_alone c.syntax g h.available h.wholes c.task w.tools none over.tools);
}
