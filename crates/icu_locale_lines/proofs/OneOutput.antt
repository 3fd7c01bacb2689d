-- Over tables that say the same, the input determines what is written.
use Rattle.std.proofs.Common.{◌≡◌, ◌↔◌, ℕ, Bool, true, false, List, [], ◌∷◌, Option, Some, None, IsSomeAnd, refl, ap, sym, subst, ◌∙◌}
use Rattle.std.proofs.lemmas.Bool.{false≢true}
use Rattle.icu_locale_core.specs.declared.langid.LanguageIdentifier.{LanguageIdentifier}
use Rattle.icu_locale_extensions.specs.declared.identifier.LocaleIdentifier.{LocaleIdentifier}
use Rattle.icu_locale_extensions.specs.declared.syntax.Syntax.{Syntax}
use Rattle.icu_locale.specs.LikelySubtags.{AreSettled}
use Rattle.icu_tables.specs.declared.tables.Tables.{Tables}
use Rattle.icu_locale_lines.specs.Answers.{IsAnswer}
use Rattle.icu_locale_lines.specs.Held.{Held, AreToolsOver, IsHeldFor, IsWorkOver, text_answered}
use Rattle.icu_locale_lines.specs.Lines.{first_line, lines}
use Rattle.icu_locale_lines.specs.Lists.{IsAvailable, ids_of, listed}
use Rattle.icu_locale_lines.specs.Runs.{AreAnswers, all_accepted, text_of_lines}
use Rattle.icu_locale_lines.specs.Tasks.{asks_list}
use Rattle.icu_locale_lines.specs.Texts.{settled_line}
use Rattle.icu_locale_lines.specs.WholeRuns.{WritesLines, WritesOutput, WritesSettled}
use Rattle.icu_locale_lines.specs.declared.command.Command.{Command}
use Rattle.icu_locale_lines.specs.declared.command.Command.TheVariants as command
use Rattle.icu_locale_lines.specs.declared.command.LineCommand.{LineCommand}
use Rattle.icu_locale_lines.specs.declared.command.Task.{Task}
use Rattle.icu_locale_lines.specs.declared.command.Task.TheVariants as task
use Rattle.icu_locale_lines.specs.declared.runs.Status.{Status}
use Rattle.icu_locale_lines.specs.declared.runs.Status.TheVariants.{Accepted, Refused}
use Rattle.icu_locale_lines.specs.declared.work.Tools.{Tools}
use Rattle.icu_locale_lines.specs.declared.work.Work.{Work}
use Rattle.icu_locale_lines.proofs.Readings.{SpellingFacts, listed_once, wanted_once}
use Rattle.icu_locale_lines.proofs.SameTables.{SayTheSame, likely_same}
use Rattle.icu_locale_lines.proofs.Works.{works_alike}

-- what one thing tells of both is the same
bool_one : {P : Type 0} (x y : Bool) → (x ≡ true) ↔ P → (y ≡ true) ↔ P → x ≡ y
bool_one true true p q = refl
bool_one true false p q = sym (q.1 (p.0 refl))
bool_one false true p q = p.1 (q.0 refl)
bool_one false false p q = refl

status_one : {P : Type 0} (x y : Status) → (x ≡ Accepted) ↔ P → (y ≡ Accepted) ↔ P → x ≡ y
status_one Accepted Accepted p q = refl
status_one Accepted Refused p q = sym (q.1 (p.0 refl))
status_one Refused Accepted p q = p.1 (q.0 refl)
status_one Refused Refused p q = refl

-- a task that asks for no list works over any
module _ (syntax : Option Syntax) (k : Held) (list : Option (List LanguageIdentifier)) (ws : List LocaleIdentifier) (made : Tools) where
  abbrev pub with_list : Held
  with_list = record k { available = list; wholes = ws }

  over_any : (kind : Task) → asks_list kind ≡ false → AreToolsOver syntax kind k made → AreToolsOver syntax kind with_list made
  over_any (task.Form form) none are = are
  over_any task.Canonicalize none are = are
  over_any task.Direction none are = are
  over_any task.Negotiate none are = absurd (false≢true (sym none))
  over_any (task.Name chain preferences) none are = are
  over_any task.Fallback none are = are
  over_any (task.Serve how) none are = absurd (false≢true (sym none))
  over_any task.Distance none are = are
  over_any task.Parts none are = are
  over_any (task.Key of) none are = are
  over_any task.Validate none are = are
  over_any (task.SubtagName chain preferences) none are = are
  over_any (task.Exemplars marker preferences) none are = are
  over_any (task.Subtags kind preferences) none are = are

module _ (spelling : SpellingFacts) where
  -- what a line lists is one list
  available_one : (syntax : Option Syntax) (line : List ℕ) (xs ys : List LanguageIdentifier) (ws vs : List LocaleIdentifier)
      → IsAvailable syntax (listed line) xs ws → IsAvailable syntax (listed line) ys vs → (xs ≡ ys) × (ws ≡ vs)
  available_one None line xs ys ws vs p q = ((listed_once spelling None).one line xs ys p.0 q.0, p.1 ∙ sym q.1)
  available_one (Some s) line xs ys ws vs p q =
      let wholes = (wanted_once spelling (Some s)).one line ws vs p.0 q.0 in
      (p.1 ∙ ap ids_of wholes ∙ sym q.1, wholes)

  pub lists_one : (syntax : Option Syntax) (line : List ℕ) (o p : Option (List LanguageIdentifier)) (ws vs : List LocaleIdentifier)
      → IsSomeAnd o (λ ids. IsAvailable syntax (listed line) ids ws) → IsSomeAnd p (λ ids. IsAvailable syntax (listed line) ids vs) → (o ≡ p) × (ws ≡ vs)
  lists_one syntax line None p ws vs is also = absurd is
  lists_one syntax line (Some xs) None ws vs is also = absurd also
  lists_one syntax line (Some xs) (Some ys) ws vs is also =
      let both = available_one syntax line xs ys ws vs is also in
      (ap Some both.0, both.1)

  module _ (one : (work : Work) (line s t : List ℕ) (a b : Bool) → IsAnswer work line s a → IsAnswer work line t b → (s ≡ t) × (a ≡ b))
      (c : LineCommand) (t u : Tables) (same : SayTheSame t u) (input : List ℕ) where
    tables_alike : (h k : Held) → h.tables ≡ t → k.tables ≡ u → SayTheSame h.tables k.tables
    tables_alike h k of_t of_u = subst (λ (z : Tables × Tables). SayTheSame z.0 z.1) (λ i. (sym of_t i, sym of_u i)) same

    -- works for one input answer alike
    answers_alike : (asks : Bool) → asks_list c.task ≡ asks → (h k : Held) (v w : Work) → IsHeldFor c t input h → IsHeldFor c u input k
        → IsWorkOver c h v → IsWorkOver c k w → (line text : List ℕ) (a : Bool) → IsAnswer v line text a → IsAnswer w line text a
    answers_alike true is h k v w p q of_v of_w line text a says =
        let lists = lists_one c.syntax (first_line input) h.available k.available h.wholes k.wholes (p.list is) (q.list is) in
        works_alike spelling.alone c h k (record { tables = tables_alike h k p.tables q.tables; available = lists.0; wholes = lists.1 }) line v w text a of_v of_w says
    answers_alike false is h k v w p q of_v of_w line text a says =
        works_alike spelling.alone c h (with_list c.syntax k h.available h.wholes w.tools)
        (record { tables = tables_alike h k p.tables q.tables; available = refl; wholes = refl }) line v w text a of_v (record {
          syntax = of_w.syntax;
          places = of_w.places;
          tools = over_any c.syntax k h.available h.wholes w.tools c.task is of_w.tools;
        }) says

    all_one : (v w : Work) → ((line text : List ℕ) (a : Bool) → IsAnswer v line text a → IsAnswer w line text a) → (ls : List (List ℕ))
        (xs ys : List (List ℕ × Bool)) → AreAnswers v ls xs → AreAnswers w ls ys → xs ≡ ys
    all_one v w alike [] [] [] p q = refl
    all_one v w alike [] [] (y ∷ ys) p q = absurd q
    all_one v w alike [] (x ∷ xs) ys p q = absurd p
    all_one v w alike (l ∷ ls) [] ys p q = absurd p
    all_one v w alike (l ∷ ls) (x ∷ xs) [] p q = absurd q
    all_one v w alike (l ∷ ls) (x ∷ xs) (y ∷ ys) p q =
        let e = one w l x.0 y.0 x.1 y.1 (alike l x.0 x.1 p.0) q.0 in
        let others = all_one v w alike ls xs ys p.1 q.1 in
        λ i. (e.0 i, e.1 i) ∷ others i

    pub lines_one : (a b : List ℕ) (s r : Status) → WritesLines c t input (Some []) (Some a) s → WritesLines c u input (Some []) (Some b) r → (a ≡ b) × (s ≡ r)
    lines_one a b s r p q =
        let alike = answers_alike (asks_list c.task) refl p.work_of.held q.work_of.held p.work q.work p.work_of.for q.work_of.for p.work_of.over q.work_of.over in
        let answers = all_one p.work q.work alike (lines (text_answered c input)) p.all_written.answers q.all_written.answers
        p.all_written.each q.all_written.each in (
          p.all_written.written ∙ ap text_of_lines answers ∙ sym q.all_written.written,
          status_one s r p.all_written.status_is (subst (λ xs. (r ≡ Accepted) ↔ (all_accepted xs ≡ true)) (sym answers) q.all_written.status_is),
        )

  module _ (one : (work : Work) (line s t : List ℕ) (a b : Bool) → IsAnswer work line s a → IsAnswer work line t b → (s ≡ t) × (a ≡ b))
      (t u : Tables) (same : SayTheSame t u) (input a b : List ℕ) (s r : Status) where
    settled_one : WritesSettled t (Some []) (Some a) s → WritesSettled u (Some []) (Some b) r → (a ≡ b) × (s ≡ r)
    settled_one p q =
        let table = likely_same t u same p.tells.expander q.tells.expander p.tells.over q.tells.over in
        let answers = bool_one p.answer q.answer p.tells.tells (subst (λ l. (q.answer ≡ true) ↔ AreSettled l) (sym table) q.tells.tells) in
        (p.written ∙ ap settled_line answers ∙ sym q.written, p.accepted ∙ sym q.accepted)

    pub output_one : (c : Command) → WritesOutput c t input (Some []) (Some a) s → WritesOutput c u input (Some []) (Some b) r → (a ≡ b) × (s ≡ r)
    output_one command.Settled p q = settled_one p q
    output_one (command.Lines c) p q = lines_one one c t u same input a b s r p q
