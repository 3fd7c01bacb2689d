-- What a session keeps, over each expander of its tables, and the work that it lends.
use Rattle.std.proofs.Common.{◌≡◌, ℕ, true, false, List, Option, Some, None, IfSome, refl, ap, sym, subst, ◌∙◌}
use Rattle.std.specs.Prelude.{IsSomeAnd, ◌&&◌, if◌then◌else◌}
use Rattle.std.proofs.lemmas.Bool.{false≢true}
use Rattle.std.proofs.lemmas.Option.{same_Some}
use Rattle.icu_locale.specs.LikelyTable.{likely}
use Rattle.icu_locale.specs.RuleSet.{lent, rules_over}
use Rattle.icu_locale.specs.declared.canonicalizer.lending.CanonicalizerRef.{CanonicalizerRef}
use Rattle.icu_locale.specs.declared.canonicalizer.rules.ReadRules.{ReadRules}
use Rattle.icu_locale.specs.declared.expander.LocaleExpander.{LocaleExpander}
use Rattle.icu_locale_matching.specs.Service.{IsPreparedOver}
use Rattle.icu_locale_matching.specs.declared.server.ServedLocales.{ServedLocales}
use Rattle.icu_provider.specs.declared.aliases.Aliases.{Aliases}
use Rattle.icu_provider.specs.declared.matching.LanguageMatching.{LanguageMatching}
use Rattle.icu_tables.specs.declared.tables.Tables.{Tables}
use Rattle.icu_locale_lines.specs.Commands.{HoldsSettled, ListsOver, has_matching, has_tables, holds_for, works_by_rules}
use Rattle.icu_locale_lines.specs.Held.{HasKept, HoldsList, IsListMade, IsListOver, IsReady, IsServeTask, IsServedOver, IsSessionOver, IsWorkOf, IsWorkOver, held_in, text_answered}
use Rattle.icu_locale_lines.specs.Lines.{after_first_line, first_line}
use Rattle.icu_locale_lines.specs.Loads.{IsExpanderOf, has_rules, not_found}
use Rattle.icu_locale_lines.specs.Tasks.{asks_list, row_of}
use Rattle.icu_locale_lines.specs.WholeRuns.{IsUnloaded}
use Rattle.icu_locale_lines.specs.declared.command.Command.TheVariants.{Lines}
use Rattle.icu_locale_lines.specs.declared.command.LineCommand.{LineCommand}
use Rattle.icu_locale_lines.specs.declared.command.Task.TheVariants as task
use Rattle.icu_locale_lines.specs.declared.error.CliError.{CliError}
use Rattle.icu_locale_lines.specs.declared.error.CliError.TheVariants.{Data, Memory}
use Rattle.icu_locale_lines.specs.declared.session.Session.{Session}
use Rattle.icu_locale_lines.specs.declared.session.list.KeptList.{KeptList}
use Rattle.icu_locale_lines.specs.declared.work.Work.{Work}
use Rattle.icu_locale_lines.specs.laws.Expanders.{same_likely}

-- ---- commands that ask for no list, and those that do

module _ (c : LineCommand) where
  pub answered_alone : asks_list c.task ≡ false → (input : List ℕ) → text_answered c input ≡ input
  answered_alone none input = ap (λ b. if b then after_first_line input else input) none

  pub answered_listed : asks_list c.task ≡ true → (input : List ℕ) → text_answered c input ≡ after_first_line input
  answered_listed asks input = ap (λ b. if b then after_first_line input else input) asks

  negotiates_lists : c.task ≡ task.Negotiate → asks_list c.task ≡ true
  negotiates_lists is = ap asks_list is

  serves_lists : IsServeTask c.task → asks_list c.task ≡ true
  serves_lists (served, is) = ap asks_list is

module _ (c : LineCommand) (t : Tables) (s : Session) where
  -- what is ready for a command that asks for no list is all that it asks for
  pub kept_ready : IsReady c t s → asks_list c.task ≡ false → HasKept c t s
  kept_ready ready none = record {
    rules = ready.rules;
    settled = λ is. absurd (false≢true (sym none ∙ negotiates_lists c is));
    served = λ is. absurd (false≢true (sym none ∙ serves_lists c is));
  }

  -- its work is that of any input
  pub work_alone : (w : Work) → asks_list c.task ≡ false → IsWorkOver c (held_in t s) w → (input : List ℕ) → IsWorkOf c t input w
  work_alone w none over input = record {
    held = held_in t s;
    for = record { tables = refl; list = λ asks. absurd (false≢true (sym none ∙ asks)) };
    over = over;
  }

  -- and where a line lists what is available, that of each input with this first line
  pub work_listed : (w : Work) (line : List ℕ) → HoldsList c.syntax line (held_in t s) → IsWorkOver c (held_in t s) w
      → (input : List ℕ) → first_line input ≡ line → IsWorkOf c t input w
  work_listed w line listed over input same = record {
    held = held_in t s;
    for = record { tables = refl; list = λ asks. subst (λ l. HoldsList c.syntax l (held_in t s)) (sym same) listed };
    over = over;
  }

-- a list is asked for over tables that are settled, or that a server asks
pub settled_for : (c : LineCommand) (t : Tables) → c.task ≡ task.Negotiate → (asks_list c.task ≡ true → ListsOver c.task t) → HoldsSettled t
settled_for c t is lists = subst (λ k. ListsOver k t) is (lists (ap asks_list is))

-- ---- lists

-- a list that was made over one expander of tables was made over each
pub list_over : (t : Tables) (e f : LocaleExpander) (list : KeptList) → IsExpanderOf t e → f ≡ e → IsListMade (likely f) list → IsListOver t list
list_over t e f list over same made = record {
  expander = e;
  over = over;
  made = λ other also. subst (λ table. IsListMade table list) (ap likely same ∙ same_likely t e other over also) made;
}

-- ---- rules that are kept, and what is served by them

-- rules that are lent: those that were read, over the aliases of the tables
abbrev pub Lends : Tables → ReadRules → CanonicalizerRef → Type 0
Lends t read c = IsSomeAnd t.aliases (λ table. lent c.rules ≡ rules_over read table)

module _ (t : Tables) (read : ReadRules) (s : ServedLocales) (c : CanonicalizerRef) (m : LanguageMatching) (over : IsExpanderOf t c.expander)
    (lends : Lends t read c) (matching : t.supplement.matching ≡ Some m) where
  -- what was prepared over one expander of the tables was prepared over each
  served_over_one : IsPreparedOver (likely c.expander) (lent c.rules) m s → IsServedOver t read s
  served_over_one prepared f u n also has_u has_n =
      let same = subst (λ (o : Option Aliases). IsSomeAnd o (λ table. lent c.rules ≡ rules_over read table)) has_u lends in
      subst (λ l. IsPreparedOver l (rules_over read u) n s) (same_likely t c.expander f over also)
      (subst (λ r. IsPreparedOver (likely c.expander) r n s) same
      (subst (λ x. IsPreparedOver (likely c.expander) (lent c.rules) x s) (same_Some m n (sym matching ∙ has_n)) prepared))

  prepared_over : IsServedOver t read s → IsPreparedOver (likely c.expander) (lent c.rules) m s
  prepared_over kept = by t.aliases refl lends
    where
      by : (o : Option Aliases) → t.aliases ≡ o → IsSomeAnd o (λ table. lent c.rules ≡ rules_over read table)
          → IsPreparedOver (likely c.expander) (lent c.rules) m s
      by None has same = absurd same
      by (Some table) has same = subst (λ r. IsPreparedOver (likely c.expander) r m s) (sym same) (kept c.expander table m over has matching)

module _ (t : Tables) (rules : Option ReadRules) (s : ServedLocales) (c : CanonicalizerRef) (m : LanguageMatching) (over : IsExpanderOf t c.expander)
    (lends : IsSomeAnd rules (λ read. Lends t read c)) (matching : t.supplement.matching ≡ Some m) where
  -- what is prepared by rules that are kept is kept
  pub served_kept : IsPreparedOver (likely c.expander) (lent c.rules) m s → IsSomeAnd rules (λ read. IsServedOver t read s)
  served_kept prepared = by rules lends
    where
      by : (o : Option ReadRules) → IsSomeAnd o (λ read. Lends t read c) → IsSomeAnd o (λ read. IsServedOver t read s)
      by None lends = absurd lends
      by (Some read) lends = served_over_one t read s c m over lends matching prepared

  -- and what is kept was prepared by them
  pub prepared_kept : IsSomeAnd rules (λ read. IsServedOver t read s) → IsPreparedOver (likely c.expander) (lent c.rules) m s
  prepared_kept kept = by rules lends kept
    where
      by : (o : Option ReadRules) → IsSomeAnd o (λ read. Lends t read c) → IsSomeAnd o (λ read. IsServedOver t read s)
          → IsPreparedOver (likely c.expander) (lent c.rules) m s
      by None lends kept = absurd lends
      by (Some read) lends kept = prepared_over t read s c m over lends matching kept

-- what a session serves was prepared by rules that it lends
pub prepared_in : (t : Tables) (s : Session) (v : ServedLocales) (c : CanonicalizerRef) (m : LanguageMatching) → IsSessionOver t s → s.served ≡ Some v
    → IsExpanderOf t c.expander → IsSomeAnd s.rules (λ read. Lends t read c) → t.supplement.matching ≡ Some m
    → IsPreparedOver (likely c.expander) (lent c.rules) m v
prepared_in t s v c m kept served over lends matching =
    prepared_kept t s.rules v c m over lends matching (subst (λ o. IfSome o (λ x. IsSomeAnd s.rules (λ read. IsServedOver t read x))) served kept.served)

-- ---- refusals

-- why nothing is made to be served: a table is not held, or all are and memory was refused
module _ (c : LineCommand) (t : Tables) (serves : IsServeTask c.task) (e : CliError) where
  pub unserved_table : (has_matching t && has_rules t) ≡ false → e ≡ Data not_found → IsUnloaded (Lines c) t e
  unserved_table none is = subst (IsUnloaded (Lines c) t) (sym is) (refl, ap (λ k. holds_for k t) serves.1 ∙ none)

  pub unserved_memory : has_tables (Lines c) t ≡ true → e ≡ Memory → IsUnloaded (Lines c) t e
  unserved_memory all is = subst (IsUnloaded (Lines c) t) (sym is) (ap (λ k. works_by_rules (row_of k).rules c.syntax t) serves.1, all)
