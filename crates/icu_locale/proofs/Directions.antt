-- Over lists that share no script, the list of scripts from right to left decides alone.
use Rattle.std.proofs.Common.{◌≡◌, ℕ, Bool, true, false, not, cond, IsTrue, List, [], ◌∷◌, Option, Some, None, is_some, ◌↔◌, if◌then◌else◌}
use Rattle.std.proofs.Common.{refl, ap, sym, ◌∙◌}
use Rattle.std.proofs.lemmas.Bool.{false≢true, and_parts, and_from, not-true, not_from_false}
use Rattle.std.proofs.lemmas.Cmp.{tied_itself}
use Rattle.std.specs.BTreeMap.{is_at}
use Rattle.std.specs.List.{list_all}
use Rattle.std.specs.Ordering.{is_eq}
use Rattle.icu_locale_core.specs.Maps.{value_at}
use Rattle.icu_locale_core.specs.TextSet.{text_cmp}
use Rattle.icu_locale_core.specs.laws.TextSets.{same_from_tied, text_total}
use Rattle.icu_provider.specs.SortedMaps.{is_listed}
use Rattle.icu_provider.specs.declared.direction.ScriptDirection.{ScriptDirection}
use Rattle.icu_locale.specs.Direction.{is_script_in, direction_of, AreDisjoint}
use Rattle.icu_locale.specs.declared.directionality.Direction.TheVariants.{LeftToRight, RightToLeft}

by_lists : (l r : Bool) → (l ≡ true → r ≡ false) → (r ≡ true) ↔ ((if l then Some LeftToRight else (if r then Some RightToLeft else None)) ≡ Some RightToLeft)
by_lists true r apart = (λ e. absurd (cc (apart refl)), λ e. absurd (cc))
by_lists false true apart = (λ e. refl, λ e. refl)
by_lists false false apart = (λ e. absurd (false≢true e), λ e. absurd (cc))

pub right_to_left : (d : ScriptDirection) (s : Option (List ℕ)) → AreDisjoint d → (is_script_in d.rtl s ≡ true) ↔ (direction_of d s ≡ Some RightToLeft)
right_to_left d None apart = (λ e. absurd (false≢true e), λ e. absurd (cc))
right_to_left d (Some s) apart = by_lists (is_listed d.ltr s) (is_listed d.rtl s) (apart s)

-- ---- a test of the lists

module _ (others : List (List ℕ × Unit {0})) where
  abbrev none_of : List (List ℕ × Unit {0}) → Bool
  none_of scripts = list_all (λ row. not (is_listed others row.0)) scripts

  by_tie : (row : List ℕ × Unit {0}) (scripts : List (List ℕ × Unit {0})) (s : List ℕ) (tied : Bool)
      → is_at (text_cmp s) row.0 ≡ tied → is_some (cond tied (Some row.1) (value_at text_cmp scripts s)) ≡ true
      → is_listed others row.0 ≡ false → (is_listed scripts s ≡ true → is_listed others s ≡ false)
      → is_listed others s ≡ false
  by_tie row scripts s true tied here first rest =
      ap (is_listed others) (same_from_tied s row.0 tied) ∙ first
  by_tie row scripts s false tied here first rest = rest here

  pub apart_from_test : (scripts : List (List ℕ × Unit {0})) → none_of scripts ≡ true
      → (s : List ℕ) → is_listed scripts s ≡ true → is_listed others s ≡ false
  apart_from_test [] test s here = absurd (false≢true here)
  apart_from_test (row ∷ scripts) test s here =
      let both = and_parts (not (is_listed others row.0)) (none_of scripts) test in
      by_tie row scripts s (is_at (text_cmp s) row.0) refl here (not-true _ both.0)
      (apart_from_test scripts both.1 s)

  later : (tied : Bool) (row : List ℕ × Unit {0}) (found : Option (Unit {0})) → is_some found ≡ true
      → is_some (cond tied (Some row.1) found) ≡ true
  later true row found here = refl
  later false row found here = here

  pub test_from_apart : (scripts : List (List ℕ × Unit {0}))
      → ((s : List ℕ) → is_listed scripts s ≡ true → is_listed others s ≡ false)
      → none_of scripts ≡ true
  test_from_apart [] apart = refl
  test_from_apart (row ∷ scripts) apart =
      let here : is_listed (row ∷ scripts) row.0 ≡ true =
      ap (λ tied. is_some (cond (is_eq tied) (Some row.1) (value_at text_cmp scripts row.0)))
      (tied_itself text_total row.0) in
      and_from (not (is_listed others row.0)) (none_of scripts)
      (not_from_false _ (apart row.0 here))
      (test_from_apart scripts (λ s there. apart s
      (later (is_at (text_cmp s) row.0) row (value_at text_cmp scripts s) there)))

pub disjoint_exactly : (d : ScriptDirection) (result : Bool)
    → result ≡ list_all (λ row. not (is_listed d.rtl row.0)) d.ltr → IsTrue result ↔ AreDisjoint d
disjoint_exactly d result is = (
  λ test. apart_from_test d.rtl d.ltr (sym is ∙ test),
  λ apart. is ∙ test_from_apart d.rtl d.ltr apart,
)
