-- Tables with the same rows say the same to each command.
use Rattle.std.proofs.Common.{◌≡◌, ℕ, List, [], ◌∷◌, refl, sym, ◌∙◌, ◌++◌}
use Rattle.std.specs.Prelude.{map, option_map}
use Rattle.std.specs.Map.{keys_of}
use Rattle.icu_provider.specs.declared.direction.ScriptDirection.{ScriptDirection}
use Rattle.icu_tables.specs.LentNames.{all_names, lent_rows}
use Rattle.icu_tables.specs.Rows.{alias_rows, direction_rows}
use Rattle.icu_tables.specs.Supplement.{matching_rows}
use Rattle.icu_tables.specs.Supplement as further
use Rattle.icu_tables.specs.declared.tables.Tables.{Tables}
use Rattle.icu_locale.specs.LikelyTable.{likely}
use Rattle.icu_locale.specs.declared.expander.LocaleExpander.{LocaleExpander}
use Rattle.icu_locale_lines.specs.Loads.{IsExpanderOf}
use Rattle.icu_locale_lines.specs.SameRows.{HaveSameRows}
use Rattle.icu_locale_lines.specs.laws.Expanders.{same_likely}
use Rattle.icu_locale_lines.proofs.MatchingAlike.{over}

-- tables that say the same to each command
pub record SayTheSame (t u : Tables) : Type 0 where
  pub language : t.likely_language ≡ u.likely_language
  pub script_region : t.likely_script_region ≡ u.likely_script_region
  pub extended : t.likely_extended ≡ u.likely_extended
  pub aliases : option_map alias_rows t.aliases ≡ option_map alias_rows u.aliases
  pub direction : option_map direction_rows t.script_direction ≡ option_map direction_rows u.script_direction
  pub exemplars : t.exemplars ≡ u.exemplars
  pub names : all_names t ≡ all_names u
  pub menus : t.menus ≡ u.menus
  pub essentials : t.essentials ≡ u.essentials
  pub supplement : further.rows_of t.supplement ≡ further.rows_of u.supplement

-- expanders over such tables look up in one likely table
pub likely_same : (t u : Tables) → SayTheSame t u → (e f : LocaleExpander) → IsExpanderOf t e → IsExpanderOf u f → likely e ≡ likely f
likely_same t u same e f over also = same_likely t e f over (record {
  language = same.language ∙ also.language;
  script_region = same.script_region ∙ also.script_region;
  extended = same.extended ∙ also.extended;
})

-- a table of directions is its rows
listed_of : (rows : List (List ℕ × Unit {0})) → map (λ t. (t, tt)) (keys_of rows) ≡ rows
listed_of [] = refl
listed_of (row ∷ rows) = λ i. row ∷ listed_of rows i

pub directions_one : (d e : ScriptDirection) → direction_rows d ≡ direction_rows e → d ≡ e
directions_one d e same =
    let rtl = sym (listed_of d.rtl) ∙ (λ i. map (λ t. (t, tt)) (same i).rtl) ∙ listed_of e.rtl in
    let ltr = sym (listed_of d.ltr) ∙ (λ i. map (λ t. (t, tt)) (same i).ltr) ∙ listed_of e.ltr in
    λ i. record { rtl = rtl i; ltr = ltr i }

-- tables with the same rows say the same
pub same_tables : (t u : Tables) → HaveSameRows t u → SayTheSame t u
same_tables t u same = record {
  language = λ i. (same.rows i).likely_language;
  script_region = λ i. (same.rows i).likely_script_region;
  extended = λ i. (same.rows i).likely_extended;
  aliases = λ i. (same.rows i).aliases;
  direction = λ i. (same.rows i).direction;
  exemplars = λ i. (same.rows i).exemplars;
  names = λ i. (same.rows i).names ++ lent_rows (same.lent i);
  menus = λ i. (same.rows i).menus;
  essentials = λ i. (same.rows i).essentials;
  supplement = same.supplement;
}
