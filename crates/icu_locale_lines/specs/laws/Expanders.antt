-- Tables make one likely table, so one expander over them that is not settled tells of all.
use Rattle.std.specs.Prelude.{◌≡◌, true, Option, Some, None}
use Rattle.std.specs.Borrow.{Bor}
use Rattle.std.specs.Option.{option_copied, option_or}
use Rattle.std.proofs.Common.{refl, ap, sym, subst, ◌∙◌}
use Rattle.std.proofs.lemmas.Option.{same_Some, none-some}
use Rattle.icu_provider.specs.declared.likely.extended.LikelySubtagsExtended.{LikelySubtagsExtended}
use Rattle.icu_locale.specs.LikelyTable.{likely, row_at, common_rows, extended_rows, extension_row, und_row}
use Rattle.icu_locale.specs.declared.expander.looks.LikelyKey.{LikelyKey}
use Rattle.icu_locale.specs.LikelySubtags.{AreSettled}
use Rattle.icu_locale.specs.declared.expander.LocaleExpander.{LocaleExpander}
use Rattle.icu_tables.specs.declared.tables.Tables.{Tables}
use Rattle.icu_locale_lines.specs.Loads.{IsExpanderOf, has_likely}
use Rattle.icu_locale_lines.specs.Commands.{IsUnsettled, Negotiates}
use Rattle.icu_locale_lines.specs.declared.command.Command.{Command}

same_extension : (x y : Option (Bor LikelySubtagsExtended)) → option_copied x ≡ option_copied y → (k : LikelyKey) → extension_row x k ≡ extension_row y k
same_extension None None same k = refl
same_extension None (Some y) same k = absurd (none-some _ same)
same_extension (Some x) None same k = absurd (none-some _ (sym same))
same_extension (Some x) (Some y) same k = ap (λ table. row_at (extended_rows table) k) (same_Some x.now y.now same)

-- expanders over the same tables look up in one likely table
pub same_likely : (t : Tables) (e f : LocaleExpander) → IsExpanderOf t e → IsExpanderOf t f → likely e ≡ likely f
same_likely t e f over also =
    let language = same_Some e.language.now f.language.now (sym over.language ∙ also.language) in
    let script_region = same_Some e.script_region.now f.script_region.now (sym over.script_region ∙ also.script_region) in
    λ i k. option_or (row_at (common_rows (language i) (script_region i)) k)
    (option_or (same_extension e.extended f.extended (sym over.extended ∙ also.extended) k i) (und_row ((language i).und) k))

-- one that is not settled tells of all
pub unsettled_from_one : (c : Command) (t : Tables) (e : LocaleExpander) → Negotiates c → has_likely t ≡ true → IsExpanderOf t e
    → ¬ (AreSettled (likely e)) → IsUnsettled c t
unsettled_from_one c t e negotiates held over unsettled = record {
  negotiates = negotiates;
  held = held;
  unsettled = λ f also. subst (λ table. ¬ (AreSettled table)) (same_likely t e f over also) unsettled;
}
