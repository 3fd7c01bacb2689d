use Rattle.std.proofs.Common.{◌||◌, Bool, ℕ, List, map, drop}
use Rattle.std.specs.List.{flat_map}
use Rattle.icu_provider.specs.Names.{part_of}
use Rattle.icu_locale_names.specs.inner.Appended.{AddsPieces, IsGrown, filled_in}
use Rattle.icu_locale_names.proofs.language.appending.append_pattern.Given as goal

-- whoever adds what the items that are left stand for has added all
abbrev pub invariant-loop-item : goal.invariant-loop-item
invariant-loop-item l = record {
  grown : IsGrown l.initial.text.items l.text.items;
  rest : (new : List ℕ) (is_raw : Bool) → AddsPieces (flat_map (filled_in l.fn.name)
      (map part_of (drop l.item-index l.fn.name.pattern.now))) l.text.items new is_raw
      → AddsPieces (flat_map (filled_in l.fn.name) (map part_of l.fn.name.pattern.now)) l.initial.text.items new (l.is_raw || is_raw);
}
