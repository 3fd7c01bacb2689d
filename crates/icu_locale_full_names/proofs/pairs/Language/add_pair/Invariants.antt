use Rattle.std.proofs.Common.{map, drop}
use Rattle.std.specs.List.{flat_map}
use Rattle.icu_provider.specs.Names.{part_of}
use Rattle.icu_locale_names.specs.LanguageNames.{filled}
use Rattle.icu_locale_names.specs.LentNames.{lent_piece}
use Rattle.icu_locale_full_names.specs.Squares.{squared}
use Rattle.icu_locale_full_names.specs.declared.draft.Draft.{Draft}
use Rattle.icu_locale_full_names.specs.inner.Has.{has_pieces}
use Rattle.icu_locale_full_names.specs.inner.Drafts.{Adds}
use Rattle.icu_locale_full_names.proofs.pairs.Language.add_pair.Given as goal

-- whoever adds what the items that are left stand for has added all
abbrev pub invariant-loop-item : goal.invariant-loop-item
invariant-loop-item l =
    let f = filled (lent_piece l.fn.key) (has_pieces l.self.names.now l.self.separator.now l.fn.has) in
    (new : Draft) → Adds (squared (flat_map f (map part_of (drop l.item-index l.item-items)))) l.draft new
    → Adds (squared (flat_map f (map part_of l.item-items))) l.initial.draft new
