use Rattle.std.proofs.Common.{map, drop}
use Rattle.std.specs.List.{flat_map}
use Rattle.icu_provider.specs.Names.{part_of}
use Rattle.icu_locale_names.specs.LanguageNames.{filled}
use Rattle.icu_locale_names.specs.LentNames.{parts_of}
use Rattle.icu_locale_full_names.specs.FullNames.{all_texts, joined_texts}
use Rattle.icu_locale_full_names.specs.declared.draft.Draft.{Draft}
use Rattle.icu_locale_full_names.specs.inner.Drafts.{Adds}
use Rattle.icu_locale_full_names.specs.inner.Has.{lent_language}
use Rattle.icu_locale_full_names.proofs.whole.add_whole.Given as goal

-- whoever adds what the items that are left stand for has added all
abbrev pub invariant-loop-item : goal.invariant-loop-item
invariant-loop-item l =
    let base = parts_of l.fn.name in
    let texts = all_texts base l.fn.names (lent_language l.fn.language) l.fn.x in
    let f = filled base.base (joined_texts base.separator texts) in
    (new : Draft) → Adds (flat_map f (map part_of (drop l.item-index l.item-items))) l.draft new
    → Adds (flat_map f (map part_of l.item-items)) l.initial.draft new
