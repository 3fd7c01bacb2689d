use Rattle.std.proofs.Common.{Bool, map, filter}
use Rattle.icu_locale_full_names.specs.FullNames.{is_beside_x}
use Rattle.icu_locale_full_names.specs.Says.{row_says}
use Rattle.icu_locale_full_names.specs.declared.draft.Draft.{Draft}
use Rattle.icu_locale_full_names.specs.inner.Drafts.{Joins}
use Rattle.icu_locale_full_names.proofs.pairs.Language.join_beside.Given as goal

-- whoever joins what is left has joined all
abbrev pub invariant-loop-singleton : goal.invariant-loop-singleton
invariant-loop-singleton l = (new : Draft) (after : Bool) → Joins l.self.separator.now (map (row_says l.self.names.now) (filter (is_beside_x l.fn.side) l.singleton-iterator)) l.draft l.is_any new after
    → Joins l.self.separator.now (map (row_says l.self.names.now) (filter (is_beside_x l.fn.side) l.fn.others)) l.initial.draft l.initial.is_any new after
