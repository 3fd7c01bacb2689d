use Rattle.std.proofs.Common.{Bool, map, filter, not}
use Rattle.icu_locale_full_names.specs.FullNames.{marks_hybrid}
use Rattle.icu_locale_full_names.specs.Says.{row_says}
use Rattle.icu_locale_full_names.specs.declared.draft.Draft.{Draft}
use Rattle.icu_locale_full_names.specs.inner.Drafts.{Joins}
use Rattle.icu_locale_full_names.proofs.pairs.Language.join_fields.Given as goal

-- whoever joins what is left has joined all
abbrev pub invariant-loop-key : goal.invariant-loop-key
invariant-loop-key l = (new : Draft) (after : Bool) → Joins l.self.separator.now (map (row_says l.self.names.now) (filter (λ row. not (marks_hybrid row)) l.key-iterator)) l.draft l.is_any new after
    → Joins l.self.separator.now (map (row_says l.self.names.now) (filter (λ row. not (marks_hybrid row)) l.fn.fields)) l.initial.draft l.initial.is_any new after
