use Rattle.std.proofs.Common.{Bool, map}
use Rattle.icu_locale_full_names.specs.Says.{keyword_says}
use Rattle.icu_locale_full_names.specs.declared.draft.Draft.{Draft}
use Rattle.icu_locale_full_names.specs.inner.Drafts.{Joins}
use Rattle.icu_locale_full_names.proofs.pairs.Language.join_keywords.Given as goal

-- whoever joins what is left has joined all
abbrev pub invariant-loop-key : goal.invariant-loop-key
invariant-loop-key l = (new : Draft) (after : Bool) → Joins l.self.separator.now (map (keyword_says l.self.names.now l.self.separator.now) l.key-iterator) l.draft l.is_any new after
    → Joins l.self.separator.now (map (keyword_says l.self.names.now l.self.separator.now) l.fn.keywords) l.initial.draft l.initial.is_any new after
