use Rattle.std.proofs.Common.{Bool, map}
use Rattle.icu_locale_full_names.specs.FullNames.{attribute_says}
use Rattle.icu_locale_full_names.specs.declared.draft.Draft.{Draft}
use Rattle.icu_locale_full_names.specs.inner.Drafts.{Joins}
use Rattle.icu_locale_full_names.proofs.pairs.Language.join_attributes.Given as goal

-- whoever joins what is left has joined all
abbrev pub invariant-loop-attribute : goal.invariant-loop-attribute
invariant-loop-attribute l = (new : Draft) (after : Bool) → Joins l.self.separator.now (map attribute_says l.attribute-iterator) l.draft l.is_any new after
    → Joins l.self.separator.now (map attribute_says l.fn.attributes) l.initial.draft l.initial.is_any new after
