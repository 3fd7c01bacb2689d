use Rattle.std.proofs.Common.{Bool, map}
use Rattle.icu_locale_names.specs.LentNames.{parts_of}
use Rattle.icu_locale_names.specs.Walk.{qualifier_pieces}
use Rattle.icu_locale_full_names.specs.FullNames.{one_piece}
use Rattle.icu_locale_full_names.specs.declared.draft.Draft.{Draft}
use Rattle.icu_locale_full_names.specs.inner.Drafts.{Joins}
use Rattle.icu_locale_full_names.proofs.pairs.Language.join_base.Given as goal

-- whoever joins what is left has joined all
abbrev pub invariant-loop-piece : goal.invariant-loop-piece
invariant-loop-piece l = (new : Draft) (after : Bool) → Joins l.self.separator.now (map one_piece (qualifier_pieces l.piece-iterator)) l.draft l.is_any new after
    → Joins l.self.separator.now (map one_piece (parts_of l.fn.name).qualifiers) l.initial.draft l.initial.is_any new after
