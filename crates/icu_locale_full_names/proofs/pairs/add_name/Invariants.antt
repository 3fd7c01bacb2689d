use Rattle.icu_locale_names.specs.LentNames.{pieces_of}
use Rattle.icu_locale_names.specs.Walk.{pieces_left}
use Rattle.icu_locale_full_names.specs.Squares.{squared}
use Rattle.icu_locale_full_names.specs.declared.draft.Draft.{Draft}
use Rattle.icu_locale_full_names.specs.inner.Drafts.{Adds}
use Rattle.icu_locale_full_names.proofs.pairs.add_name.Given as goal

-- whoever adds the pieces that are left has added all
abbrev pub invariant-loop-piece : goal.invariant-loop-piece
invariant-loop-piece l = (new : Draft) → Adds (squared (pieces_left l.piece-iterator)) l.draft new
    → Adds (squared (pieces_of l.fn.name)) l.initial.draft new
