use Rattle.std.proofs.Common.{map, drop}
use Rattle.icu_locale_names.specs.LanguageNames.{joined}
use Rattle.icu_locale_full_names.specs.Says.{value_piece}
use Rattle.icu_locale_full_names.specs.Squares.{squared}
use Rattle.icu_locale_full_names.specs.declared.draft.Draft.{Draft}
use Rattle.icu_locale_full_names.specs.inner.Drafts.{Adds, pieces_behind}
use Rattle.icu_locale_full_names.proofs.pairs.Language.add_codes.Given as goal

-- whoever adds the codes that are left has added all
abbrev pub invariant-loop-code : goal.invariant-loop-code
invariant-loop-code l = (new : Draft) → Adds (squared (pieces_behind l.is_any l.self.separator.now
    (map (value_piece l.self.names.now l.fn.key) (drop l.code-index l.fn.list)))) l.draft new
    → Adds (squared (joined l.self.separator.now (map (value_piece l.self.names.now l.fn.key) l.fn.list))) l.initial.draft new
