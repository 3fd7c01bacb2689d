use Rattle.std.proofs.Common.{◌≡◌, not}
use Rattle.std.specs.List.{list_any}
use Rattle.icu_locale_full_names.specs.FullNames.{marks_hybrid}
use Rattle.icu_locale_full_names.proofs.whole.has_field.Given as goal

-- what is left of the fields decides
abbrev pub invariant-loop-key : goal.invariant-loop-key
invariant-loop-key l = list_any (λ row. not (marks_hybrid row)) l.fn.fields ≡ list_any (λ row. not (marks_hybrid row)) l.key-iterator
