use Rattle.std.proofs.Common.{ℕ, List, map, drop}
use Rattle.icu_locale_names.specs.declared.language.appending.Joined.{Joined}
use Rattle.icu_locale_names.specs.inner.Appended.{IsGrown, Joins}
use Rattle.icu_locale_names.specs.Shown.{piece_of}
use Rattle.icu_locale_names.proofs.language.appending.append_each.Given as goal

-- whoever joins the qualifiers that are left has joined all
abbrev pub invariant-loop-shown : goal.invariant-loop-shown
invariant-loop-shown l = record {
  grown : IsGrown l.initial.text.items l.text.items;
  rest : (new : List ℕ) (after : Joined) → Joins l.separator (map piece_of (drop l.shown-index l.qualifiers)) l.text.items l.so_far new
      after → Joins l.separator (map piece_of l.qualifiers) l.initial.text.items l.initial.so_far new after;
}
