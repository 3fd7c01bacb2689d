use Rattle.std.proofs.Common.{◌≡◌, nat_eq}
use Rattle.std.specs.Cmp.Lexicographic.{pointwise}
use Rattle.std.specs.List.{list_any}
use Rattle.icu_locale_core.specs.TextSet.{contains}
use Rattle.icu_locale.proofs.canonicalizer.replacing.has_member.Given as goal

abbrev pub invariant-loop-member : goal.invariant-loop-member
invariant-loop-member l = contains l.fn.set l.fn.variant ≡ list_any (pointwise nat_eq l.fn.variant) l.member-iterator
