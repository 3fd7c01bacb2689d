use Rattle.std.proofs.Common.{◌≡◌, ◌++◌, ◌-◌, take, drop, replicate}
use Rattle.std.specs.List.{list_all}
use Rattle.icu_locale_core.specs.inner.Class.{written_case, is_character}
use Rattle.icu_locale_core.proofs.tiny.TinyText.read.Given as goal

-- what was written, and then zeros; and the text is of a kind where what is left of it is
abbrev pub invariant-loop-place : goal.invariant-loop-place
invariant-loop-place g l = record {
  array : l.bytes ≡ take l.place (written_case l.class l.text) ++ replicate (g.row.N - l.place) 0;
  whole : list_all (is_character l.kind) l.text ≡ list_all (is_character l.kind) (drop l.place l.text);
}
