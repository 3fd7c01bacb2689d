use Rattle.std.proofs.Common.{◌≡◌, ◌++◌, take}
use Rattle.icu_locale_extensions.specs.Extensions.{any_piece}
use Rattle.icu_locale_parts.specs.Parts.{members}
use Rattle.icu_locale_lines.specs.SubtagLists.{began}
use Rattle.icu_locale_lines.proofs.work.subtag_list.add_subtags.Given as goal

-- the subtags of the keys so far stand after what was there
abbrev pub invariant-loop-key : goal.invariant-loop-key
invariant-loop-key l =
    (l.text.items ≡ l.fn.text.items ++ members (began l.fn.kind l.fn.front (take l.key-index l.fn.keys)))
    × (l.any ≡ any_piece (began l.fn.kind l.fn.front (take l.key-index l.fn.keys)))
