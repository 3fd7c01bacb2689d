use Rattle.std.proofs.Common.{◌++◌, ℕ, List, [], codes, IsTrue, take, subst, sym, arith}
use Rattle.std.specs.Str.{IsUtf8}
use Rattle.std.proofs.lemmas.Str.{IsUtf8-from_ascii, IsUtf8-append}
use Rattle.std.proofs.lemmas.Str.Ascii.{IsAscii-nil, IsAscii-cons}
use Rattle.icu_locale_core.specs.Subtag.{is_alphanumeric}
use Rattle.icu_locale_core.proofs.Padding.{IsUtf8-plain}
use Rattle.icu_locale_core.proofs.langid.put_head.Goals as goal
use Rattle.icu_locale_core.proofs.langid.put_head.Goals.{in-Some, in_default}

-- a dash and a subtag after a text
after : (front subtag : List ℕ) → IsUtf8 front → IsTrue (is_alphanumeric subtag) → IsUtf8 (front ++ (codes "-" ++ subtag))
after front subtag text plain =
    let dash : IsUtf8 (codes "-") = IsUtf8-from_ascii (codes "-") (IsAscii-cons 45 [] (omega arith) IsAscii-nil) in
    IsUtf8-append front (codes "-" ++ subtag) text (IsUtf8-append (codes "-") subtag dash (IsUtf8-plain subtag plain))

-- letters, digits and dashes
pub returns-in-Some-region-clause-plain : goal.returns-in-Some-region-clause-plain
returns-in-Some-region-clause-plain c =
    let language : IsUtf8 (take c.put-end.result c.put-end.new.buffer) =
    subst IsUtf8 (sym c.put-end.ensures.text) (IsUtf8-plain _ c.put-end.ensures.plain) in
    let script : IsUtf8 (take c.match-x.end c.match-x.buffer) = elim c.match-x.branch [
      | in-Some w ↦ rw (w.end-is, w.buffer-is, w.put_after_dash-end.ensures.text) (after _ _ language w.put_after_dash-end.ensures.plain)
      | in_default w ↦ rw (w.end-is, w.buffer-is) language
    ] in
    subst IsUtf8 (sym c.put_after_dash-end-in-Some-region.ensures.text) (after _ _ script c.put_after_dash-end-in-Some-region.ensures.plain)

pub returns-in_default-region-clause-plain : goal.returns-in_default-region-clause-plain
returns-in_default-region-clause-plain c =
    let language : IsUtf8 (take c.put-end.result c.put-end.new.buffer) =
    subst IsUtf8 (sym c.put-end.ensures.text) (IsUtf8-plain _ c.put-end.ensures.plain) in
    elim c.match-x.branch [
      | in-Some w ↦ rw (w.end-is, w.buffer-is, w.put_after_dash-end.ensures.text) (after _ _ language w.put_after_dash-end.ensures.plain)
      | in_default w ↦ rw (w.end-is, w.buffer-is) language
    ]
