use Rattle.std.proofs.Common.{◌≡◌, Some, ap, sym, ◌∙◌, rules}
use Rattle.icu_locale_core.specs.TextSet.{empty}
use Rattle.icu_locale_lines.specs.CommandWords.{preferences_of}
use Rattle.icu_locale_lines.proofs.Grammar.{preferences_read, with_none}
use Rattle.icu_locale_lines.proofs.work.name.read_preferences.Goals as goal

pub returns-then-is_empty : goal.returns-then-is_empty
returns-then-is_empty c =
    let none : c.in-Ok.x.variants ≡ empty = search rules in
    let told = preferences_read c.pieces_are_read.ensures.sound c.pieces_are_read.ensures.complete c.spelled_without_variants.ensures
    c.args.text.now c.try_from_str.result c.try_from_str.ensures in
    ap Some (search rules) ∙ sym (with_none c.in-Ok.x none) ∙ ap preferences_of (sym c.in-Ok.is) ∙ told

pub returns : goal.returns
returns c =
    let told = preferences_read c.pieces_are_read.ensures.sound c.pieces_are_read.ensures.complete c.spelled_without_variants.ensures
    c.args.text.now c.try_from_str.result c.try_from_str.ensures in
    ap preferences_of (sym c.in-Err.is) ∙ told
