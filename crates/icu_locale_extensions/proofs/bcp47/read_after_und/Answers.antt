use Rattle.std.proofs.Common.{ap, sym, ◌∙◌}
use Rattle.icu_locale_core.specs.Identifier.{pieces}
use Rattle.icu_locale_core.specs.Readings.{read_front}
use Rattle.icu_locale_extensions.proofs.PrivateTags.{pieces-und, und_front}
use Rattle.icu_locale_extensions.proofs.Whole.{behind_reads, front_read}
use Rattle.icu_locale_extensions.proofs.bcp47.read_after_und.Goals as goal

pub returns : goal.returns
returns c =
    let t = c.args.text.now in
    let front = und_front (pieces t) c.requires in
    behind_reads c.derived_is_read.ensures _ _ c.new-2.result c.in_ok-id.id c.read_behind.result (sym (pieces-und t))
    (front.0 ∙ ap read_front (sym c.new.ensures) ∙ front_read c.new.result c.read_front.result c.in_ok-id.id c.read_front.ensures.read c.in_ok-id.was)
    (c.new-2.ensures ∙ sym front.1) c.read_behind.ensures
