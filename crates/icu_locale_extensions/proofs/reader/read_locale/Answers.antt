use Rattle.icu_locale_extensions.proofs.Whole.{behind_reads, front_read, front_refused, same_err}
use Rattle.icu_locale_extensions.proofs.reader.read_locale.Goals as goal

pub returns-in_err-id : goal.returns-in_err-id
returns-in_err-id c = front_refused c.derived_is_read.ensures c.args.text.now c.new-pieces.result c.read_front.result c.in_err-id.field-0.0 _
    c.new-pieces.ensures c.in_err-id.was (same_err c.from_residual.result c.in_err-id.field-0.0 c.from_residual.ensures.0 c.from_residual.ensures.1)
    c.read_front.ensures.read c.read_front.ensures.language c.read_front.ensures.memory

pub returns : goal.returns
returns c = behind_reads c.derived_is_read.ensures c.args.text.now c.new-pieces.result c.read_front.new.pieces c.in_ok-id.id c.read_behind.result
    c.new-pieces.ensures (front_read c.new-pieces.result c.read_front.result c.in_ok-id.id c.read_front.ensures.read c.in_ok-id.was)
    c.in_ok-id.ensures.rest c.read_behind.ensures
