use Rattle.std.proofs.Common.{sym}
use Rattle.icu_locale_core.proofs.Values.{one_is_read}
use Rattle.icu_locale_core.proofs.value.Value.try_from_utf8.Goals as goal

pub returns-in-Some : goal.returns-in-Some
returns-in-Some c =
    one_is_read c.args.text.now c.in-Some.piece c.of_piece.result (sym c.in-Some.ensures.accepted) c.in-Some.ensures.read c.of_piece.ensures
