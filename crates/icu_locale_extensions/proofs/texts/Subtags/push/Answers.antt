use Rattle.std.proofs.Common.{◌≡◌, ◌++◌, codes, true, sym, subst, ap, ◌∙◌}
use Rattle.icu_locale_core.specs.Identifier.{pieces}
use Rattle.icu_locale_core.specs.Subtag.{lowercase}
use Rattle.icu_locale_extensions.specs.Extensions.{is_piece}
use Rattle.icu_locale_extensions.specs.inner.Texts.{IsPiecesText}
use Rattle.icu_locale_extensions.proofs.PiecesTaken.{pushed_read, pushed_text}
use Rattle.icu_locale_extensions.proofs.texts.Subtags.push.Goals as goal

-- the text with a piece more
pub invariant_of-self : goal.invariant_of-self
invariant_of-self g c =
    let fits : is_piece g.row.LOW c.args.piece.now ≡ true = sym c.is_piece.ensures ∙ c.if-not-is_piece.false in
    let grown : c.write_lower.new.sink.items ≡ c.self.inside.text.items ++ (codes "-" ++ lowercase c.args.piece.now) = c.in-Ok.ensures.appended in
    subst (IsPiecesText g.row.LOW) (sym grown) (pushed_text g.row.LOW c.self.inside.text.items c.args.piece.now c.self.invariant fits)

pub returns-in-Ok-clause-pushed : goal.returns-in-Ok-clause-pushed
returns-in-Ok-clause-pushed g c =
    let fits : is_piece g.row.LOW c.args.piece.now ≡ true = sym c.is_piece.ensures ∙ c.if-not-is_piece.false in
    let grown : c.write_lower.new.sink.items ≡ c.self.inside.text.items ++ (codes "-" ++ lowercase c.args.piece.now) = c.in-Ok.ensures.appended in
    rw (← c.self.view_is) (ap pieces grown ∙ pushed_read g.row.LOW c.self.inside.text.items c.args.piece.now c.self.invariant fits)
