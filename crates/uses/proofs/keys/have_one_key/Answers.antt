use Rattle.std.proofs.Common.{sym, ◌∙◌, false, string_bytes, inr}
use Rattle.std.proofs.lemmas.Result.{err_from_is_err_and}
use Rattle.std.proofs.lemmas.Slice.Eq.{bytes_eq-Decides}
use Rattle.icu_locale.specs.LikelyTable.{likely}
use Rattle.uses.proofs.keys.have_one_key.Goals as goal

-- a run has one end, and written identifiers are equal exactly where the identifiers are
pub returns-clause-told : goal.returns-clause-told
returns-clause-told c x y canonical_x canonical_y =
    let one = c.in_ok-one.ensures.key in
    let other = c.in_ok-other.ensures.key in
    let canonicalizer = c.args.canonicalizer.now in
    let table = likely canonicalizer.expander in
    let ends = c.runs_end_or_repeat.ensures.one_end table canonicalizer.rules false in
    let is_one = ends c.args.one.id x.id one.0.id canonical_x.id one.1.id in
    let is_other = ends c.args.other.id y.id other.0.id canonical_y.id other.1.id in
    let law = c.written_once.ensures one.0.id other.0.id one.2 other.2 in
    let decides = bytes_eq-Decides (string_bytes c.in_ok-one.one) (string_bytes c.in_ok-other.other) in (
      λ told. is_one ∙ law.0 (sym one.3 ∙ decides.0 (sym c.eq.ensures ∙ told) ∙ other.3) ∙ sym is_other,
      λ same. c.eq.ensures ∙ decides.1 (one.3 ∙ law.1 (sym is_one ∙ same ∙ is_other) ∙ sym other.3),
    )

-- the first locale has a canonical form by then
pub returns-in_err-other-clause-refused : goal.returns-in_err-other-clause-refused
returns-in_err-other-clause-refused c =
    let passed_on = err_from_is_err_and c.from_residual-in_err-other.result c.from_residual-in_err-other.ensures.1 in
    let one = c.in_ok-one.ensures.key in
    rw (passed_on.1, passed_on.2) (inr ((one.0, one.1), c.in_err-other.ensures.refused))
