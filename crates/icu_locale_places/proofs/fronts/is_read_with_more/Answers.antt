use Rattle.std.proofs.Common.{◌≡◌, ◌++◌, ◌∷◌, [], codes, is_ok, ap, ◌∙◌}
use Rattle.std.proofs.lemmas.Result.{IfOk-weaker}
use Rattle.icu_locale_core.specs.Identifier.{pieces}
use Rattle.icu_locale_extensions.specs.laws.Reader.{read}
use Rattle.icu_locale_places.specs.Places.{probe}
use Rattle.icu_locale_places.proofs.Bytes.{joined_pieces}
use Rattle.icu_locale_places.proofs.fronts.is_read_with_more.Goals as goal

pub returns : goal.returns
returns c =
    let t = c.args.text.now in
    let more = c.as_slice.result.now in
    let first = c.in_ok-extend_from_slice.ensures.items ∙ ap (λ ys. ys ++ t) c.clear.ensures.items in
    let same : more ≡ t ++ codes "-abc" =
    c.as_slice.ensures.value ∙ c.in_ok-extend_from_slice-2.ensures.items ∙ ap (λ ys. ys ++ codes "-abc") first in
    IfOk-weaker c.is_read.result (λ b. b ≡ is_ok (read (pieces more))) (λ b. b ≡ is_ok (read (pieces t ++ probe ∷ [])))
    (λ b e. e ∙ ap (λ u. is_ok (read (pieces u))) same ∙ ap (λ ps. is_ok (read ps)) (joined_pieces t (codes "abc"))) c.is_read.ensures
