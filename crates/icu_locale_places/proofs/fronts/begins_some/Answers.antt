use Rattle.std.proofs.Common.{◌≡◌, ◌++◌, ◌∷◌, [], false, is_ok, sym, ◌∙◌}
use Rattle.std.proofs.lemmas.Result.{IfOk-weaker}
use Rattle.icu_locale_core.specs.Identifier.{pieces}
use Rattle.icu_locale_extensions.specs.laws.Reader.{read}
use Rattle.icu_locale_places.specs.Places.{begins_some, probe}
use Rattle.icu_locale_places.proofs.Probed.{probed}
use Rattle.icu_locale_places.proofs.fronts.begins_some.Goals as goal

pub returns : goal.returns
returns c =
    let t = c.args.text.now in
    let not_read : is_ok (read (pieces t)) ≡ false = sym c.in_ok-is_read.ensures ∙ c.if-branch.false in
    IfOk-weaker c.is_read_with_more.result (λ b. b ≡ is_ok (read (pieces t ++ probe ∷ []))) (λ b. b ≡ begins_some (pieces t))
    (λ b e. e ∙ probed t not_read) c.is_read_with_more.ensures
