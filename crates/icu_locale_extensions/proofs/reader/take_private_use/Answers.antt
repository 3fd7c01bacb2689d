use Rattle.std.proofs.Common.{[], refl, ap, ◌∙◌, inr}
use Rattle.icu_locale_extensions.specs.laws.Reader.{read_on}
use Rattle.icu_locale_extensions.specs.Built.{with_private_use}
use Rattle.icu_locale_extensions.specs.laws.Reader.Part.{nothing}
use Rattle.icu_locale_extensions.proofs.Taking.{end_from, private_taken}
use Rattle.icu_locale_extensions.proofs.reader.take_private_use.Goals as goal

pub returns-in-Some-clause-read : goal.returns-in-Some-clause-read
returns-in-Some-clause-read c =
    let e = c.in_ok-read_front.ensures in
    inr (private_taken c.args.x.now c.args.pieces.now _ _ e.read e.rest (e.some refl)
    ∙ ap (read_on nothing [] (with_private_use c.args.x.now c.in_ok-read_front.field-0)) c.in-Some.ensures.1)

pub returns-in-None-clause-read : goal.returns-in-None-clause-read
returns-in-None-clause-read c =
    let e = c.in_ok-read_front.ensures in
    private_taken c.args.x.now c.args.pieces.now _ _ e.read e.rest (e.some refl)
    ∙ rw c.in-None.ensures refl

pub returns-in-None-clause-rest : goal.returns-in-None-clause-rest
returns-in-None-clause-rest c = end_from _ c.read_front.new.pieces c.args.pieces.now c.in_ok-read_front.ensures.rest
