use Rattle.std.proofs.Common.{codes, ap, sym, ◌∙◌, ◌∷◌}
use Rattle.icu_locale_core.specs.Identifier.{pieces}
use Rattle.icu_locale_extensions.specs.Syntaxes.{preferred}
use Rattle.icu_locale_core.specs.Identifier.{pieces_if_any}
use Rattle.icu_locale_extensions.proofs.Tags.{preferred-named, preferred-one, preferred-other}
use Rattle.icu_locale_extensions.proofs.legacy.preferred.Goals as goal

pub returns-in_default : goal.returns-in_default
returns-in_default c = sym (ap (λ o. preferred (c.args.first.now ∷ pieces_if_any o)) c.in_default.is ∙ preferred-one c.args.first.now)

pub returns-then-is_named : goal.returns-then-is_named
returns-then-is_named c =
    let ps = pieces c.in-Some.behind.now in
    c.value_of.ensures
    ∙ sym (ap (λ o. preferred (c.args.first.now ∷ pieces_if_any o)) c.in-Some.is
    ∙ preferred-named c.args.first.now (codes "i") ps (sym c.is_named.ensures ∙ c.if-is_named.true))

pub returns-then-is_spelled : goal.returns-then-is_spelled
returns-then-is_spelled c =
    let ps = pieces c.in-Some.behind.now in
    c.value_of-then-is_spelled.ensures
    ∙ sym (ap (λ o. preferred (c.args.first.now ∷ pieces_if_any o)) c.in-Some.is
    ∙ preferred-named c.args.first.now (codes "en") ps (sym c.is_spelled.ensures ∙ c.if-is_spelled.true))

pub returns-then-is_spelled-2 : goal.returns-then-is_spelled-2
returns-then-is_spelled-2 c =
    let ps = pieces c.in-Some.behind.now in
    c.value_of-then-is_spelled-2.ensures
    ∙ sym (ap (λ o. preferred (c.args.first.now ∷ pieces_if_any o)) c.in-Some.is
    ∙ preferred-named c.args.first.now (codes "sgn") ps (sym c.is_spelled-2.ensures ∙ c.if-is_spelled-2.true))

pub returns-then-is_spelled-3 : goal.returns-then-is_spelled-3
returns-then-is_spelled-3 c =
    let ps = pieces c.in-Some.behind.now in
    c.value_of-then-is_spelled-3.ensures
    ∙ sym (ap (λ o. preferred (c.args.first.now ∷ pieces_if_any o)) c.in-Some.is
    ∙ preferred-named c.args.first.now (codes "no") ps (sym c.is_spelled-3.ensures ∙ c.if-is_spelled-3.true))

pub returns-then-is_spelled-4 : goal.returns-then-is_spelled-4
returns-then-is_spelled-4 c =
    let ps = pieces c.in-Some.behind.now in
    c.value_of-then-is_spelled-4.ensures
    ∙ sym (ap (λ o. preferred (c.args.first.now ∷ pieces_if_any o)) c.in-Some.is
    ∙ preferred-named c.args.first.now (codes "zh") ps (sym c.is_spelled-4.ensures ∙ c.if-is_spelled-4.true))

pub returns : goal.returns
returns c =
    sym (preferred-other c.args.first.now (pieces_if_any c.args.behind) (sym c.is_named.ensures ∙ c.if-is_named.false)
    (sym c.is_spelled.ensures ∙ c.if-is_spelled.false) (sym c.is_spelled-2.ensures ∙ c.if-is_spelled-2.false)
    (sym c.is_spelled-3.ensures ∙ c.if-is_spelled-3.false) (sym c.is_spelled-4.ensures ∙ c.if-is_spelled-4.false))
