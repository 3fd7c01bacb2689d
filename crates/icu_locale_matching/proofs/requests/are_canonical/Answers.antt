use Rattle.std.proofs.Common.{◌≡◌, None, refl, sym, ap, ◌∙◌, subst, length, arith, ⊎_elim}
use Rattle.std.specs.List.{slice_get}
use Rattle.std.proofs.lemmas.Bool.{cases_lt}
use Rattle.std.proofs.lemmas.Option.{slice_get_read, slice_get_within, same_Some}
use Rattle.icu_locale_core.specs.declared.langid.LanguageIdentifier.{LanguageIdentifier}
use Rattle.icu_locale.specs.Kinds.{next}
use Rattle.icu_locale.specs.LikelyTable.{likely}
use Rattle.icu_locale.specs.RuleSet.{lent}
use Rattle.icu_locale_matching.proofs.Brought.{canonical_as_they_are}
use Rattle.icu_locale_matching.proofs.requests.are_canonical.Goals as goal

-- one more identifier
pub loop-id-preserved : goal.loop-id-preserved
loop-id-preserved c = λ k x upto is. ⊎_elim
    (λ earlier. c.loop-id.invariant k x earlier is)
    (λ later.
    let ids = c.args.identifiers.now in
    let n = c.loop-id.id-index in
    let item = c.id-item.result in
    let stands = slice_get_read ids (length ids) n item refl c.loop-id-test.true c.id-item.is in
    let same : k ≡ n = omega (arith, upto, later) in
    let one : item ≡ x = same_Some _ _ (sym stands ∙ ap (slice_get ids) (sym same) ∙ is) in
    subst (λ (y : LanguageIdentifier). next (likely c.args.rules.now.expander) (lent c.args.rules.now.rules) y ≡ None) one
    (c.is_canonical.ensures.0 c.if-not-is_canonical.false))
    (cases_lt k c.loop-id.id-index)

pub returns : goal.returns
returns c = λ _. canonical_as_they_are (likely c.args.rules.now.expander) (lent c.args.rules.now.rules) c.args.identifiers.now (λ k x is. c.loop-id.invariant k x
    (let within = slice_get_within c.args.identifiers.now k x is in omega (arith, within)) is)
