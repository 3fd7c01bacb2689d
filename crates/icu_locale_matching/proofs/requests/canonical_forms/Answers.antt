use Rattle.std.proofs.Common.{length, refl, sym, subst, List}
use Rattle.std.proofs.lemmas.Option.{slice_get_read}
use Rattle.icu_locale.specs.LikelyTable.{likely}
use Rattle.icu_locale.specs.RuleSet.{lent}
use Rattle.icu_locale_core.specs.declared.langid.LanguageIdentifier.{LanguageIdentifier}
use Rattle.icu_locale_matching.specs.Requests.{AreCanonical}
use Rattle.icu_locale_matching.proofs.Brought.{taken_more, canonical_more}
use Rattle.icu_locale_matching.proofs.requests.canonical_forms.Goals as goal

pub loop-id-preserved : goal.loop-id-preserved
loop-id-preserved c =
    let l = likely c.args.rules.now.expander in
    let r = lent c.args.rules.now.rules in
    let xs = c.args.identifiers.now in
    let i = c.loop-id.id-index in
    let stands = slice_get_read xs (length xs) i c.id-item.result refl c.loop-id-test.true c.id-item.is in
    let more = canonical_more l r _ _ c.id-item.result c.in_ok-canonical_form.field-0 c.loop-id.invariant c.in_ok-canonical_form.ensures.canonical in
    subst (λ (ys : List LanguageIdentifier). AreCanonical l r ys c.push.new.self.items) (sym (taken_more xs i c.id-item.result c.loop-id-test.true stands))
    (subst (AreCanonical l r _) (sym c.in_ok-push.ensures.items) more)
