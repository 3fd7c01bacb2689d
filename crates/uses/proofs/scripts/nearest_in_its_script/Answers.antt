use Rattle.std.proofs.Common.{◌≡◌, List, Some, length, refl, sym, subst, ◌∙◌}
use Rattle.std.specs.List.{slice_get}
use Rattle.std.proofs.lemmas.Bool.{ltb-true}
use Rattle.std.proofs.lemmas.Option.{slice_get_read}
use Rattle.icu_locale_core.specs.declared.langid.LanguageIdentifier.{LanguageIdentifier}
use Rattle.uses.proofs.scripts.nearest_in_its_script.Goals as goal

-- both were looked up, and have one script
pub returns-then-have_one_script : goal.returns-then-have_one_script
returns-then-have_one_script c =
    let found = c.in_ok-found.found in
    let request = c.in_ok-request in
    let identifier = c.in_ok-identifier in
    let requests = c.args.requests.now in
    let available = c.available.result.now in
    let offered = slice_get_read available (length available) found.available identifier.identifier.now refl
    (ltb-true found.available (length available) (sym identifier.ensures.lookup.0)) identifier.ensures.lookup.1 in
    record {
      request = request.request.now;
      identifier = identifier.identifier.now;
      requested = slice_get_read requests (length requests) found.request request.request.now refl
          (ltb-true found.request (length requests) (sym request.ensures.lookup.0)) request.ensures.lookup.1;
      offered = subst (λ (xs : List LanguageIdentifier). slice_get xs found.available ≡ Some identifier.identifier.now)
          (c.available.ensures ∙ c.over-matcher.ensures.available) offered;
      same = sym c.have_one_script.ensures ∙ c.if-have_one_script.true;
    }
