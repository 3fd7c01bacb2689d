use Rattle.std.proofs.Common.{◌≡◌, subst, List, Bool}
use Rattle.icu_locale.specs.LikelyTable.{likely}
use Rattle.icu_locale.specs.RuleSet.{lent}
use Rattle.icu_locale_core.specs.declared.langid.LanguageIdentifier.{LanguageIdentifier}
use Rattle.icu_locale_matching.specs.Header.{Wish, refuses_any, wants_any}
use Rattle.icu_locale_matching.specs.Nearest.{Matching}
use Rattle.icu_locale_matching.specs.Requests.{AreRequests, AreRefusals}
use Rattle.icu_locale_matching.specs.Service.{IsChoice, allowed}
use Rattle.icu_locale_matching.proofs.Choices.{if_ok}
use Rattle.icu_locale_matching.proofs.server.place_for.Goals as goal

pub returns : goal.returns
returns c =
    let l = likely c.args.rules.now.expander in
    let r = lent c.args.rules.now.rules in
    let h = c.args.header.now in
    let requests = c.in_ok-requests.requests.items in
    let out = c.in_ok-out.out.items in
    let canonical = c.args.served.now.candidates.identifiers.items in
    let over = c.over-matcher.ensures in
    let m : Matching = record { expander = c.args.rules.now.expander; matching = c.args.matching.now; limits = c.args.limits; available = canonical } in
    let same : c.over-matcher.result ≡ m = λ i. record {
      expander = over.expander i;
      matching = over.matching i;
      limits = over.limits i;
      available = over.available i;
    } in
    if_ok c.choice_without.result
    (λ place choice. record {
      requests = requests;
      requested = subst (λ (ws : List Wish). AreRequests l r ws requests) c.wanted.ensures c.in_ok-requests.ensures;
      out = out;
      taken_out = subst (λ (ws : List Wish). AreRefusals l r ws out) c.refused.ensures c.in_ok-out.ensures;
      canonical = canonical;
      canonicalized = c.requires.canonical;
      choice =
          subst (λ (n : Matching). IsChoice n requests (allowed requests out (refuses_any h) n.available) (wants_any h) place) same
          (subst (λ (any : Bool). IsChoice c.over-matcher.result requests (allowed requests out (refuses_any h) c.over-matcher.result.available) any place) c.wants_any.ensures
          (subst (λ (named : Bool). IsChoice c.over-matcher.result requests (allowed requests out named c.over-matcher.result.available) c.wants_any.result place)
          c.refuses_any.ensures
          (subst (λ (taken : List LanguageIdentifier). IsChoice c.over-matcher.result requests
          (allowed requests taken c.refuses_any.result c.over-matcher.result.available) c.wants_any.result place)
          c.deref-2.ensures.value
          (subst (λ (asked : List LanguageIdentifier). IsChoice c.over-matcher.result asked
          (allowed asked c.deref-2.result.now c.refuses_any.result c.over-matcher.result.available) c.wants_any.result place)
          c.deref.ensures.value choice))));
    })
    c.choice_without.ensures
