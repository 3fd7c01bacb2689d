-- What is near enough is looked at.
use Rattle.std.proofs.Common.{◌≡◌, ℕ, ◌≤◌, Bool, true, false, List, Option, Some, None, refl, ap, sym, ◌∙◌, ⊎_elim, arith}
use Rattle.std.specs.List.{filter, slice_get}
use Rattle.std.specs.Str.{bytes_eq}
use Rattle.std.proofs.lemmas.Bool.{false≢true}
use Rattle.std.proofs.lemmas.Option.{same_Some, slice_get_within}
use Rattle.std.proofs.lemmas.Slice.Eq.{bytes_eq-Decides}
use Rattle.icu_locale_core.specs.TextSet.{text_cmp}
use Rattle.icu_locale_core.specs.declared.langid.LanguageIdentifier.{LanguageIdentifier}
use Rattle.icu_locale_core.specs.Maps.{value_at}
use Rattle.icu_locale.specs.LikelyTable.{likely}
use Rattle.icu_locale_matching.specs.Distance.{Levels, distance, levels_of, share}
use Rattle.icu_locale_matching.specs.Nearest.{Question, demotion_at, form_of}
use Rattle.icu_locale_matching.specs.inner.Made.{candidate_of, candidates_of, has_language}
use Rattle.icu_locale_matching.specs.inner.Levels.{shown}
use Rattle.icu_locale_matching.specs.inner.Asked.{asked_of, IsAsked, IsOfferAt, Beats, BeatsEach, limit}
use Rattle.icu_locale_matching.specs.declared.candidates.Candidate.{Candidate}
use Rattle.icu_provider.specs.declared.matching.MatchRule.{MatchRule}
use Rattle.icu_provider.specs.declared.matching.MatchRules.{MatchRules}
use Rattle.icu_provider.specs.declared.matching.LanguageMatching.{LanguageMatching}
use Rattle.icu_locale_matching.specs.declared.rank.Rank.{Rank}
use Rattle.icu_locale_matching.specs.declared.search.Asked.{Asked}
use Rattle.icu_locale_matching.specs.declared.search.Search.{Search}
use Rattle.icu_locale_matching.proofs.Apart.{other_at_least, named_or_not}
use Rattle.icu_locale_matching.proofs.Groups.{row_at, filter_has}
use Rattle.icu_locale_matching.proofs.Ranks.{asked_distance, dear_beaten}

-- what beats each of some candidates beats an offer by one of them
pub each_beats : (q : Question) (i : ℕ) (part : List Candidate) (best : Option Rank) → BeatsEach q i part best
    → (k : ℕ) (c : Candidate) → slice_get part k ≡ Some c → (s : Rank) → IsOfferAt q i s → s.available ≡ c.place → Beats best s
each_beats q i part best beats k c is s o at = beats k c s (slice_get_within part k c is) is o at

same_other : (t : LanguageMatching) (found : Option MatchRules) → (levels_of t found).language.other ≡ t.other_language
same_other t None = refl
same_other t (Some r) = refl

other_way : (t u : List ℕ) (b : Bool) → b ≡ bytes_eq u t → bytes_eq t u ≡ false → b ≡ false
other_way t u true is differ = absurd (false≢true (sym differ ∙ (bytes_eq-Decides t u).1 (sym ((bytes_eq-Decides u t).0 (sym is)))))
other_way t u false is differ = refl

module _ (m : Search) (a : Asked) (known : IsAsked m a)
    (made : m.candidates.now.forms.items ≡ candidates_of (likely m.expander) m.matching.now m.candidates.now.identifiers.items) where
  -- the candidate of an offer
  pub offer_row : (s : Rank) (o : IsOfferAt (asked_of m a.requests.now) a.place s)
      → slice_get m.candidates.now.forms.items s.available ≡ Some (candidate_of (likely m.expander) m.matching.now s.available o.offer.identifier)
  offer_row s o = row_at (likely m.expander) m.matching.now m.candidates.now.identifiers.items m.candidates.now.forms.items made
      s.available o.offer.identifier o.offer.offered

  -- what is of no language that is looked at costs too much
  far_beaten : (best : Option Rank) → limit m.limits.threshold a.demoted best ≤ share m.limits.favor m.matching.now.other_language
      → (s : Rank) (o : IsOfferAt (asked_of m a.requests.now) a.place s)
      → bytes_eq (form_of (likely m.expander) o.offer.identifier).language a.form.language ≡ false
      → ((k : ℕ) (r : MatchRule) → slice_get a.levels.language.rules.now k ≡ Some r → r.language ≡ (form_of (likely m.expander) o.offer.identifier).language → ⊥)
      → Beats best s
  far_beaten best far s o differ none =
      let q = asked_of m a.requests.now in
      let y = o.offer.identifier in
      let d = form_of (likely m.expander) y in
      let least = other_at_least m.limits.favor (shown a.levels) a.form d (other_way d.language a.form.language _ refl differ) none in
      let other : share m.limits.favor a.levels.language.other ≡ share m.limits.favor m.matching.now.other_language = ap (λ (l : Levels). share m.limits.favor l.language.other) known.levels
      ∙ ap (share m.limits.favor) (same_other m.matching.now (value_at text_cmp m.matching.now.rules a.form.language)) in
      let is = asked_distance m a y d known refl in
      let request : a.request.now ≡ o.offer.request = same_Some _ _ (sym known.stands ∙ ap (slice_get a.requests.now) (sym o.at) ∙ o.offer.requested) in
      let asked = ap (λ (x : LanguageIdentifier). distance q.matching (form_of (likely m.expander) x) d) request in
      let limits = ap (λ n. limit m.limits.threshold n best) (known.demoted ∙ ap (demotion_at m.limits.demotion) (sym o.at)) in
      dear_beaten q best s o.offer (omega (arith, least, other, is, asked, limits, far))

  module _ (best : Option Rank) (far : limit m.limits.threshold a.demoted best ≤ share m.limits.favor m.matching.now.other_language)
      (own : BeatsEach (asked_of m a.requests.now) a.place (filter (has_language a.form.language) m.candidates.now.forms.items) best)
      (named : (k : ℕ) (r : MatchRule) → slice_get a.levels.language.rules.now k ≡ Some r
      → BeatsEach (asked_of m a.requests.now) a.place (filter (has_language r.language) m.candidates.now.forms.items) best) where
    by_language : (s : Rank) (o : IsOfferAt (asked_of m a.requests.now) a.place s) (b : Bool)
        → bytes_eq (form_of (likely m.expander) o.offer.identifier).language a.form.language ≡ b → Beats best s
    by_language s o true is =
        let forms = m.candidates.now.forms.items in
        let d = candidate_of (likely m.expander) m.matching.now s.available o.offer.identifier in
        let there = filter_has (has_language a.form.language) forms s.available d (offer_row s o) is in
        each_beats (asked_of m a.requests.now) a.place (filter (has_language a.form.language) forms) best own there.0 d there.1 s o refl
    by_language s o false is = ⊎_elim
        (λ rule.
        let forms = m.candidates.now.forms.items in
        let d = candidate_of (likely m.expander) m.matching.now s.available o.offer.identifier in
        let there = filter_has (has_language rule.rule.language) forms s.available d (offer_row s o)
        ((bytes_eq-Decides d.form.language rule.rule.language).1 (sym rule.names)) in
        each_beats (asked_of m a.requests.now) a.place (filter (has_language rule.rule.language) forms) best (named rule.place rule.rule rule.stands)
        there.0 d there.1 s o refl)
        (λ none. far_beaten best far s o is none)
        (named_or_not (form_of (likely m.expander) o.offer.identifier).language a.levels.language.rules.now)

    pub near_beats : (s : Rank) → IsOfferAt (asked_of m a.requests.now) a.place s → Beats best s
    near_beats s o = by_language s o _ refl
