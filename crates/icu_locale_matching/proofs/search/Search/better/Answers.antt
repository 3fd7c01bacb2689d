use Rattle.std.proofs.Common.{List, ◌≡◌, ◌+◌, ◌<◌, ◌≤◌, Some, sym, ap, ◌∙◌, subst, arith}
use Rattle.icu_locale_matching.specs.declared.candidates.Candidate.{Candidate}
use Rattle.std.proofs.lemmas.Bool.{false≢true}
use Rattle.std.proofs.lemmas.Option.{same_Some}
use Rattle.icu_locale.specs.LikelyTable.{likely}
use Rattle.icu_provider.specs.declared.data_locale.DataLocale.{DataLocale}
use Rattle.icu_provider.specs.declared.matching.MatchRule.{MatchRule}
use Rattle.icu_locale_matching.specs.Distance.{Levels, distance, levels_for}
use Rattle.icu_locale_matching.specs.inner.Known.{serving_of}
use Rattle.icu_locale_matching.specs.inner.Known.{AreServing}
use Rattle.icu_locale_matching.specs.Nearest.{demotion_at, form_of, rank_at, rank_of}
use Rattle.icu_locale_matching.specs.inner.Asked.{asked_of, limit, lesser, Improves, Beats}
use Rattle.icu_locale_matching.proofs.Ranks.{demoted_small, limit_within, asked_distance, improves_itself, pair_beaten, lesser_improves, lesser_beats}
use Rattle.icu_locale_matching.proofs.search.Search.better.Goals as goal

-- the place may not be served
pub returns-then-not-may_serve : goal.returns-then-not-may_serve
returns-then-not-may_serve c =
    let q = asked_of c.args.self.now c.args.asked.now.requests.now in
    record {
      improves = improves_itself q c.args.asked.now.place c.args.best;
      beats = λ s o at. absurd (false≢true (sym c.if-not-may_serve.true ∙ c.may_serve.ensures ∙ ap q.may (sym at) ∙ o.offer.may));
    }

-- the pair costs too much
pub returns-in-None : goal.returns-in-None
returns-in-None c =
    let m = c.args.self.now in
    let a = c.args.asked.now in
    let d = c.args.candidate.now in
    let q = asked_of m a.requests.now in
    let y = c.requires.row.identifier in
    let is = asked_distance m a y d.form c.requires.asked (ap (λ (e : Candidate). e.form) c.requires.row.is) in
    let limits = c.limit-limit.ensures.value ∙ ap (λ n. limit q.limits.threshold n c.args.best) c.requires.asked.demoted in
    let dear : limit q.limits.threshold (demotion_at q.limits.demotion a.place) c.args.best
    ≤ distance q.matching (form_of q.likely a.request.now) (form_of q.likely y) = omega (arith, is, c.in-None.ensures, limits) in
    record {
      improves = improves_itself q a.place c.args.best;
      beats = pair_beaten q a.place d.place a.request.now y c.requires.asked.stands c.requires.row.offered (sym c.may_serve.ensures ∙ c.if-not-may_serve.false) c.args.best dear;
    }

-- the lesser of the best and the pair
pub returns-in-Some : goal.returns-in-Some
returns-in-Some c =
    let m = c.args.self.now in
    let a = c.args.asked.now in
    let d = c.args.candidate.now in
    let q = asked_of m a.requests.now in
    let r = c.rank.ensures in
    let may = sym c.may_serve.ensures ∙ c.if-not-may_serve.false in
    let y = r.identifier in
    let same : c.requires.row.identifier ≡ y = same_Some _ _ (sym c.requires.row.offered ∙ r.offered) in
    let is = asked_distance m a y d.form c.requires.asked (ap (λ (e : Candidate). e.form) c.requires.row.is ∙ ap (form_of (likely m.expander)) same) in
    let near = c.in-Some.ensures in
    let cost : c.in-Some.distance + a.demoted ≡ (rank_of q a.place a.request.now d.place y).cost = omega
    (arith, is, c.requires.asked.demoted, near.0) in
    let below : distance q.matching (form_of q.likely a.request.now) (form_of q.likely y) < q.limits.threshold = omega
    (arith, is, near.0, near.1, limit_within q.limits.threshold a.demoted c.args.best, c.limit-limit.ensures.value) in
    let all : c.lesser.result ≡ lesser c.args.best (rank_of q a.place a.request.now d.place y) = c.lesser.ensures ∙ ap (lesser c.args.best)
    (r.is ∙ ap (λ cost. rank_at q cost a.place a.request.now d.place y) cost) in
    record {
      improves = subst (λ t. Improves q a.place c.args.best (Some t)) (sym all)
          (lesser_improves q a.place d.place a.request.now y c.requires.asked.stands r.offered may c.args.best below);
      beats = λ s o at. subst (λ t. Beats (Some t) s) (sym all)
          (lesser_beats q a.place d.place a.request.now y c.requires.asked.stands r.offered may c.args.best s o at);
    }

-- what serves is that of its own language
pub distance_below-requires-clause-serving : goal.distance_below-requires-clause-serving
distance_below-requires-clause-serving c =
    let m = c.args.self.now in
    let a = c.args.asked.now in
    let d = c.args.candidate.now in
    let t = m.matching.now in
    let form = ap (λ (e : Candidate). e.form) c.requires.row.is in
    let marked : d.serving ≡ serving_of (levels_for t d.form.language).region.rules d.form =
    ap (λ (e : Candidate). e.serving) c.requires.row.is
    ∙ ap (λ (x : DataLocale). serving_of (levels_for t x.language).region.rules x) (sym form) in
    let rules : a.levels.region.rules.now ≡ (levels_for t a.form.language).region.rules = ap (λ (l : Levels). l.region.rules) c.requires.asked.levels in
    subst (λ (rs : List MatchRule). AreServing rs d.form c.serving_for-serving.result.now) (sym rules) (c.serving_for-serving.ensures t marked)

-- a distance below the limit and a demotion are small
pub rank-requires-clause-fits : goal.rank-requires-clause-fits
rank-requires-clause-fits c =
    let a = c.args.asked.now in
    omega (arith, c.in-Some.ensures.0, c.in-Some.ensures.1, c.limit-limit.ensures.small, c.requires.asked.demoted, demoted_small c.args.self.now.limits.demotion a.place)
