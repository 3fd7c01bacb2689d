-- Match rules with the same rows measure alike.
use Rattle.std.proofs.Common.{◌≡◌, ℕ, ◌+◌, ◌<◌, List, [], ◌∷◌, map, Option, Some, None, refl, ap, sym, subst, ◌∙◌, option_map}
use Rattle.std.specs.Prelude.{Vec, not, if◌then◌else◌}
use Rattle.std.specs.Global.{Global}
use Rattle.std.specs.Option.{option_eq, option_map_or}
use Rattle.std.specs.Str.{bytes_eq}
use Rattle.std.specs.BTreeMap.{is_at}
use Rattle.std.proofs.lemmas.List.{length-map, with_items_is}
use Rattle.std.proofs.lemmas.Map.Made.{lookup-map_values}
use Rattle.icu_locale_core.specs.Maps.{value_at}
use Rattle.icu_locale_core.specs.TextSet.{text_cmp}
use Rattle.icu_locale_core.specs.declared.langid.LanguageIdentifier.{LanguageIdentifier}
use Rattle.icu_locale_core.specs.laws.Identifiers.{same_parts, same_texts}
use Rattle.icu_locale.specs.LikelySubtags.{maximal_locale}
use Rattle.icu_locale_matching.specs.Distance.{distance, distance_by, favored, favored_rules, greatest, level_distance, levels_of, quartered, row_of, share, with_quarters, with_region}
use Rattle.icu_locale_matching.specs.Nearest.{IsLeastOf, IsNearest, IsOffer, Question, demotion_at, form_of, is_among, rank_of, unlikeliness}
use Rattle.icu_locale_matching.specs.declared.limits.FavorSubtag.{FavorSubtag}
use Rattle.icu_locale_matching.specs.declared.limits.FavorSubtag.TheVariants.{Language, Script}
use Rattle.icu_locale_matching.specs.declared.matcher.Match.{Match}
use Rattle.icu_locale_matching.specs.declared.rank.Rank.{Rank}
use Rattle.icu_provider.specs.declared.data_locale.DataLocale.{DataLocale}
use Rattle.icu_provider.specs.declared.matching.LanguageMatching.{LanguageMatching}
use Rattle.icu_provider.specs.declared.matching.MatchRules.{MatchRules}
use Rattle.icu_tables.specs.Rows.{seen_rows}
use Rattle.icu_tables.specs.Supplement.{RuleRows, matching_rows, rule_rows}

abbrev pub Regions : Type 0
Regions = Vec (List ℕ) Global

-- what is seen of the row at a key
seen_at : {V W : Type 0} (seen : V → W) (rows others : List (List ℕ × V)) → seen_rows seen rows ≡ seen_rows seen others → (key : List ℕ)
    → option_map seen (value_at text_cmp rows key) ≡ option_map seen (value_at text_cmp others key)
seen_at seen rows others same key = sym (lookup-map_values seen (is_at (text_cmp key)) rows) ∙ ap (λ xs. value_at text_cmp xs key) same
    ∙ lookup-map_values seen (is_at (text_cmp key)) others

-- ---- the distance

-- the forms that a form stands for by what a region's row has
abbrev pub stands_by : (Option (List ℕ) → Option (List (List ℕ))) → DataLocale → List DataLocale
stands_by rows x = option_map_or (map (λ r. with_region x (Some r))) (rows x.region) (x ∷ [])

abbrev pub distance_over : RuleRows → (ℕ × ℕ × ℕ) → (Option (List ℕ) → Option (List (List ℕ))) → DataLocale → DataLocale → ℕ
distance_over rules others rows d s =
    (if bytes_eq d.language s.language then 0 else level_distance (record { rules = rules.language; other = others.0 }) d s)
    + (if option_eq bytes_eq d.script s.script then 0 else level_distance (record { rules = rules.script; other = others.1 }) d s)
    + (if option_eq bytes_eq d.region s.region then 0 else greatest (map (λ x. greatest (map
    (level_distance (record { rules = rules.region; other = others.2 }) x) (stands_by rows s))) (stands_by rows d)))

abbrev pub no_rules : RuleRows
no_rules = record { language = []; script = []; region = [] }

abbrev pub rules_or_none : Option RuleRows → RuleRows
rules_or_none None = no_rules
rules_or_none (Some rules) = rules

module _ (t u : LanguageMatching) (same : matching_rows t ≡ matching_rows u) where
  region_rows_alike : (region : Option (List ℕ)) → row_of t.macros region ≡ row_of u.macros region
  region_rows_alike None = refl
  region_rows_alike (Some r) = seen_at (λ (v : Regions). v.items) t.macros u.macros (λ i. (same i).macros) r

  -- the distance by what is seen of rules
  by_rows : (m : LanguageMatching) (o : Option MatchRules) (d s : DataLocale) → distance_by (levels_of m o) d s
      ≡ distance_over (rules_or_none (option_map rule_rows o)) (m.other_language, m.other_script, m.other_region) (row_of m.macros) d s
  by_rows m None d s = refl
  by_rows m (Some rules) d s = refl

  pub distance_alike : (d s : DataLocale) → distance t d s ≡ distance u d s
  distance_alike d s =
      let rules = seen_at rule_rows t.rules u.rules (λ i. (same i).rules) d.language in
      by_rows t (value_at text_cmp t.rules d.language) d s
      ∙ (λ i. distance_over (rules_or_none (rules i)) (same i).others (λ o. region_rows_alike o i) d s)
      ∙ sym (by_rows u (value_at text_cmp u.rules d.language) d s)

-- ---- what is favored

quarters_seen : (r : MatchRules) → rule_rows (with_quarters r)
    ≡ record { language = map quartered r.language.items; script = r.script.items; region = r.region.items }
quarters_seen r = λ i. record {
  language = with_items_is r.language (map quartered r.language.items) (length-map r.language.items quartered ∙ sym r.language.ok.0) i;
  script = r.script.items;
  region = r.region.items;
}

abbrev pub quarters_of : RuleRows → RuleRows
quarters_of rows = record { language = map quartered rows.language; script = rows.script; region = rows.region }

favored_seen : (rows : List (List ℕ × MatchRules)) → seen_rows rule_rows (favored_rules Script rows)
    ≡ map (λ row. (row.0, quarters_of row.1)) (seen_rows rule_rows rows)
favored_seen [] = refl
favored_seen (row ∷ rows) = λ i. (row.0, quarters_seen row.1 i) ∷ favored_seen rows i

pub favored_alike : (favor : FavorSubtag) (t u : LanguageMatching) → matching_rows t ≡ matching_rows u
    → matching_rows (favored favor t) ≡ matching_rows (favored favor u)
favored_alike Language t u same = same
favored_alike Script t u same =
    let rules = favored_seen t.rules ∙ (λ i. map (λ row. (row.0, quarters_of row.1)) (same i).rules) ∙ sym (favored_seen u.rules) in
    λ i. record {
      others = (share Script ((same i).others.0), (same i).others.1, (same i).others.2);
      macros = (same i).macros;
      paradigms = (same i).paradigms;
      rules = rules i;
    }

-- ---- the nearest

abbrev pub over : Question → LanguageMatching → Question
over q t = record q { matching = t }

module _ (q : Question) (t u : LanguageMatching) (same : matching_rows t ≡ matching_rows u) where
  rank_alike : (i : ℕ) (x : LanguageIdentifier) (j : ℕ) (y : LanguageIdentifier) → rank_of (over q t) i x j y ≡ rank_of (over q u) i x j y
  rank_alike i x j y = λ k. record {
    cost = distance_alike t u same (form_of q.likely x) (form_of q.likely y) k + demotion_at q.limits.demotion i;
    request = i;
    spelled_otherwise = not (same_parts x y);
    varied = not (same_texts x.variants y.variants);
    unlikeliness = unlikeliness q.likely (form_of q.likely y);
    off_paradigm = not (is_among (map (maximal_locale q.likely) (same k).paradigms) (form_of q.likely y));
    available = j;
  }

  offer_alike : (r : Rank) → IsOffer (over q t) r → IsOffer (over q u) r
  offer_alike r h = record {
    request = h.request;
    identifier = h.identifier;
    requested = h.requested;
    offered = h.offered;
    is = h.is ∙ rank_alike r.request h.request r.available h.identifier;
    below = subst (λ n. n < q.limits.threshold) (distance_alike t u same (form_of q.likely h.request) (form_of q.likely h.identifier)) h.below;
    may = h.may;
  }

module _ (q : Question) (t u : LanguageMatching) (same : matching_rows t ≡ matching_rows u) where
  least_alike : (best : Option Rank) → IsLeastOf (IsOffer (over q t)) best → IsLeastOf (IsOffer (over q u)) best
  least_alike None none = λ r is. none r (offer_alike q u t (sym same) r is)
  least_alike (Some b) (is, least) = (offer_alike q t u same b is, λ r other. least r (offer_alike q u t (sym same) r other))

  pub nearest_over_alike : (found : Option Match) → IsNearest (over q t) found → IsNearest (over q u) found
  nearest_over_alike found h = record { best = h.best; least = least_alike h.best h.least; is = h.is }
