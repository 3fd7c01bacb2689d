-- A candidate that another stands for is beaten with it.
use Rattle.std.proofs.Common.{◌≡◌, ◌⊎◌, ℕ, zero, suc, ◌<◌, ◌≤◌, ◌&&◌, Bool, true, false, List, [], ◌∷◌, map, max, length, Option, Some, None, refl, ap, sym, ◌∙◌, subst, inl, inr, ⊎_elim, arith, if◌then◌else◌}
use Rattle.std.specs.Prelude.{not}
use Rattle.std.specs.List.{All, filter, find, slice_get}
use Rattle.std.specs.Option.{option_eq, option_map, option_map_or}
use Rattle.std.specs.Ordering.{is_le}
use Rattle.std.specs.Str.{bytes_eq}
use Rattle.std.specs.Prelude.{Vec, is_some}
use Rattle.std.specs.Global.{Global}
use denote.Ref.{Bor}
use Rattle.std.proofs.lemmas.List.Elements.{All-same, All-filter}
use Rattle.std.proofs.lemmas.Bool.{false≢true}
use Rattle.std.proofs.lemmas.Option.{none-some, same_Some, slice_get_within, slice_get-get_or, get_or_from_slice_get}
use Rattle.icu_locale_core.specs.TextSet.{text_cmp}
use Rattle.icu_locale_core.specs.Maps.{value_at}
use Rattle.icu_locale_core.specs.laws.Identifiers.{same_parts, same_texts, identifiers_decide}
use Rattle.icu_locale_core.specs.declared.langid.LanguageIdentifier.{LanguageIdentifier}
use Rattle.icu_provider.specs.declared.data_locale.DataLocale.{DataLocale}
use Rattle.icu_provider.specs.declared.matching.MatchRule.{MatchRule}
use Rattle.icu_provider.specs.declared.matching.MatchRules.{MatchRules}
use Rattle.icu_provider.specs.declared.matching.LanguageMatching.{LanguageMatching}
use Rattle.icu_locale.specs.LikelySubtags.{LikelySubtags}
use Rattle.icu_locale.specs.LikelyTable.{likely}
use Rattle.icu_locale_matching.specs.Distance.{fits, fits_pattern, Level, Levels, Macros, is_macro, row_of, with_region, stands_for, level_distance, greatest, greatest_to, region_distance, distance, levels_for, levels_of, share}
use Rattle.icu_locale_matching.specs.inner.Leaders.{AreAlike, Leads, AreLeading}
use Rattle.icu_locale_matching.specs.inner.Made.{candidates_of, has_language}
use Rattle.icu_locale_matching.specs.Nearest.{form_of, rank_cmp, rank_of}
use Rattle.icu_locale_matching.specs.inner.Asked.{asked_of, IsAsked, IsOfferAt, IsRowOf, may_shown, Beats, BeatsEach, BeatsThere}
use Rattle.icu_locale_matching.specs.inner.Levels.{shown, distance_favoring}
use Rattle.icu_locale_matching.specs.declared.limits.FavorSubtag.{FavorSubtag}
use Rattle.icu_locale_matching.specs.declared.candidates.Candidate.{Candidate}
use Rattle.icu_locale_matching.specs.declared.rank.Rank.{Rank}
use Rattle.icu_locale_matching.specs.declared.search.Asked.{Asked}
use Rattle.icu_locale_matching.specs.declared.search.Search.{Search}
use Rattle.icu_locale_matching.proofs.Apart.{texts_tell, subtags_tell}
use Rattle.icu_locale_matching.proofs.Groups.{rows_known, filter_has}
use Rattle.icu_locale_matching.proofs.Near.{each_beats}
use Rattle.icu_locale_matching.proofs.Ranks.{asked_distance, beats_greater, is_this, le_in_each, this}

-- ---- forms that rules do not tell apart

find_alike : (p q : MatchRule → Bool) (rules : List MatchRule) → ((k : ℕ) (r : MatchRule) → slice_get rules k ≡ Some r → p r ≡ q r) → find p rules ≡ find q rules
find_alike p q [] same = refl
find_alike p q (r ∷ rules) same = (λ i. if same 0 r refl i then Some r else find p rules)
    ∙ (λ i. if q r then Some r else find_alike p q rules (λ k x is. same (suc k) x is) i)

level_alike : (level : Level) (d x y : DataLocale) → x.language ≡ y.language → AreAlike level.rules x y → level_distance level d x ≡ level_distance level d y
level_alike level d x y language alike = ap (λ o. option_map_or (λ (r : MatchRule). r.distance) o level.other)
    (find_alike (fits d x) (fits d y) level.rules (λ k r is i. bytes_eq (language i) r.language && (fits_pattern r.desired d && alike k r is i)))

no_row : (macros : Macros) (o : Option (List ℕ)) → is_macro macros o ≡ false → row_of macros o ≡ None
no_row macros None none = refl
no_row macros (Some r) none = by (value_at text_cmp macros r) none
  where
    by : (found : Option (Vec (List ℕ) Global)) → is_some found ≡ false → option_map (λ v. v.items) found ≡ None
    by None none = refl
    by (Some v) none = absurd (false≢true (sym none))

alone_here : (macros : Macros) (x : DataLocale) → is_macro macros x.region ≡ false → stands_for macros x ≡ x ∷ []
alone_here macros x none = ap (λ o. option_map_or (map (λ r. with_region x (Some r))) o (x ∷ [])) (no_row macros x.region none)

region_alike : (levels : Levels) (d x y : DataLocale) → x.language ≡ y.language → is_macro levels.macros x.region ≡ false → is_macro levels.macros y.region ≡ false
    → AreAlike levels.region.rules x y → region_distance levels d x ≡ region_distance levels d y
region_alike levels d x y language first second alike = λ i. greatest (map (λ z. each z i) (stands_for levels.macros d))
  where
    each : (z : DataLocale) → greatest_to levels z x ≡ greatest_to levels z y
    each z = ap (λ forms. greatest (map (level_distance levels.region z) forms)) (alone_here levels.macros x first)
        ∙ ap (λ n. max n 0) (level_alike levels.region z x y language alike)
        ∙ ap (λ forms. greatest (map (level_distance levels.region z) forms)) (sym (alone_here levels.macros y second))

part_upto : (b c : Bool) (m n : ℕ) → c ≡ false → m ≡ n → (if b then 0 else m) ≤ (if c then 0 else n)
part_upto true c m n other same = omega arith
part_upto false true m n other same = absurd (false≢true (sym other))
part_upto false false m n other same = omega (arith, same)

no_part : (b : Bool) (n : ℕ) → b ≡ true → (if b then 0 else n) ≡ 0
no_part true n same = refl
no_part false n same = absurd (false≢true same)

-- a request of their language without the region of the second is no farther from the first
no_farther : (favor : FavorSubtag) (levels : Levels) (d x y : DataLocale) → d.language ≡ y.language → x.language ≡ y.language → x.script ≡ y.script
    → is_macro levels.macros x.region ≡ false → is_macro levels.macros y.region ≡ false → AreAlike levels.script.rules x y → AreAlike levels.region.rules x y
    → option_eq bytes_eq d.region y.region ≡ false → distance_favoring favor levels d x ≤ distance_favoring favor levels d y
no_farther favor levels d x y own language script first second scripts regions other =
    let here = no_part (bytes_eq d.language x.language) (level_distance levels.language d x) ((texts_tell d.language x.language).1 (own ∙ sym language)) in
    let there = no_part (bytes_eq d.language y.language) (level_distance levels.language d y) ((texts_tell d.language y.language).1 own) in
    let languages = ap (share favor) (here ∙ sym there) in
    let middle : (if option_eq bytes_eq d.script x.script then 0 else level_distance levels.script d x)
    ≡ (if option_eq bytes_eq d.script y.script then 0 else level_distance levels.script d y) =
    (λ i. if option_eq bytes_eq d.script (script i) then 0 else level_alike levels.script d x y language scripts i) in
    let last = part_upto (option_eq bytes_eq d.region x.region) (option_eq bytes_eq d.region y.region) (region_distance levels d x) (region_distance levels d y)
    other (region_alike levels d x y language first second regions) in
    omega (arith, languages, middle, last)

-- ---- members

passed : (b : Bool) (x c : Candidate) (rest : List Candidate) (k : ℕ) → slice_get (if b then x ∷ rest else rest) k ≡ Some c
    → ((b ≡ true) × (x ≡ c)) ⊎ ((l : ℕ) × (slice_get rest l ≡ Some c))
passed true x c rest zero is = inl (refl, same_Some x c is)
passed true x c rest (suc k) is = inr (k, is)
passed false x c rest k is = inr (k, is)

-- what is among what passes is there, and passes
pub filter_from : (p : Candidate → Bool) (xs : List Candidate) (k : ℕ) (c : Candidate) → slice_get (filter p xs) k ≡ Some c
    → (l : ℕ) × (slice_get xs l ≡ Some c) × (p c ≡ true)
filter_from p [] k c is = absurd (none-some c is)
filter_from p (x ∷ xs) k c is = ⊎_elim
    (λ first. (0, ap Some first.1, ap p (sym first.1) ∙ first.0))
    (λ later. let rest = filter_from p xs later.0 c later.1 in (suc rest.0, rest.1, rest.2))
    (passed (p x) x c (filter p xs) k is)

-- each candidate stands for its own
pub row_of_form : (likely : LikelySubtags) (t : LanguageMatching) (xs : List LanguageIdentifier) (forms : List Candidate) → forms ≡ candidates_of likely t xs
    → (k : ℕ) (c : Candidate) → slice_get forms k ≡ Some c → IsRowOf likely t xs c
row_of_form likely t xs forms made k c is = subst (IsRowOf likely t xs) (get_or_from_slice_get forms k c c is)
    (rows_known likely t xs forms made k c (slice_get_within forms k c is))

-- so does each that leads
pub leading_known : (likely : LikelySubtags) (t : LanguageMatching) (xs : List LanguageIdentifier) (forms leading : List Candidate) (n : ℕ)
    → forms ≡ candidates_of likely t xs → AreLeading t xs forms n leading → All (IsRowOf likely t xs) leading
leading_known likely t xs forms leading n made known k d within =
    let there = known.among k _ (slice_get-get_or leading k d within) in
    row_of_form likely t xs forms made there.0 _ there.1

pub leading_part : (likely : LikelySubtags) (t : LanguageMatching) (xs : List LanguageIdentifier) (forms leading part : List Candidate) (l : List ℕ)
    → forms ≡ candidates_of likely t xs → AreLeading t xs forms (length forms) leading → part ≡ filter (has_language l) leading → All (IsRowOf likely t xs) part
leading_part likely t xs forms leading part l made known is = All-same (IsRowOf likely t xs) part (filter (has_language l) leading) is
    (All-filter (has_language l) (IsRowOf likely t xs) leading (leading_known likely t xs forms leading (length forms) made known))

-- where no list restricts places, each may be served
pub all_shown : (may : Option (Bor (List Bool))) → is_some may ≡ false → (j : ℕ) → may_shown may j ≡ true
all_shown None none = λ j. refl
all_shown (Some list) none = absurd (false≢true (sym none))

-- ---- what is led is beaten

same_macros : (t : LanguageMatching) (found : Option MatchRules) → (levels_of t found).macros ≡ t.macros
same_macros t None = refl
same_macros t (Some r) = refl

unmarked : (b : Bool) → (b ≡ true → ⊥) → not b ≡ true
unmarked true never = absurd (never refl)
unmarked false never = refl

module _ (m : Search) (a : Asked) (known : IsAsked m a) (all : (j : ℕ) → (asked_of m a.requests.now).may j ≡ true) where
  plain_region : (c : Candidate) → IsRowOf (likely m.expander) m.matching.now m.candidates.now.identifiers.items c → c.is_macro ≡ false
      → is_macro (shown a.levels).macros c.form.region ≡ false
  plain_region c row plain =
      let t = m.matching.now in
      ap (λ (l : Levels). is_macro l.macros c.form.region) known.levels
      ∙ ap (λ (ms : Macros). is_macro ms c.form.region) (same_macros t (value_at text_cmp t.rules a.form.language))
      ∙ ap (λ (e : Candidate). is_macro t.macros e.form.region) row.is
      ∙ sym (ap (λ (e : Candidate). e.is_macro) row.is) ∙ plain

  -- an offer by a candidate that another stands for
  led_beaten : (l c : Candidate) (best : Option Rank) (s : Rank)
      → (lrow : IsRowOf (likely m.expander) m.matching.now m.candidates.now.identifiers.items l)
      → (crow : IsRowOf (likely m.expander) m.matching.now m.candidates.now.identifiers.items c)
      → Leads m.matching.now m.candidates.now.identifiers.items l c → c.form.language ≡ a.form.language
      → option_eq bytes_eq a.form.region c.form.region ≡ false
      → (o : IsOfferAt (asked_of m a.requests.now) a.place s) → s.available ≡ c.place
      → ((r : Rank) → IsOfferAt (asked_of m a.requests.now) a.place r → r.available ≡ l.place → Beats best r) → Beats best s
  led_beaten l c best s lrow crow led own other o at beats =
      let q = asked_of m a.requests.now in
      let x = a.request.now in
      let y = lrow.identifier in
      let z = crow.identifier in
      let lform : l.form ≡ form_of (likely m.expander) y = ap (λ (e : Candidate). e.form) lrow.is in
      let cform : c.form ≡ form_of (likely m.expander) z = ap (λ (e : Candidate). e.form) crow.is in
      let levels : levels_for m.matching.now c.form.language ≡ shown a.levels = ap (levels_for m.matching.now) own ∙ sym known.levels in
      let near = no_farther m.limits.favor (shown a.levels) a.form l.form c.form (sym own) led.language led.script
      (plain_region l lrow led.leader) (plain_region c crow led.led)
      (subst (λ (v : Levels). AreAlike v.script.rules l.form c.form) levels led.scripts)
      (subst (λ (v : Levels). AreAlike v.region.rules l.form c.form) levels led.regions) other in
      let upto : distance q.matching (form_of q.likely x) (form_of q.likely y) ≤ distance q.matching (form_of q.likely x) (form_of q.likely z) =
      omega (arith, asked_distance m a y l.form known lform, asked_distance m a z c.form known cform, near) in
      let same_x : o.offer.request ≡ x = same_Some _ _ (sym o.offer.requested ∙ ap (slice_get q.requests) o.at ∙ known.stands) in
      let same_z : o.offer.identifier ≡ z = same_Some _ _ (sym o.offer.offered ∙ ap (slice_get q.available) at ∙ crow.offered) in
      let below : distance q.matching (form_of q.likely x) (form_of q.likely z) < q.limits.threshold = subst (λ n. n < q.limits.threshold)
      (λ k. distance q.matching (form_of q.likely (same_x k)) (form_of q.likely (same_z k))) o.offer.below in
      let r = rank_of q a.place x l.place y in
      let t = rank_of q a.place x c.place z in
      let offer = this q a.place l.place x y known.stands lrow.offered (all l.place) (omega (arith, upto, below)) in
      let spelled : t.spelled_otherwise ≡ true = unmarked (same_parts x z) (λ e.
      let form : a.form ≡ c.form = known.form ∙ ap (form_of (likely m.expander)) ((identifiers_decide x z).0 e) ∙ sym cform in
      false≢true (sym other ∙ (subtags_tell a.form.region c.form.region).1 (ap (λ (f : DataLocale). f.region) form))) in
      let variants : y.variants ≡ z.variants = led.variants y z lrow.offered crow.offered in
      let least : is_le (rank_cmp r t) ≡ true = le_in_each r t (omega (arith, upto)) (omega arith) (λ _. spelled)
      (λ v. ap (λ w. not (same_texts x.variants w)) (sym variants) ∙ v)
      (omega (arith, led.likely, ap (λ (e : Candidate). e.unlikeliness) lrow.is, ap (λ (e : Candidate). e.unlikeliness) crow.is))
      (λ v. sym (ap (λ (e : Candidate). e.off_paradigm) crow.is) ∙ led.paradigm (ap (λ (e : Candidate). e.off_paradigm) lrow.is ∙ v))
      led.place in
      subst (Beats best) (sym (is_this q a.place c.place x z known.stands crow.offered s o at))
      (beats_greater best r t (beats r offer refl) least)

  module _ (made : m.candidates.now.forms.items ≡ candidates_of (likely m.expander) m.matching.now m.candidates.now.identifiers.items)
      (leading : List Candidate)
      (leads : AreLeading m.matching.now m.candidates.now.identifiers.items m.candidates.now.forms.items (length m.candidates.now.forms.items) leading)
      (best : Option Rank)
      (beaten : BeatsEach (asked_of m a.requests.now) a.place (filter (has_language a.form.language) leading) best) where
    by_leader : (c : Candidate) (s : Rank) (k : ℕ) → slice_get m.candidates.now.forms.items k ≡ Some c → c.form.language ≡ a.form.language
        → option_eq bytes_eq a.form.region c.form.region ≡ false
        → (o : IsOfferAt (asked_of m a.requests.now) a.place s) → s.available ≡ c.place → Beats best s
    by_leader c s k is own other o at =
        let q = asked_of m a.requests.now in
        let t = m.matching.now in
        let xs = m.candidates.now.identifiers.items in
        let forms = m.candidates.now.forms.items in
        let part = filter (has_language a.form.language) leading in
        let has = leads.each k c (slice_get_within forms k c is) is in
        let l = has.leader in
        let stands = leads.among has.at l has.stands in
        let here : (l.form.language ≡ a.form.language) → (r : Rank) → IsOfferAt q a.place r → r.available ≡ l.place → Beats best r =
        λ language r p there.
        let at_l = filter_has (has_language a.form.language) leading has.at l has.stands ((texts_tell l.form.language a.form.language).1 language) in
        each_beats q a.place part best beaten at_l.0 l at_l.1 r p there in
        ⊎_elim
        (λ same. here (ap (λ (e : Candidate). e.form.language) same ∙ own) s o (at ∙ ap (λ (e : Candidate). e.place) (sym same)))
        (λ led. led_beaten l c best s (row_of_form (likely m.expander) t xs forms made stands.0 l stands.1)
        (row_of_form (likely m.expander) t xs forms made k c is) led own other o at (here (led.language ∙ own)))
        has.leads

    module _ (there : BeatsThere (asked_of m a.requests.now) a.place a.form.region (filter (has_language a.form.language) m.candidates.now.forms.items)
        (length (filter (has_language a.form.language) m.candidates.now.forms.items)) best) where
      by_region : (k : ℕ) (c : Candidate) (s : Rank) (b : Bool) → option_eq bytes_eq a.form.region c.form.region ≡ b
          → k < length (filter (has_language a.form.language) m.candidates.now.forms.items)
          → slice_get (filter (has_language a.form.language) m.candidates.now.forms.items) k ≡ Some c
          → (o : IsOfferAt (asked_of m a.requests.now) a.place s) → s.available ≡ c.place → Beats best s
      by_region k c s true same within is o at = there k c s within is (sym ((subtags_tell a.form.region c.form.region).0 same)) o at
      by_region k c s false other within is o at =
          let from = filter_from (has_language a.form.language) m.candidates.now.forms.items k c is in
          by_leader c s from.0 from.1 ((texts_tell c.form.language a.form.language).0 from.2) other o at

      -- those that lead, and those that have the region of the request, are enough
      pub leaders_enough : BeatsEach (asked_of m a.requests.now) a.place (filter (has_language a.form.language) m.candidates.now.forms.items) best
      leaders_enough = λ k c s within is o at. by_region k c s (option_eq bytes_eq a.form.region c.form.region) refl within is o at
