-- A negotiator finds the first available identifier with the maximal form of a request.
use Rattle.std.proofs.Common.{◌≡◌, ◌↔◌, ℕ, ◌+◌, ◌<◌, ◌≤◌, List, [], ◌∷◌, ◌++◌, length, get_or, Option, Some, None, refl, ap, sym, ◌∙◌, subst, inl}
use Rattle.std.proofs.Common.{inr, ⊎_elim, arith}
use Rattle.std.specs.List.{All, AllWithin, Contains, slice_get}
use Rattle.std.specs.List.Sorted.{IsPermutation, IsSorted}
use Rattle.std.proofs.lemmas.Bool.{false≢true, cases_lt}
use Rattle.std.proofs.lemmas.List.{length_push, get_or_push, get_or_append_left, get_or_default, get_or_read}
use Rattle.std.proofs.lemmas.List.Elements.{All-contains, All-push, AllWithin-more, Contains-get_or}
use Rattle.std.proofs.lemmas.List.Sorted.{All-permutation, Contains-permutation}
use Rattle.std.proofs.lemmas.Option.{same_Some, slice_get_read, slice_get_within}
use Rattle.icu_locale_core.specs.Identifier.{IsIdentifier}
use Rattle.icu_locale_core.specs.TextSet.{TextSet}
use Rattle.icu_locale_core.specs.laws.TextSets.{contains-empty}
use Rattle.icu_locale_core.specs.declared.langid.LanguageIdentifier.{LanguageIdentifier}
use Rattle.icu_provider.specs.declared.data_locale.DataLocale.{DataLocale}
use Rattle.icu_locale.specs.LikelySubtags.{LikelySubtags, subtags_of, maximal, HaveSameMaximalParts, IsSettled, AreSettled}
use Rattle.icu_locale.specs.Minimal.{IsMinimalForm}
use Rattle.icu_locale.specs.Negotiation.{IsMatch, IsFirstMatch}
use Rattle.icu_locale.specs.declared.expander.Favor.{Favor}
use Rattle.icu_locale.specs.declared.expander.Favor.TheVariants.{RegionFirst}
use Rattle.icu_locale.specs.declared.negotiator.available.Row.{Row}
use Rattle.icu_locale.specs.Index.{without_variants, IsPlainForm, row_cmp, IsRowOf, IsIndex}
use Rattle.icu_locale.specs.inner.Index.{AreListed, IsPartOf, HasVariants, IsFirstRow, MeansAt, IsFirstPlace}

-- ---- what the laws say

-- minimal forms are equal exactly where maximal forms are
abbrev pub TellsApart : Type 0
TellsApart = (favor : Favor) (table : LikelySubtags) (x y u v : LanguageIdentifier) → IsSettled table (maximal table x)
    → IsSettled table (maximal table y) → IsMinimalForm favor table x u → IsMinimalForm favor table y v → (u ≡ v) ↔ (maximal table x ≡ maximal table y)

-- maximal forms are equal exactly where their parts are
abbrev pub GoesByParts : Type 0
GoesByParts = (table : LikelySubtags) (x y : LanguageIdentifier) → (maximal table x ≡ maximal table y) ↔ HaveSameMaximalParts table x y

-- ---- identifiers without their variants

plain_is_identifier : (x : LanguageIdentifier) → IsIdentifier x → IsIdentifier (without_variants (subtags_of x))
plain_is_identifier x known = record {
  language = known.language;
  script = known.script;
  region = known.region;
  variants = λ v here. absurd (false≢true (sym (contains-empty v) ∙ here));
}

-- two identifiers have equal maximal forms exactly where, variants aside, their minimal forms are equal, and their
-- variants are
module _ (tells : TellsApart) (by_parts : GoesByParts) (likely : LikelySubtags) (settled : AreSettled likely) (x y : LanguageIdentifier)
    (d e : DataLocale) (known_x : IsIdentifier x) (known_y : IsIdentifier y) (form_x : IsPlainForm likely x d) (form_y : IsPlainForm likely y e) where
  abbrev px : LanguageIdentifier
  px = without_variants (subtags_of x)

  abbrev py : LanguageIdentifier
  py = without_variants (subtags_of y)

  apart : (without_variants d ≡ without_variants e) ↔ (maximal likely px ≡ maximal likely py)
  apart = tells RegionFirst likely px py (without_variants d) (without_variants e) (settled px (plain_is_identifier x known_x))
      (settled py (plain_is_identifier y known_y)) form_x form_y

  pub same_maximal_form : d ≡ e → x.variants ≡ y.variants → maximal likely x ≡ maximal likely y
  same_maximal_form same variants =
      let parts = (by_parts likely px py).0 (apart.0 (ap without_variants same)) in
      (by_parts likely x y).1 (record { locale = parts.locale; variants = variants })

  pub same_plain_form : maximal likely x ≡ maximal likely y → (d ≡ e) × (x.variants ≡ y.variants)
  same_plain_form same =
      let parts = (by_parts likely x y).0 same in (
        ap subtags_of (apart.1 ((by_parts likely px py).1 (record { locale = parts.locale; variants = refl }))),
        parts.variants,
      )

-- ---- the rows

module _ (likely : LikelySubtags) (available : List LanguageIdentifier) where
  -- one more row
  pub AreListed-push : (n : ℕ) (rows : List Row) (r : Row) → AreListed likely available n rows → IsRowOf likely available r → r.place ≡ n
      → AreListed likely available (n + 1) (rows ++ r ∷ [])
  AreListed-push n rows r listed is place = record {
    count = length_push rows r ∙ ap (λ m. m + 1) listed.count;
    each_row = All-push (IsRowOf likely available) rows r listed.each_row is;
    places = λ k e lt. ⊎_elim
        (λ before. ap (λ (s : Row). s.place) (get_or_append_left rows (r ∷ []) e k before) ∙ listed.places k e before)
        (λ past.
        let at : length rows ≡ k = omega (arith, length_push rows r) in
        ap (λ (s : Row). s.place) (get_or_push rows r e k at) ∙ place ∙ sym listed.count ∙ at)
        (cases_lt k (length rows));
  }

  -- sorted, they are the index
  pub IsIndex-sorted : (rows sorted : List Row) → AreListed likely available (length available) rows → IsPermutation rows sorted
      → IsSorted row_cmp sorted → IsIndex likely available sorted
  IsIndex-sorted rows sorted listed moved order = record {
    each_row = All-permutation (IsRowOf likely available) rows sorted moved listed.each_row;
    each_place = λ k lt.
        let d : Row = record { minimal = record { language = []; script = None; region = None }; place = 0 } in
        let within : k < length rows = omega (arith, listed.count) in
        (get_or rows k d, Contains-permutation rows sorted (get_or rows k d) moved (Contains-get_or rows k d within), listed.places k d within);
    sorted = order;
  }

-- ---- the walk over a part

-- what was read at the place of a row is there
pub read_at_place : (available : List LanguageIdentifier) (rows : List Row) (k : ℕ) (r : Row) (y : LanguageIdentifier)
    → All (λ s. s.place < length available) rows → k < length rows → r ≡ get_or rows k r → y ≡ get_or available r.place y → slice_get available r.place ≡ Some y
read_at_place available rows k r y in_range lt is here =
    slice_get_read available (length available) r.place y refl (subst (λ (s : Row). s.place < length available) (sym is) (in_range k r lt)) here

-- a row whose identifier has other variants
pub other_variants : (available : List LanguageIdentifier) (variants : TextSet) (r : Row) (y : LanguageIdentifier)
    → slice_get available r.place ≡ Some y → (y.variants ≡ variants → ⊥) → HasVariants available variants r → ⊥
other_variants available variants r y stands other has =
    other (ap (λ (z : LanguageIdentifier). z.variants) (same_Some _ _ (sym stands ∙ has.stands)) ∙ has.same)

-- one more row that has not the variants
pub none_more : (available : List LanguageIdentifier) (variants : TextSet) (rows : List Row) (n : ℕ) (r : Row)
    → AllWithin (λ s. HasVariants available variants s → ⊥) rows 0 n → n < length rows → r ≡ get_or rows n r
    → (HasVariants available variants r → ⊥) → AllWithin (λ s. HasVariants available variants s → ⊥) rows 0 (n + 1)
none_more available variants rows n r before lt is none = AllWithin-more (λ s. HasVariants available variants s → ⊥) rows 0 n before
    (λ e. subst (λ (s : Row). HasVariants available variants s → ⊥) (get_or_read rows n r lt is e) none)

-- ---- what is found

-- each row of the part is one of the index
pub rows_of_part : (likely : LikelySubtags) (available : List LanguageIdentifier) (rows part : List Row) (d : DataLocale)
    → IsIndex likely available rows → IsPartOf rows d part → (r : Row) → Contains part r → IsRowOf likely available r
rows_of_part likely available rows part d index is r here = All-contains (IsRowOf likely available) rows r index.each_row (is.among r here)

pub places_in_range : (likely : LikelySubtags) (available : List LanguageIdentifier) (rows part : List Row) (d : DataLocale)
    → IsIndex likely available rows → IsPartOf rows d part → All (λ r. r.place < length available) part
places_in_range likely available rows part d index is k e lt =
    let row = rows_of_part likely available rows part d index is (get_or part k e) (Contains-get_or part k e lt) in
    slice_get_within available (get_or part k e).place row.identifier row.stands

module _ (tells : TellsApart) (by_parts : GoesByParts) (likely : LikelySubtags) (settled : AreSettled likely)
    (available : List LanguageIdentifier) (rows : List Row) (index : IsIndex likely available rows) (x : LanguageIdentifier)
    (known : IsIdentifier x) (d : DataLocale) (form : IsPlainForm likely x d) (part : List Row) (is : IsPartOf rows d part) where
  -- where an available identifier has the maximal form of x, its row is in the part, and has the variants of x
  row_of_meaning : (k : ℕ) → MeansAt likely available x k → (r : Row) × Contains part r × (r.place ≡ k) × HasVariants available x.variants r
  row_of_meaning k means =
      let found = index.each_place k (slice_get_within available k means.identifier means.stands) in
      let r : Row = found.0 in
      let row = All-contains (IsRowOf likely available) rows r index.each_row found.1 in
      let same : row.identifier ≡ means.identifier = same_Some _ _ (sym row.stands ∙ ap (slice_get available) found.2 ∙ means.stands) in
      let told = same_plain_form tells by_parts likely settled x row.identifier d r.minimal known row.known form row.form
      (means.same ∙ ap (maximal likely) (sym same)) in
      (r, is.each r found.1 (sym told.0), found.2, record { identifier = row.identifier; stands = row.stands; same = sym told.1 })

  -- and the other way round
  meaning_of_row : (r : Row) → Contains part r → HasVariants available x.variants r → MeansAt likely available x r.place
  meaning_of_row r here has =
      let row = rows_of_part likely available rows part d index is r here in
      let same : has.identifier ≡ row.identifier = same_Some _ _ (sym has.stands ∙ row.stands) in
      record {
        identifier = row.identifier;
        stands = row.stands;
        same = same_maximal_form tells by_parts likely settled x row.identifier d r.minimal known row.known form row.form
            (sym (is.form r here)) (sym has.same ∙ ap (λ (y : LanguageIdentifier). y.variants) same);
      }

  -- so the first row with the variants of x has the first place
  pub IsFirstPlace-row : (found : Option ℕ) → IsFirstRow available x.variants part found → IsFirstPlace likely available x found
  IsFirstPlace-row None none = λ k means.
      let at = row_of_meaning k means in
      All-contains (λ r. HasVariants available x.variants r → ⊥) part at.0 none at.1 at.3
  IsFirstPlace-row (Some place) (k, first) = (
    subst (MeansAt likely available x) first.is_place (meaning_of_row first.row (k, first.in_range, first.stands) first.has),
    λ l means.
        let other = row_of_meaning l means in
        let s : Row = other.0 in
        let i : ℕ = other.1.0 in
        let there : get_or part i s ≡ s = other.1.2 in
        ⊎_elim
        (λ earlier. absurd (first.before i s (omega arith) earlier (subst (HasVariants available x.variants) (sym there) other.3)))
        (λ later.
        let up = is.rises k i first.row later other.1.1 in
        let here = ap (λ (q : Row). q.place) first.stands in
        let second = ap (λ (q : Row). q.place) (get_or_default part i first.row s other.1.1 ∙ there) in
        omega (arith, up, here, second, first.is_place, other.2))
        (cases_lt i k),
  )

-- ---- the requests

module _ (likely : LikelySubtags) (requests available : List LanguageIdentifier) (asked : ℕ)
    (before : (i j : ℕ) → i < asked → IsMatch likely requests available i j → ⊥) where
  means_for : (x : LanguageIdentifier) (k l : ℕ) → slice_get requests k ≡ Some x → IsMatch likely requests available k l → MeansAt likely available x l
  means_for x k l here match =
      let same : match.request ≡ x = same_Some _ _ (sym match.requested ∙ here) in
      record { identifier = match.identifier; stands = match.offered; same = ap (maximal likely) (sym same) ∙ match.same }

  -- where no earlier request matches, the first place for this one is the first match
  pub IsFirstMatch-found : (x : LanguageIdentifier) (place : ℕ) → slice_get requests asked ≡ Some x
      → IsFirstPlace likely available x (Some place) → IsFirstMatch likely requests available asked place
  IsFirstMatch-found x place here (means, first) = record {
    matches = record { request = x; identifier = means.identifier; requested = here; offered = means.stands; same = means.same };
    first = λ k l match. ⊎_elim
        (λ earlier. absurd (before k l earlier match))
        (λ later. ⊎_elim
        (λ beyond. inl beyond)
        (λ upto.
        let same : asked ≡ k = omega arith in
        inr (same, first l (means_for x k l (ap (slice_get requests) (sym same) ∙ here) match)))
        (cases_lt asked k))
        (cases_lt k asked);
  }

  -- where there is none, no request up to this one matches
  pub no_match_more : (x : LanguageIdentifier) → slice_get requests asked ≡ Some x → IsFirstPlace likely available x None → (i j : ℕ)
      → i < asked + 1 → IsMatch likely requests available i j → ⊥
  no_match_more x here none i j upto match = ⊎_elim
      (λ earlier. before i j earlier match)
      (λ later.
      let same : asked ≡ i = omega arith in
      none j (means_for x i j (ap (slice_get requests) (sym same) ∙ here) match))
      (cases_lt i asked)

  -- and none at all where this is past the last one
  pub no_match : length requests ≤ asked → (i j : ℕ) → IsMatch likely requests available i j → ⊥
  no_match past i j match = before i j (omega (arith, slice_get_within requests i match.request match.requested)) match
