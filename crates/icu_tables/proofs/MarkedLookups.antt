-- What a look-up answers in rows by marker, locale and key.
use Rattle.std.proofs.Common.{◌≡◌, ℕ, List, [], ◌∷◌, Option, Some, None, option_map, option_and_then, IfSome, refl, sym, ap, ◌∙◌, subst}
use Rattle.std.proofs.lemmas.Option.{none-some, same_Some}
use Rattle.std.specs.Cmp.{IsTotalOrder}
use Rattle.std.specs.List.{AllByRecursion}
use Rattle.std.specs.declared.cmp.Ordering.{Ordering}
use Rattle.serde_json.specs.Data.{Data}
use Rattle.serde_json.specs.Find.{get}
use Rattle.icu_locale_core.specs.Maps.{value_at}
use Rattle.icu_provider.specs.SortedMaps.{TiesEqualAlone}
use Rattle.icu_provider.specs.declared.data_locale.DataLocale.{DataLocale}
use Rattle.icu_tables.specs.Fields.{said_or}
use Rattle.icu_tables.specs.Lookups.{at_path, said_at, FindsAt, FindsByLocale, FindsByKey}
use Rattle.icu_tables.specs.NamedRows.{marked, marked_rows, request_in, named_row, rows_in_locale, rows_of_marker}
use Rattle.icu_tables.specs.Names.{named_in, locale_key}
use Rattle.icu_tables.specs.Puts.{put_all, map_by, rows_by}
use Rattle.icu_tables.specs.Shape.{Shape, with_row}
use Rattle.icu_tables.specs.inner.Once.{NamesRise}
use Rattle.icu_tables.proofs.KeyNames.{OneName, one_locale}
use Rattle.icu_tables.proofs.Lookups.{DecidesAt, last_at, each_of_value, each_weaker, level, map_of_some, put_all-finds, rise_behind, row_found, then_of_some}

-- the one row of a member has the key of its name
own_row : {K V : Type 0} (key : Option K) (shape : Shape V) (value : Data) (rows : List (K × V)) → named_row key shape value ≡ Some rows
    → AllByRecursion (λ row. key ≡ Some row.0) rows
own_row {K = K} {V = V} key shape value rows is = by key (map_of_some (λ v. with_row key v []) (shape value) rows is)
  where
    by : (k : Option K) → (v : V) × (shape value ≡ Some v) × (rows ≡ with_row k v []) → AllByRecursion (λ row. k ≡ Some row.0) rows
    by None held = subst (AllByRecursion (λ row. None ≡ Some row.0)) (sym held.2) tt
    by (Some k) held = subst (AllByRecursion (λ row. Some k ≡ Some row.0)) (sym held.2) (refl, tt)

module _ {K V : Type 0} (compare : K → K → Ordering) (ties : TiesEqualAlone compare) (shape : Shape V) where
  -- ---- the innermost names

  module _ (key : List ℕ → Option K) (one : OneName key) where
    abbrev rows_named : List ℕ → Shape (List (K × V))
    rows_named name = named_row (key name) shape

    pub found_by_key : (mine : List ℕ) (q : K) → key mine ≡ Some q → (value : Data) (rows : List (K × V)) → NamesRise value
        → rows_by rows_named value ≡ Some rows → last_at compare q rows None ≡ said_at shape (mine ∷ []) value
    found_by_key mine q named value rows rise is =
        by (get mine value)
        (level compare ties rows_named (λ name k. key name ≡ Some k) (λ name v own said. own_row (key name) shape v own said) one q mine
        named value rows rise is)
      where
        by : (found : Option Data) → DecidesAt compare rows_named q mine found rows
            → last_at compare q rows None ≡ option_and_then shape (option_and_then (at_path []) found)
        by None decides = decides None
        by (Some v) decides =
            let own : named_row (Some q) shape v ≡ Some decides.0 = subst (λ k. named_row k shape v ≡ Some decides.0) named decides.1 in
            decides.2 None ∙ row_found compare ties shape v q decides.0 own

  -- ---- names around them

  module _ (says : List ℕ → Shape (List (K × V))) (tells : List ℕ → K → Type 0)
      (each : (name : List ℕ) (value : Data) (rows : List (K × V)) → says name value ≡ Some rows → AllByRecursion (λ row. tells name row.0) rows)
      (one : (s t : List ℕ) (k : K) → tells s k → tells t k → s ≡ t)
      (q : K) (mine : List ℕ) (told : tells mine q) (path : List (List ℕ))
      (inside : (v : Data) (own : List (K × V)) → NamesRise v → says mine v ≡ Some own → last_at compare q own None ≡ said_at shape path v) where
    pub found_around : (value : Data) (rows : List (K × V)) → NamesRise value → rows_by says value ≡ Some rows
        → last_at compare q rows None ≡ said_at shape (mine ∷ path) value
    found_around value rows rise is =
        by (get mine value) (rise_behind mine value rise) (level compare ties says tells each one q mine told value rows rise is)
      where
        by : (found : Option Data) → IfSome found NamesRise → DecidesAt compare says q mine found rows
            → last_at compare q rows None ≡ option_and_then shape (option_and_then (at_path path) found)
        by None rises decides = decides None
        by (Some v) rises decides = decides.2 None ∙ inside v decides.0 rises decides.1

  -- ---- the whole member

  -- what was put into a map without rows is found
  pub found_in_map : IsTotalOrder compare → (says : List ℕ → Shape (List (K × V))) (q : K) (path : List (List ℕ))
      → ((v : Data) (own : List (K × V)) → NamesRise v → rows_by says v ≡ Some own → last_at compare q own None ≡ said_at shape path v)
      → (name : List ℕ) (value : Data) (rows : List (K × V)) → NamesRise value
      → said_or (Some []) (map_by compare says) (get name value) ≡ Some rows
      → value_at compare rows q ≡ said_at shape (name ∷ path) value
  found_in_map total says q path inside name value rows rise is = by (get name value) (rise_behind name value rise) is
    where
      by : (found : Option Data) → IfSome found NamesRise → said_or (Some []) (map_by compare says) found ≡ Some rows
          → value_at compare rows q ≡ option_and_then shape (option_and_then (at_path path) found)
      by None rises none = ap (λ r. value_at compare r q) (sym (same_Some [] rows none))
      by (Some v) rises some =
          let put = map_of_some (put_all compare []) (rows_by says v) rows some in
          ap (λ r. value_at compare r q) put.2 ∙ put_all-finds compare total put.0 [] q ∙ inside v put.0 rises put.1

-- ---- by one key

pub finds_by_key : {K V : Type 0} (compare : K → K → Ordering) → TiesEqualAlone compare → IsTotalOrder compare
    → (shape : Shape V) (key : List ℕ → Option K) → OneName key
    → (member : List ℕ) (value : Data) (rows : List (K × V)) → NamesRise value
    → said_or (Some []) (map_by compare (λ name. named_row (key name) shape)) (get member value) ≡ Some rows
    → FindsAt compare key shape (member ∷ []) value rows
finds_by_key compare ties total shape key one member value rows rise is name k named =
    found_in_map compare ties shape total (λ n. named_row (key n) shape) k (name ∷ [])
    (found_by_key compare ties shape key one name k named) member value rows rise is

-- ---- by marker

module _ {M R : Type 0} (markers : List (List ℕ × M)) (rows_of : M → List ℕ → Shape (List R)) (marker_of : R → M)
    (each : (marker : M) (name : List ℕ) (value : Data) (rows : List R) → rows_of marker name value ≡ Some rows
    → AllByRecursion (λ row. marker ≡ marker_of row) rows) where
  marked_each : (name : List ℕ) (value : Data) (rows : List R) → marked markers rows_of name value ≡ Some rows
      → AllByRecursion (λ row. named_in markers name ≡ Some (marker_of row)) rows
  marked_each name value rows is =
      let found = then_of_some (λ marker. rows_by (rows_of marker) value) (named_in markers name) rows is in
      each_weaker (λ row same. found.1 ∙ ap (λ m. Some m) same) rows
      (each_of_value (λ row. found.0 ≡ marker_of row) (rows_of found.0) (each found.0) value rows found.2)

marked_inside : {M R : Type 0} (markers : List (List ℕ × M)) (rows_of : M → List ℕ → Shape (List R)) (name : List ℕ) (marker : M)
    → named_in markers name ≡ Some marker → (value : Data) (rows : List R) → marked markers rows_of name value ≡ Some rows
    → rows_by (rows_of marker) value ≡ Some rows
marked_inside markers rows_of name marker named value rows is =
    subst (λ m. option_and_then (λ marker. rows_by (rows_of marker) value) m ≡ Some rows) named is

-- ---- by marker and locale

module _ {M V : Type 0} (compare : (M × DataLocale) → (M × DataLocale) → Ordering) (ties : TiesEqualAlone compare) (total : IsTotalOrder compare)
    (markers : List (List ℕ × M)) (one_marker : OneName (named_in markers)) (shape : Shape V) where
  abbrev locale_request : M → List ℕ → Option (M × DataLocale)
  locale_request marker name = option_map (λ locale. (marker, locale)) (locale_key name)

  abbrev rows_by_locale : M → List ℕ → Shape (List ((M × DataLocale) × V))
  rows_by_locale marker name = named_row (locale_request marker name) shape

  request_parts : (marker : M) (name : List ℕ) (k : M × DataLocale) → locale_request marker name ≡ Some k → (marker ≡ k.0) × (locale_key name ≡ Some k.1)
  request_parts marker name k is =
      let parts = map_of_some (λ locale. (marker, locale)) (locale_key name) k is in
      (ap (λ p. p.0) (sym parts.2), parts.1 ∙ ap (λ p. Some p.1) (sym parts.2))

  pub finds_by_locale : (member : List ℕ) (value : Data) (rows : List ((M × DataLocale) × V)) → NamesRise value
      → said_or (Some []) (map_by compare (marked markers rows_by_locale)) (get member value) ≡ Some rows
      → FindsByLocale compare markers shape member value rows
  finds_by_locale member value rows rise is marker_name locale_name marker locale named located =
      let q : M × DataLocale = (marker, locale) in
      let asked : locale_request marker locale_name ≡ Some q = ap (option_map (λ l. (marker, l))) located in
      let one_request : OneName (locale_request marker) = λ s t k is_s is_t. one_locale s t k.1 (request_parts marker s k is_s).1
      (request_parts marker t k is_t).1 in
      let inner = found_by_key compare ties shape (locale_request marker) one_request locale_name q asked in
      found_in_map compare ties shape total (marked markers rows_by_locale) q (marker_name ∷ locale_name ∷ [])
      (found_around compare ties shape (marked markers rows_by_locale) (λ name k. named_in markers name ≡ Some k.0)
      (marked_each markers rows_by_locale (λ row. row.0.0) (λ m name v own said. each_weaker
      (λ row told. (request_parts m name row.0 told).0) own (own_row (locale_request m name) shape v own said)))
      (λ s t k is_s is_t. one_marker s t k.0 is_s is_t)
      q marker_name named (locale_name ∷ [])
      (λ v own rises said. inner v own rises (marked_inside markers rows_by_locale marker_name marker named v own said)))
      member value rows rise is

-- ---- by marker, locale and key

module _ {M K V : Type 0} (compare : (M × DataLocale × K) → (M × DataLocale × K) → Ordering) (ties : TiesEqualAlone compare) (total : IsTotalOrder compare)
    (markers : List (List ℕ × M)) (one_marker : OneName (named_in markers)) (key : M → List ℕ → Option K)
    (one_key : (marker : M) → OneName (key marker)) (shape : Shape V) where
  -- the parts of a request
  record RequestParts (marker : M) (locale : Option DataLocale) (k : Option K) (request : M × DataLocale × K) : Type 0 where
    same_marker : marker ≡ request.0
    located : locale ≡ Some request.1
    keyed : k ≡ Some request.2

  request_parts_of : (marker : M) (locale : Option DataLocale) (k : Option K) (request : M × DataLocale × K)
      → request_in marker locale k ≡ Some request → RequestParts marker locale k request
  request_parts_of marker None k request is = absurd (none-some request is)
  request_parts_of marker (Some l) None request is = absurd (none-some request is)
  request_parts_of marker (Some l) (Some x) request is =
      let same = same_Some (marker, l, x) request is in
      record { same_marker = ap (λ r. r.0) same; located = ap (λ r. Some r.1) same; keyed = ap (λ r. Some r.2) same }

  rows_parts : (marker : M) (locale : Option DataLocale) (name : List ℕ) (value : Data) (rows : List ((M × DataLocale × K) × V))
      → rows_in_locale key shape marker locale name value ≡ Some rows → AllByRecursion (λ row. RequestParts marker locale (key marker name) row.0) rows
  rows_parts marker locale name value rows is =
      each_weaker (λ row told. request_parts_of marker locale (key marker name) row.0 told) rows
      (own_row (request_in marker locale (key marker name)) shape value rows is)

  locale_each : (marker : M) (name : List ℕ) (value : Data) (rows : List ((M × DataLocale × K) × V))
      → rows_of_marker key shape marker name value ≡ Some rows → AllByRecursion (λ row. (marker ≡ row.0.0) × (locale_key name ≡ Some row.0.1)) rows
  locale_each marker name value rows is =
      each_of_value (λ row. (marker ≡ row.0.0) × (locale_key name ≡ Some row.0.1)) (rows_in_locale key shape marker (locale_key name))
      (λ n v own said. each_weaker (λ row parts. (parts.same_marker, parts.located)) own (rows_parts marker (locale_key name) n v own said))
      value rows is

  pub finds_by_marker : (member : List ℕ) (value : Data) (rows : List ((M × DataLocale × K) × V)) → NamesRise value
      → said_or (Some []) (map_by compare (marked_rows markers key shape)) (get member value) ≡ Some rows
      → FindsByKey compare markers key shape member value rows
  finds_by_marker member value rows rise is marker_name locale_name key_name marker locale k named located keyed =
      let q : M × DataLocale × K = (marker, locale, k) in
      let request : List ℕ → Option (M × DataLocale × K) = λ name. request_in marker (Some locale) (key marker name) in
      let asked : request key_name ≡ Some q = ap (request_in marker (Some locale)) keyed in
      let one_request : OneName request = λ s t r is_s is_t.
      one_key marker s t r.2 (request_parts_of marker (Some locale) (key marker s) r is_s).keyed
      (request_parts_of marker (Some locale) (key marker t) r is_t).keyed in
      let innermost = found_by_key compare ties shape request one_request key_name q asked in
      let inner = found_around compare ties shape (rows_of_marker key shape marker) (λ name r. locale_key name ≡ Some r.1)
      (λ name v own said. each_weaker (λ row parts. parts.1) own (locale_each marker name v own said))
      (λ s t r is_s is_t. one_locale s t r.1 is_s is_t)
      q locale_name located (key_name ∷ [])
      (λ v own rises said. innermost v own rises (subst (λ l. rows_by (rows_in_locale key shape marker l) v ≡ Some own) located said)) in
      found_in_map compare ties shape total (marked_rows markers key shape) q (marker_name ∷ locale_name ∷ key_name ∷ [])
      (found_around compare ties shape (marked_rows markers key shape) (λ name r. named_in markers name ≡ Some r.0)
      (marked_each markers (rows_of_marker key shape) (λ row. row.0.0) (λ m name v own said. each_weaker (λ row parts. parts.0) own
      (locale_each m name v own said)))
      (λ s t r is_s is_t. one_marker s t r.0 is_s is_t)
      q marker_name named (locale_name ∷ key_name ∷ [])
      (λ v own rises said. inner v own rises (marked_inside markers (rows_of_marker key shape) marker_name marker named v own said)))
      member value rows rise is
