-- Maps: what the members that were read say of the whole, and why their keys rise.
use Rattle.std.proofs.Common.{◌≡◌, ℕ, ◌&&◌, ◌||◌, nat_eq, Bor, List, [], ◌∷◌, ◌++◌, map, Option, Some, None, option_map, refl, sym, ap, ◌∙◌, subst}
use Rattle.std.proofs.Common.{String, Global, string_bytes}
use Rattle.std.proofs.lemmas.List.{append-nil, map-append}
use Rattle.std.proofs.lemmas.Option.{none-some, same_Some}
use Rattle.std.specs.declared.cmp.Ordering.{Ordering}
use Rattle.std.specs.declared.cmp.Ordering.TheVariants.{Less}
use Rattle.std.specs.Cmp.Lexicographic.{pointwise}
use Rattle.std.specs.List.{AllByRecursion, list_any, list_all}
use Rattle.std.specs.List.Sorted.{IsStrictlySortedBy}
use Rattle.std.specs.Map.{keys_of}
use Rattle.std.specs.String.{string_cmp}
use Rattle.serde_json.specs.View.{view, members_view}
use Rattle.serde_json.proofs.Views.{Entry}
use Rattle.icu_locale_core.specs.TextSet.{text_cmp}
use Rattle.icu_tables.specs.Fields.{is_name_listed, are_listed}
use Rattle.icu_tables.specs.inner.KeyLaws.{ComparesNames}
use Rattle.icu_tables.specs.Rows.{seen_rows}
use Rattle.icu_tables.specs.Shape.{Shape, applied, with_row, each_row}
use Rattle.icu_tables.proofs.Items.{prefixed, prefixed-more}

module _ {K V W : Type 0} (key : List ℕ → Option K) (seen : V → W) (shape : Shape W) where
  -- the rows that were read, before those of the rest, are what the object says
  abbrev pub IsReadBefore : List Entry → List Entry → List (K × V) → Type 0
  IsReadBefore all rest rows = each_row key shape (members_view all) ≡ prefixed (seen_rows seen rows) (each_row key shape (members_view rest))

  -- a member whose name is a key is a row
  pub row-more : (all rest : List Entry) (e : Entry) (rows : List (K × V)) (k : K) (value : V) → shape (view e.1) ≡ Some (seen value)
      → key (string_bytes e.0) ≡ Some k → IsReadBefore all (e ∷ rest) rows → IsReadBefore all rest (rows ++ (k, value) ∷ [])
  row-more all rest e rows k value said named so_far =
      let left = each_row key shape (members_view rest) in
      so_far
      ∙ ap (λ row. prefixed (seen_rows seen rows) (applied (option_map (with_row (key (string_bytes e.0))) row) left)) said
      ∙ ap (λ name. prefixed (seen_rows seen rows) (option_map (with_row name (seen value)) left)) named
      ∙ prefixed-more (seen_rows seen rows) (k, seen value) left
      ∙ ap (λ done. prefixed done left) (sym (map-append (λ (row : K × V). (row.0, seen row.1)) rows ((k, value) ∷ [])))

  -- all are read
  pub rows-end : (all : List Entry) (rows : List (K × V)) → IsReadBefore all [] rows → each_row key shape (members_view all) ≡ Some (seen_rows seen rows)
  rows-end all rows so_far = so_far ∙ ap (λ done. Some done) (append-nil (seen_rows seen rows))

module _ {K W : Type 0} (key : List ℕ → Option K) (shape : Shape W) (compare : K → K → Ordering) (by_name : ComparesNames key compare) where
  -- what the rows of members are made of
  data Parts (e : Entry) (es : List Entry) (rows : List (K × W)) : Type 0 where
    skipped : each_row key shape (members_view es) ≡ Some rows → Parts e es rows
    kept : (k : K) (w : W) (more : List (K × W)) → key (string_bytes e.0) ≡ Some k → each_row key shape (members_view es) ≡ Some more
        → rows ≡ (k, w) ∷ more → Parts e es rows

  parts_of : (e : Entry) (es : List Entry) (rows : List (K × W)) (named : Option K) (first : Option W) (more : Option (List (K × W)))
      → key (string_bytes e.0) ≡ named → each_row key shape (members_view es) ≡ more
      → applied (option_map (with_row named) first) more ≡ Some rows → Parts e es rows
  parts_of e es rows named None more is rest said = absurd (none-some rows said)
  parts_of e es rows named (Some w) None is rest said = absurd (none-some rows said)
  parts_of e es rows None (Some w) (Some more) is rest said = skipped (rest ∙ said)
  parts_of e es rows (Some k) (Some w) (Some more) is rest said = kept k w more is rest (sym (same_Some ((k, w) ∷ more) rows said))

  -- the keys of members above a name are above its key
  all_above : (name : List ℕ) (k : K) (es : List Entry) (rows : List (K × W)) → key name ≡ Some k
      → AllByRecursion (λ (later : String Global). text_cmp name (string_bytes later) ≡ Less) (keys_of es)
      → each_row key shape (members_view es) ≡ Some rows → AllByRecursion (λ later. compare k later ≡ Less) (keys_of rows)
  all_above name k [] rows is above said = subst (λ kept. AllByRecursion (λ later. compare k later ≡ Less) (keys_of kept)) (same_Some [] rows said) tt
  all_above name k (e ∷ es) rows is above said =
      elim (parts_of e es rows (key (string_bytes e.0)) (shape (view e.1)) (each_row key shape (members_view es)) refl refl said) [
        | skipped rest ↦ all_above name k es rows is above.1 rest
        | kept later w more named rest whole ↦ subst (λ kept. AllByRecursion (λ later. compare k later ≡ Less) (keys_of kept)) (sym whole)
            (by_name name (string_bytes e.0) k later is named ∙ above.0, all_above name k es more is above.1 rest)
      ]

  -- the keys of members whose names rise do
  pub keys_rise : (es : List Entry) (rows : List (K × W)) → IsStrictlySortedBy string_cmp (keys_of es)
      → each_row key shape (members_view es) ≡ Some rows → IsStrictlySortedBy compare (keys_of rows)
  unfolding IsStrictlySortedBy
  keys_rise [] rows sorted said = subst (λ kept. IsStrictlySortedBy compare (keys_of kept)) (same_Some [] rows said) tt
  keys_rise (e ∷ es) rows sorted said =
      elim (parts_of e es rows (key (string_bytes e.0)) (shape (view e.1)) (each_row key shape (members_view es)) refl refl said) [
        | skipped rest ↦ keys_rise es rows sorted.1 rest
        | kept k w more named rest whole ↦ subst (λ kept. IsStrictlySortedBy compare (keys_of kept)) (sym whole)
            (all_above (string_bytes e.0) k es more named sorted.0 rest, keys_rise es more sorted.1 rest)
      ]

-- a name among names behind references
pub list_any-seen : (name : List ℕ) (names : List (Bor (List ℕ))) → list_any
    (λ known. pointwise nat_eq known.now name) names ≡ is_name_listed (map (λ known. known.now) names) name
list_any-seen name [] = refl
list_any-seen name (known ∷ names) = ap (λ later. pointwise nat_eq known.now name || later) (list_any-seen name names)

-- the names of members are those of the rows of a map
pub are_listed-keys : (names : List (List ℕ)) (es : List Entry) → are_listed names (members_view es) ≡ list_all
    (λ key. is_name_listed names (string_bytes key)) (keys_of es)
are_listed-keys names [] = refl
are_listed-keys names (e ∷ es) = ap (λ later. is_name_listed names (string_bytes e.0) && later) (are_listed-keys names es)

-- rows that are seen as they are
pub seen_rows-same : {K V : Type 0} (rows : List (K × V)) → seen_rows (λ v. v) rows ≡ rows
seen_rows-same [] = refl
seen_rows-same (row ∷ rows) = ap (λ later. row ∷ later) (seen_rows-same rows)
