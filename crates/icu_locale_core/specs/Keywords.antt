-- Keywords as a finite map from keys to values (UTS #35 Part 1, section 3.6.1, keyword).
use Rattle.std.specs.Prelude.{ℕ, Bool, ◌&&◌, nat_eq, List, ◌++◌, codes}
use Rattle.std.specs.List.{flat_map}
use Rattle.icu_locale_core.specs.Subtag.{IsKey}
use Rattle.icu_locale_core.specs.Value.{IsValue}
use Rattle.std.specs.Map.{remove_entry}
use Rattle.std.specs.BTreeMap.{insert_entry, is_at}
use Rattle.std.specs.Cmp.Lexicographic.{pointwise}
use Rattle.icu_locale_core.specs.TextSet.{text_cmp}

-- the rows of the map, a key and its value each, the keys rising
abbrev pub KeywordRows : Type 0
KeywordRows = List (List ℕ × List (List ℕ))

-- the map with a value put at a key
abbrev pub with_value : KeywordRows → List ℕ → List (List ℕ) → KeywordRows
with_value rows key value = insert_entry text_cmp rows key value

-- the map without a key
abbrev pub without_key : KeywordRows → List ℕ → KeywordRows
without_key rows key = remove_entry (is_at (text_cmp key)) rows

-- two rows have the same key and the same value
abbrev pub row_eq : (p q : List ℕ × List (List ℕ)) → Bool
row_eq p q = pointwise nat_eq p.0 q.0 && pointwise (pointwise nat_eq) p.1 q.1

-- a row has a key and a value
pub record IsKeyword (row : List ℕ × List (List ℕ)) : Type 0 where
  pub key : IsKey row.0
  pub value : IsValue row.1

-- the text of a key and each piece of a value, with `-` before each
abbrev pub written_row : {K V : Type 0} → (K → List ℕ) → (V → List (List ℕ)) → K × V → List ℕ
written_row text pieces row =
    (codes "-" ++ text row.0) ++ flat_map (λ p. codes "-" ++ p) (pieces row.1)

abbrev pub written_keyword : List ℕ × List (List ℕ) → List ℕ
written_keyword row = written_row (λ k. k) (λ v. v) row

abbrev pub written_keywords : KeywordRows → List ℕ
written_keywords rows = flat_map written_keyword rows
