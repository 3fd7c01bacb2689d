-- Rows written after dashes.
use Rattle.std.proofs.Common.{◌≡◌, ℕ, Bool, true, false, cond, not, List, [], ◌∷◌, ◌++◌, codes, refl, ap, sym, ◌∙◌, filter}
use Rattle.std.specs.List.{flat_map}
use Rattle.std.specs.Ordering.{is_lt}
use Rattle.std.proofs.lemmas.List.Concat.{flat_map-append}
use Rattle.icu_locale_core.specs.Keywords.{written_keywords}
use Rattle.icu_locale_core.specs.TextSet.{text_cmp}
use Rattle.icu_locale_core.specs.Cuts.{Block}
use Rattle.icu_locale_core.specs.Value.{written_value}
use Rattle.std.proofs.lemmas.Bool.{false≢true}
use Rattle.icu_locale_extensions.specs.Extensions.{any_piece}
use Rattle.icu_locale_extensions.specs.Rows.{flat, dashed, dashed_row}

pub dashed-append : (ps qs : List (List ℕ)) → dashed (ps ++ qs) ≡ dashed ps ++ dashed qs
dashed-append ps qs = flat_map-append (λ p. codes "-" ++ p) ps qs

-- a row where it is written, and nothing where it is not
abbrev pub dashed_where : (Block → Bool) → Block → List ℕ
dashed_where test row = cond (test row) (dashed_row row) []

abbrev pub is_below_t : Block → Bool
is_below_t row = is_lt (text_cmp row.0 (codes "t"))

abbrev pub is_above_t : Block → Bool
is_above_t row = not (is_lt (text_cmp row.0 (codes "t")))

-- rows written one by one
pub dashed-flat : (rows : List Block) → flat_map dashed_row rows ≡ dashed (flat rows)
dashed-flat [] = refl
dashed-flat (row ∷ rows) = ap (λ t. dashed_row row ++ t) (dashed-flat rows) ∙ sym (dashed-append (row.0 ∷ row.1) (flat rows))

-- rows that pass a test written one by one
pub dashed-filter : (test : Block → Bool) (rows : List Block) → flat_map (dashed_where test) rows ≡ dashed (flat (filter test rows))
dashed-filter test [] = refl
dashed-filter test (row ∷ rows) = by (test row) (dashed-filter test rows)
  where
    by : (b : Bool) → flat_map (dashed_where test) rows ≡ dashed (flat (filter test rows))
        → cond b (dashed_row row) [] ++ flat_map (dashed_where test) rows ≡ dashed (flat (cond b (row ∷ filter test rows) (filter test rows)))
    by true rest = ap (λ t. dashed_row row ++ t) rest ∙ sym (dashed-append (row.0 ∷ row.1) (flat (filter test rows)))
    by false rest = rest

-- keywords are rows
pub dashed-keywords : (rows : List Block) → written_keywords rows ≡ dashed (flat rows)
dashed-keywords rows = dashed-flat rows

-- pieces in one text, with `-` before it
pub dashed_pieces : (ps : List (List ℕ)) → any_piece ps ≡ true → codes "-" ++ written_value ps ≡ dashed ps
dashed_pieces [] some = absurd (false≢true some)
dashed_pieces (p ∷ ps) some = refl
