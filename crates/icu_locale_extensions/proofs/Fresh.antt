-- Extensions are new one after another exactly where no singleton comes twice.
use Rattle.std.proofs.Common.{◌≡◌, ℕ, Bool, true, false, not, ◌&&◌, ◌||◌, List, [], ◌∷◌, map, codes, Option, None, Some, if◌then◌else◌, refl, ap, sym, ◌∙◌}
use Rattle.std.specs.BTreeMap.{insert_entry}
use Rattle.std.specs.Cmp.Lexicographic.{texts_ties}
use Rattle.std.specs.List.{list_all, list_any}
use Rattle.std.specs.Option.{is_some}
use Rattle.std.specs.Ordering.{match_ordering}
use Rattle.std.specs.declared.cmp.Ordering.TheVariants.{Less, Equal, Greater}
use Rattle.std.proofs.lemmas.Bool.{and_parts, false≢true, not-true}
use Rattle.std.proofs.lemmas.Slice.Eq.{bytes_eq-Decides}
use Rattle.icu_locale_core.specs.Maps.{value_at}
use Rattle.icu_locale_core.specs.TextSet.{text_cmp, rising, from_list}
use Rattle.icu_locale_core.specs.declared.langid.LanguageIdentifier.{LanguageIdentifier}
use Rattle.icu_locale_core.specs.laws.Identifiers.{same_text}
use Rattle.icu_locale_core.specs.laws.Maps.{SetsOnly-insert_entry}
use Rattle.icu_locale_core.specs.laws.TextSets.{text_total, contains-from_list, contains-rising, is_among}
use Rattle.icu_locale_core.specs.Cuts.{Block}
use Rattle.icu_locale_extensions.specs.Extensions.{any_piece}
use Rattle.icu_locale_extensions.specs.Built.{bare}
use Rattle.icu_locale_extensions.specs.declared.identifier.LocaleIdentifier.{LocaleIdentifier}
use Rattle.icu_locale_extensions.specs.Grammar.{one, AnyNumber, done, next, first, Meaning, unicode_of, transform_of, other_of, of_keywords, of_attributes, of_tlang, of_tfields, of_other}
use Rattle.icu_locale_extensions.specs.Grammar.{IsExtension, unicode, transformed, other, are_different, singleton, add, add_rows}
use Rattle.icu_locale_extensions.specs.laws.Reader.{any_row, has_unicode, has_transform}
use Rattle.icu_locale_core.specs.Maps.{add_first}
use Rattle.icu_locale_extensions.proofs.Derived.{has, are_fresh, other_lower}

-- ---- texts that are the same

decided : (s t : List ℕ) → same_text s t ≡ true → s ≡ t
decided s t e = (bytes_eq-Decides s t).0 e

turned : (s t : List ℕ) → same_text s t ≡ same_text t s
turned s t = by (same_text s t) (same_text t s) refl refl
  where
    by : (a b : Bool) → same_text s t ≡ a → same_text t s ≡ b → same_text s t ≡ same_text t s
    by true b e f = (λ i. same_text (decided s t e i) (sym (decided s t e) i))
    by false true e f = (λ i. same_text (sym (decided t s f) i) (decided t s f i))
    by false false e f = e ∙ sym f

or_true : (b : Bool) → (b || true) ≡ true
or_true true = refl
or_true false = refl

-- ---- nothing is lost

rising_some : (v : List ℕ) (vs : List (List ℕ)) → any_piece (rising (from_list (v ∷ vs))) ≡ true
rising_some v vs = by (rising (from_list (v ∷ vs))) (sym (contains-rising (from_list (v ∷ vs)) v) ∙ contains-from_list (v ∷ vs) v
    ∙ ap (λ b. b || is_among v vs) (sym (texts_ties v v) ∙ (bytes_eq-Decides v v).1 refl))
  where
    by : (ts : List (List ℕ)) → is_among v ts ≡ true → any_piece ts ≡ true
    by [] e = absurd (false≢true e)
    by (t ∷ ts) e = refl

insert_some : (rows : List Block) (k : List ℕ) (v : List (List ℕ)) → any_row (add_first text_cmp rows k v) ≡ true
insert_some [] k v = refl
insert_some (row ∷ rows) k v = by (is_some (value_at text_cmp (row ∷ rows) k))
  where
    kept : any_row (insert_entry text_cmp (row ∷ rows) k v) ≡ true
    kept = elim (text_cmp k row.0) as (λ o. any_row (match_ordering o ((k, v) ∷ row ∷ rows) ((row.0, v) ∷ rows) (row ∷ insert_entry text_cmp rows k v)) ≡ true)
        [ Less ↦ refl | Equal ↦ refl | Greater ↦ refl ]

    by : (b : Bool) → any_row (if b then row ∷ rows else insert_entry text_cmp (row ∷ rows) k v) ≡ true
    by true = refl
    by false = kept

rows_some : (old rows : List Block) → any_row old ≡ true → any_row (add_rows old rows) ≡ true
rows_some old [] some = some
rows_some old (row ∷ rows) some = rows_some (add_first text_cmp old row.0 row.1) rows (insert_some old row.0 row.1)

rows_added : (old : List Block) (row : Block) (rows : List Block) → any_row (add_rows old (row ∷ rows)) ≡ true
rows_added old row rows = rows_some (add_first text_cmp old row.0 row.1) rows (insert_some old row.0 row.1)

-- a row that is put in is found, and nothing else is new
found : (rows : List Block) (k : List ℕ) (v : List (List ℕ)) (m : List ℕ) → is_some (value_at text_cmp (add_first text_cmp rows k v) m) ≡ (same_text k m || is_some (value_at text_cmp rows m))
found rows k v m = by (is_some (value_at text_cmp rows k)) refl
  where
    there : is_some (value_at text_cmp rows k) ≡ true → (b : Bool) → same_text k m ≡ b → is_some (value_at text_cmp rows m) ≡ (b || is_some (value_at text_cmp rows m))
    there e true f = ap (λ n. is_some (value_at text_cmp rows n)) (sym (decided k m f)) ∙ e
    there e false f = refl

    new : (b : Bool) → same_text k m ≡ b → is_some (if b then Some v else value_at text_cmp rows m) ≡ (b || is_some (value_at text_cmp rows m))
    new true f = refl
    new false f = refl

    by : (b : Bool) → is_some (value_at text_cmp rows k) ≡ b → is_some (value_at text_cmp (add_first text_cmp rows k v) m) ≡ (same_text k m || is_some (value_at text_cmp rows m))
    by true e = (λ i. is_some (value_at text_cmp (if e i then rows else insert_entry text_cmp rows k v) m)) ∙ there e (same_text k m) refl
    by false e =
        (λ i. is_some (value_at text_cmp (if e i then rows else insert_entry text_cmp rows k v) m))
        ∙ ap is_some (SetsOnly-insert_entry text_total rows k v m ∙ ap (λ b. if b then Some v else value_at text_cmp rows m) (sym (texts_ties k m)))
        ∙ new (same_text k m) refl

-- ---- what an extension adds

-- there is something in it, and its singleton is its own
abbrev full : Meaning → Bool
full (unicode_of vs rows) = any_piece vs || any_row rows
full (transform_of l rows) = is_some l || any_row rows
full (other_of s ps) = not (same_text s (codes "u")) && not (same_text s (codes "t"))

derived_full : (ps : List (List ℕ)) (e : Meaning) → IsExtension ps e → full e ≡ true
derived_full ps e (unicode qs f (of_keywords us ks m rows (one p is) (first hs bs row more d ds))) = refl
derived_full ps e (unicode qs f (of_attributes us xs ks m vs rows (one p is) (first hs bs v more d ds) keys)) = refl
derived_full ps e (transformed qs f (of_tlang ts ls fs m l rows (one p is) id ds)) = refl
derived_full ps e (transformed qs f (of_tfields ts fs m rows (one p is) (first hs bs row more d ds))) = refl
derived_full ps e (other qs f (of_other ss ts s vs (one p is) some)) = let apart = other_lower p is in λ i. not (apart.0 i) && not (apart.1 i)

unicode_full : (y : LocaleIdentifier) (vs : List (List ℕ)) (rows : List Block) → full (unicode_of vs rows) ≡ true → has_unicode (add y (unicode_of vs rows)) ≡ true
unicode_full y (v ∷ vs) rows is = ap (λ b. b || any_row (add_rows y.locale.extensions.unicode.keywords rows)) (rising_some v vs)
unicode_full y [] (row ∷ rows) is = ap (λ b. any_piece (rising (from_list [])) || b) (rows_added y.locale.extensions.unicode.keywords row rows) ∙ or_true _
unicode_full y [] [] is = absurd (false≢true is)

transform_full : (y : LocaleIdentifier) (l : Option LanguageIdentifier) (rows : List Block) → full (transform_of l rows) ≡ true → has_transform (add y (transform_of l rows)) ≡ true
transform_full y (Some l) rows is = refl
transform_full y None (row ∷ rows) is = ap (λ b. is_some y.locale.extensions.transform.lang || b) (rows_added y.fields row rows) ∙ or_true _
transform_full y None [] is = absurd (false≢true is)

language_aside : (y : LocaleIdentifier) (l : Option LanguageIdentifier) (rows : List Block) → (has_unicode (add y (transform_of l rows)) ≡ has_unicode y)
    × ((add y (transform_of l rows)).others ≡ y.others)
language_aside y None rows = (refl, refl)
language_aside y (Some l) rows = (refl, refl)

has_add : (y : LocaleIdentifier) (e : Meaning) (m : List ℕ) → full e ≡ true → has (add y e) m ≡ (same_text (singleton e) m || has y m)
has_add y (unicode_of vs rows) m is = by (same_text m (codes "u")) refl
  where
    by : (u : Bool) → same_text m (codes "u") ≡ u
        → (if u then has_unicode (add y (unicode_of vs rows)) else (if same_text m (codes "t") then has_transform y else is_some (value_at text_cmp y.others m)))
        ≡ (same_text (codes "u") m || (if u then has_unicode y else (if same_text m (codes "t") then has_transform y else is_some (value_at text_cmp y.others m))))
    by true e = unicode_full y vs rows is ∙ ap (λ b. b || has_unicode y) (sym (turned (codes "u") m ∙ e))
    by false e = ap (λ b. b || (if same_text m (codes "t") then has_transform y else is_some (value_at text_cmp y.others m))) (sym (turned (codes "u") m ∙ e))
has_add y (transform_of l rows) m is = by (same_text m (codes "u")) (same_text m (codes "t")) refl refl
  where
    aside : (has_unicode (add y (transform_of l rows)) ≡ has_unicode y) × ((add y (transform_of l rows)).others ≡ y.others)
    aside = language_aside y l rows

    no_u : same_text m (codes "u") ≡ true → false ≡ same_text (codes "t") m
    no_u e = ap (same_text (codes "t")) (sym (decided m (codes "u") e))

    by : (u t : Bool) → same_text m (codes "u") ≡ u → same_text m (codes "t") ≡ t
        → (if u then has_unicode (add y (transform_of l rows)) else (if t then has_transform (add y (transform_of l rows)) else is_some (value_at text_cmp (add y (transform_of l rows)).others m)))
        ≡ (same_text (codes "t") m || (if u then has_unicode y else (if t then has_transform y else is_some (value_at text_cmp y.others m))))
    by true t e f = aside.0 ∙ ap (λ b. b || has_unicode y) (no_u e)
    by false true e f = transform_full y l rows is ∙ ap (λ b. b || has_transform y) (sym (turned (codes "t") m ∙ f))
    by false false e f = ap (λ os. is_some (value_at text_cmp os m)) aside.1 ∙ ap (λ b. b || is_some (value_at text_cmp y.others m)) (sym (turned (codes "t") m ∙ f))
has_add y (other_of s ps) m is = by (same_text m (codes "u")) (same_text m (codes "t")) refl refl
  where
    apart : (not (same_text s (codes "u")) ≡ true) × (not (same_text s (codes "t")) ≡ true)
    apart = and_parts (not (same_text s (codes "u"))) (not (same_text s (codes "t"))) is

    other_name : (n : List ℕ) → same_text m n ≡ true → not (same_text s n) ≡ true → false ≡ same_text s m
    other_name n e a = sym (ap (same_text s) (decided m n e) ∙ not-true (same_text s n) a)

    by : (u t : Bool) → same_text m (codes "u") ≡ u → same_text m (codes "t") ≡ t
        → (if u then has_unicode y else (if t then has_transform y else is_some (value_at text_cmp (add_first text_cmp y.others s ps) m)))
        ≡ (same_text s m || (if u then has_unicode y else (if t then has_transform y else is_some (value_at text_cmp y.others m))))
    by true t e f = ap (λ b. b || has_unicode y) (other_name (codes "u") e apart.0)
    by false true e f = ap (λ b. b || has_transform y) (other_name (codes "t") f apart.1)
    by false false e f = found y.others s ps m

-- ---- one after another

arranged : (a b c d : Bool) → (a && ((b && c) && d)) ≡ ((a && c) && (b && d))
arranged false b c d = refl
arranged true true true d = refl
arranged true true false d = refl
arranged true false true d = refl
arranged true false false d = refl

not_or : (a b c d : Bool) → (not (a || b) && (not c && d)) ≡ (not (a || c) && (not b && d))
not_or true b c d = refl
not_or false true true d = refl
not_or false true false d = refl
not_or false false true d = refl
not_or false false false d = refl

all_added : (y : LocaleIdentifier) (e : Meaning) → full e ≡ true → (ms : List (List ℕ))
    → list_all (λ m. not (has (add y e) m)) ms ≡ (not (list_any (same_text (singleton e)) ms) && list_all (λ m. not (has y m)) ms)
all_added y e is [] = refl
all_added y e is (m ∷ ms) =
    (λ i. not (has_add y e m is i) && all_added y e is ms i)
    ∙ not_or (same_text (singleton e) m) (has y m) (list_any (same_text (singleton e)) ms) (list_all (λ m. not (has y m)) ms)

fresh_from : (y : LocaleIdentifier) (ps : List (List ℕ)) (es : List Meaning) → AnyNumber IsExtension ps es
    → are_fresh y es ≡ (list_all (λ m. not (has y m)) (map singleton es) && are_different (map singleton es))
fresh_from y ps es done = refl
fresh_from y ps es (next qs rs e more d ds) =
    ap (λ b. not (has y (singleton e)) && b) (fresh_from (add y e) rs more ds
    ∙ ap (λ b. b && are_different (map singleton more)) (all_added y e (derived_full qs e d) (map singleton more)))
    ∙ arranged (not (has y (singleton e))) (not (list_any (same_text (singleton e)) (map singleton more))) (list_all (λ m. not (has y m)) (map singleton more))
    (are_different (map singleton more))

bare_has_none : (l : LanguageIdentifier) (ms : List (List ℕ)) → list_all (λ m. not (has (bare l) m)) ms ≡ true
bare_has_none l [] = refl
bare_has_none l (m ∷ ms) = (λ i. by (same_text m (codes "u")) (same_text m (codes "t")) i && bare_has_none l ms i)
  where
    by : (u t : Bool) → not (if u then false else (if t then false else false)) ≡ true
    by true t = refl
    by false true = refl
    by false false = refl

pub fresh_different : (l : LanguageIdentifier) (ps : List (List ℕ)) (es : List Meaning) → AnyNumber IsExtension ps es
    → are_fresh (bare l) es ≡ are_different (map singleton es)
fresh_different l ps es ds = fresh_from (bare l) ps es ds ∙ ap (λ b. b && are_different (map singleton es)) (bare_has_none l (map singleton es))
