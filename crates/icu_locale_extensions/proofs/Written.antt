-- What is written is read back.
use Rattle.std.proofs.Common.{◌≡◌, ℕ, Bool, true, false, not, cond, ◌&&◌, ◌||◌, ◌==◌, List, [], ◌∷◌, ◌++◌, length, map, filter, codes, Option, None, Some, IfSome, Ok, Err, if◌then◌else◌}
use Rattle.std.proofs.Common.{refl, ap, sym, ◌∙◌, subst, arith, append_assoc, append-nil}
use Rattle.std.specs.BTreeMap.{insert_entry}
use Rattle.std.specs.Char.{is_ascii_alphabetic, is_ascii_digit, to_ascii_lowercase}
use Rattle.std.specs.Ordering.{is_lt}
use Rattle.std.specs.declared.cmp.Ordering.{Ordering}
use Rattle.std.specs.declared.cmp.Ordering.TheVariants.{Less, Equal, Greater}
use Rattle.std.specs.List.{All, AllByRecursion, list_all}
use Rattle.std.specs.List.Sorted.{IsStrictlySortedBy}
use Rattle.std.specs.Map.{keys_of}
use Rattle.std.specs.Option.{is_some, option_to_list}
use Rattle.std.proofs.lemmas.Bool.{and_parts, false≢true}
use Rattle.std.proofs.lemmas.Bool.Decides.{nat_tests}
use Rattle.std.proofs.lemmas.List.{length-append, length-map}
use Rattle.std.proofs.lemmas.List.Elements.{All-nil, All-cons, All-head, All-tail, All-weaker, All-filter}
use Rattle.std.proofs.lemmas.Map.Keys.{sorted_head, sorted_tail}
use Rattle.icu_locale_core.specs.Identifier.{IsIdentifier, pieces, subtags}
use Rattle.icu_locale_core.specs.Keywords.{IsKeyword}
use Rattle.icu_locale_core.specs.Maps.{IsSortedMap, FindsAlike, value_at}
use Rattle.icu_locale_core.specs.Subtag.{is_alphanumeric, is_key, is_subtag, is_variant, lowercase, IsSubtag}
use Rattle.icu_locale_core.specs.TextSet.{text_cmp, rising, from_list}
use Rattle.icu_locale_core.specs.Value.{is_true, IsValue, read_subtags}
use Rattle.icu_locale_core.specs.declared.langid.LanguageIdentifier.{LanguageIdentifier}
use Rattle.icu_locale_core.specs.declared.parse_error.ParseError.TheVariants.{InvalidSubtag}
use Rattle.icu_locale_core.specs.laws.Classes.{IsPart, rising_variants, subtag_parts}
use Rattle.icu_locale_core.specs.laws.Classes as classes
use Rattle.icu_locale_core.specs.laws.RisingLists.{rising-from_list}
use Rattle.icu_locale_core.specs.laws.FirstRows.{first_is_there, first_is_new}
use Rattle.icu_locale_core.specs.laws.Maps.{SetsOnly-insert_entry, same_sorted_map}
use Rattle.icu_locale_core.specs.laws.SortedMaps.{IsSortedMap-insert_entry}
use Rattle.icu_locale_core.specs.laws.TextSets.{text_total, text_same}
use Rattle.icu_locale_extensions.specs.Attributes.{AreAttributes}
use Rattle.icu_locale_core.specs.Cuts.{Block, front, from, other_than}
use Rattle.icu_locale_extensions.specs.Extensions.{is_piece, is_singleton, is_x, is_u, is_t, is_tkey, is_other_singleton, IsPiece, ArePieces, IsField, IsOther}
use Rattle.icu_locale_extensions.specs.Locales.{IsLocaleIdentifier, marked_if_any, lower_subtags, transform_pieces, unicode_pieces, written_pieces}
use Rattle.icu_locale_extensions.specs.Locales as locales
use Rattle.icu_locale_extensions.specs.Built.{bare}
use Rattle.icu_locale_extensions.specs.Rows.{flat, below_t, above_t}
use Rattle.icu_locale_extensions.specs.declared.identifier.LocaleIdentifier.{LocaleIdentifier}
use Rattle.icu_locale_extensions.specs.laws.Reader.{Part, first_is, belongs, added, closed, marked, opened_unicode, opened_transform, and_then, read, read_on, with_read}
use Rattle.icu_locale_extensions.specs.Built.{with_private_use, with_attributes, with_keywords, with_fields, with_others}
use Rattle.icu_locale_core.specs.Maps.{add_first}
use Rattle.icu_locale_extensions.specs.laws.Reader.Part.{whole, attributes, keywords, keyword, language, fields, field, other, private_use}
use Rattle.icu_locale_extensions.specs.inner.Takes.{read_opened}
use Rattle.icu_locale_extensions.proofs.Steps.{taken}
use Rattle.icu_locale_extensions.proofs.Taking.{key_none}
use Rattle.icu_locale_extensions.proofs.Languages.{begins_at_mark, ends_language, ends_languages, singletons_end, front_whole}
use Rattle.icu_locale_extensions.proofs.WrittenPieces.{Complete, lower_read, subtags_read, pieces-written}

-- ---- lower case stays

lower_stays : (ps : List (List ℕ)) → All (λ p. lowercase p ≡ p) ps → map lowercase ps ≡ ps
lower_stays [] each = refl
lower_stays (p ∷ ps) each = λ i. All-head (λ q. lowercase q ≡ q) p ps each i ∷ lower_stays ps (All-tail (λ q. lowercase q ≡ q) p ps each) i

pieces_stay : (low : ℕ) (ps : List (List ℕ)) → All (IsPiece low) ps → map lowercase ps ≡ ps
pieces_stay low ps each = lower_stays ps (All-weaker (IsPiece low) (λ p. lowercase p ≡ p) (λ p is. is.written) ps each)

subtags_stay : (ps : List (List ℕ)) → All IsSubtag ps → map lowercase ps ≡ ps
subtags_stay ps each = lower_stays ps (All-weaker IsSubtag (λ p. lowercase p ≡ p) (λ p is. is.written) ps each)

plain_kept : (v : List (List ℕ)) → list_all (λ p. not (is_true p)) v ≡ true → filter (λ p. not (is_true p)) v ≡ v
plain_kept [] plain = refl
plain_kept (p ∷ ps) plain =
    let both = and_parts (not (is_true p)) (list_all (λ q. not (is_true q)) ps) plain in
    ap (λ b. cond b (p ∷ filter (λ q. not (is_true q)) ps) (filter (λ q. not (is_true q)) ps)) both.0 ∙ ap (λ r. p ∷ r) (plain_kept ps both.1)

value_stays : (v : List (List ℕ)) → IsValue v → read_subtags v ≡ v
value_stays v is = ap (filter (λ p. not (is_true p))) (subtags_stay v is.each) ∙ plain_kept v is.plain

-- ---- a part is read up to what is none of it

-- a list is cut at a mark
pub cut : (m : List ℕ → Bool) (ps rest : List (List ℕ)) → All (λ p. m p ≡ false) ps → begins_at_mark m rest ≡ true
    → (front m (ps ++ rest) ≡ ps) × (from m (ps ++ rest) ≡ rest)
cut m [] [] each stop = (refl, refl)
cut m [] (q ∷ qs) each stop = (rw stop refl, rw stop refl)
cut m (p ∷ ps) rest each stop =
    let here = All-head (λ q. m q ≡ false) p ps each in
    let ih = cut m ps rest (All-tail (λ q. m q ≡ false) p ps each) stop in
    (rw here (ap (λ qs. p ∷ qs) ih.0), rw here ih.1)

stops_at : (b : List ℕ → Bool) (rest : List (List ℕ)) → first_is b rest ≡ false → begins_at_mark (other_than b) rest ≡ true
stops_at b [] stop = refl
stops_at b (p ∷ ps) stop = ap not stop

pub segment : (part : Part) (ps rest : List (List ℕ)) (x : LocaleIdentifier) → All (λ p. belongs part p ≡ true) ps → first_is (belongs part) rest ≡ false
    → read_on part [] x (ps ++ rest) ≡ and_then (added part ps x) (λ y. read_on (closed part) [] y rest)
segment part ps rest x each stop =
    let both = cut (other_than (belongs part)) ps rest
    (All-weaker (λ p. belongs part p ≡ true) (λ p. not (belongs part p) ≡ false) (λ p is. ap not is) ps each) (stops_at (belongs part) rest stop) in
    taken part [] x (ps ++ rest) ∙ (λ i. and_then (added part (both.0 i) x) (λ y. read_on (closed part) [] y (both.1 i)))

-- a singleton is one character, so it belongs to nothing that has more
pub stop : (m : List ℕ → Bool) → ((c : ℕ) → m (c ∷ []) ≡ false) → (rest : List (List ℕ)) → begins_at_mark is_singleton rest ≡ true → first_is m rest ≡ false
stop m none [] is = refl
stop m none ([] ∷ ps) is = absurd (false≢true is)
stop m none ((c ∷ []) ∷ ps) is = none c
stop m none ((c ∷ d ∷ p) ∷ ps) is = absurd (false≢true (long c d p is))
  where
    long : (c d : ℕ) (p : List ℕ) → is_singleton (c ∷ d ∷ p) ≡ true → false ≡ true
    long c d p is = grind (arith, nat_tests)

-- ---- rows that rise

front_rises : (rows more : List Block) → IsSortedMap text_cmp (rows ++ more) → IsSortedMap text_cmp rows
unfolding IsStrictlySortedBy
front_rises [] more rises = tt
front_rises (row ∷ rows) more rises = (kept rows rises.0, front_rises rows more rises.1)
  where
    kept : (rows : List Block) → AllByRecursion (λ k. text_cmp row.0 k ≡ Less) (keys_of (rows ++ more))
        → AllByRecursion (λ k. text_cmp row.0 k ≡ Less) (keys_of rows)
    kept [] each = tt
    kept (r ∷ rs) each = (each.0, kept rs each.1)

longer : (old : List Block) (row : Block) → old ++ row ∷ [] ≡ old → ⊥
longer old row same = omega (arith, length-append old (row ∷ []), ap length same)

-- rows that find what old rows and one behind them find
added_first : (old new : List Block) (row : Block) → IsSortedMap text_cmp old → IsSortedMap text_cmp new
    → FindsAlike text_cmp new (old ++ row ∷ []) → new ≡ add_first text_cmp old row.0 row.1
added_first old new (k, v) rises new_rises alike = by (value_at text_cmp old k) refl
  where
    by : (o : Option (List (List ℕ))) → value_at text_cmp old k ≡ o → new ≡ add_first text_cmp old k v
    by None e = rw e (same_sorted_map text_total text_same new _ new_rises (IsSortedMap-insert_entry text_total old k v rises)
        (λ q. alike q ∙ sym (first_is_new text_total old k v _ e (SetsOnly-insert_entry text_total old k v) q)))
    by (Some u) e = rw e (same_sorted_map text_total text_same new old new_rises rises
        (λ q. alike q ∙ sym (first_is_there text_total old k v (rw e refl) q)))

-- a row above all is new, and goes behind them
appended : (old : List Block) (row : Block) → IsSortedMap text_cmp (old ++ row ∷ [])
    → (is_some (value_at text_cmp old row.0) ≡ false) × (add_first text_cmp old row.0 row.1 ≡ old ++ row ∷ [])
appended old row rises =
    let same = added_first old (old ++ row ∷ []) row (front_rises old (row ∷ []) rises) rises (λ q. refl) in
    (by (value_at text_cmp old row.0) refl same, sym same)
  where
    by : (o : Option (List (List ℕ))) → value_at text_cmp old row.0 ≡ o → old ++ row ∷ [] ≡ add_first text_cmp old row.0 row.1 → is_some (value_at text_cmp old row.0) ≡ false
    by None e same = ap is_some e
    by (Some v) e same = absurd (longer old row (same ∙ ap (λ o. if is_some o then old else insert_entry text_cmp old row.0 row.1) e))

module _ (F : Part) (m : List ℕ → Bool) (at : List Block → LocaleIdentifier) (Q : Block → Type 0)
    (reads : (old : List Block) (row : Block) (rest : List (List ℕ)) → Q row → is_some (value_at text_cmp old row.0) ≡ false → first_is m rest ≡ false
    → read_on F [] (at old) (row.0 ∷ (row.1 ++ rest)) ≡ read_on F [] (at (add_first text_cmp old row.0 row.1)) rest)
    (mark : (row : Block) → Q row → m row.0 ≡ false) where
  first : (rows : List Block) (rest : List (List ℕ)) → All Q rows → first_is m rest ≡ false → first_is m (flat rows ++ rest) ≡ false
  first [] rest each stop = stop
  first (row ∷ rows) rest each stop = mark row (All-head Q row rows each)

  pub rows_written : (rows old : List Block) (rest : List (List ℕ)) → All Q rows → IsSortedMap text_cmp (old ++ rows) → first_is m rest ≡ false
      → read_on F [] (at old) (flat rows ++ rest) ≡ read_on F [] (at (old ++ rows)) rest
  rows_written [] old rest each rises stop = ap (λ rows. read_on F [] (at rows) rest) (sym (append-nil old))
  rows_written (row ∷ rows) old rest each rises stop =
      let joined = append_assoc old (row ∷ []) rows in
      let one = appended old row (front_rises (old ++ row ∷ []) rows (subst (IsSortedMap text_cmp) (sym joined) rises)) in
      let tail = All-tail Q row rows each in
      ap (λ ps. read_on F [] (at old) (row.0 ∷ ps)) (append_assoc row.1 (flat rows) rest)
      ∙ reads old row (flat rows ++ rest) (All-head Q row rows each) one.0 (first rows rest tail stop)
      ∙ ap (λ rs. read_on F [] (at rs) (flat rows ++ rest)) one.1
      ∙ rows_written rows (old ++ row ∷ []) rest tail (subst (IsSortedMap text_cmp) (sym joined) rises) stop
      ∙ ap (λ rs. read_on F [] (at rs) rest) joined

-- ---- each kind of row

pub two_letters : (p : List ℕ) → is_key p ≡ true → is_subtag p ≡ false
two_letters [] is = refl
two_letters (c ∷ []) is = refl
two_letters (c ∷ d ∷ []) is = refl
two_letters (c ∷ d ∷ e ∷ p) is = absurd (false≢true is)

pub two_signs : (p : List ℕ) → is_tkey p ≡ true → is_piece 3 p ≡ false
two_signs [] is = refl
two_signs (c ∷ []) is = refl
two_signs (c ∷ d ∷ []) is = refl
two_signs (c ∷ d ∷ e ∷ p) is = absurd (false≢true is)

pub one_sign : (p : List ℕ) → is_other_singleton p ≡ true → is_piece 2 p ≡ false
one_sign [] is = refl
one_sign (c ∷ []) is = refl
one_sign (c ∷ d ∷ p) is = absurd (false≢true (long c d p is))
  where
    long : (c d : ℕ) (p : List ℕ) → is_other_singleton (c ∷ d ∷ p) ≡ true → false ≡ true
    long c d p is = grind (arith, nat_tests)

-- pieces that follow a mark
pub begins_with : (low : ℕ) (ps rest : List (List ℕ)) → ArePieces low ps → first_is (is_piece low) (ps ++ rest) ≡ true
begins_with low [] rest are = absurd (false≢true are.some)
begins_with low (p ∷ ps) rest are = (All-head (IsPiece low) p ps are.each).member

each_piece : (low : ℕ) (ps : List (List ℕ)) → All (IsPiece low) ps → All (λ p. is_piece low p ≡ true) ps
each_piece low ps each = All-weaker (IsPiece low) (λ p. is_piece low p ≡ true) (λ p is. is.member) ps each

each_subtag : (ps : List (List ℕ)) → All IsSubtag ps → All (λ p. is_subtag p ≡ true) ps
each_subtag ps each = All-weaker IsSubtag (λ p. is_subtag p ≡ true) (λ p is. is.member) ps each

pub keywords_written : (y : LocaleIdentifier) (rows : List Block) (rest : List (List ℕ)) → All IsKeyword rows → IsSortedMap text_cmp rows → first_is is_subtag rest ≡ false
    → read_on keywords [] (with_keywords y []) (flat rows ++ rest) ≡ read_on keywords [] (with_keywords y rows) rest
keywords_written y rows rest each rises stop = rows_written keywords is_subtag (with_keywords y) IsKeyword
    (λ old row rest is fresh stop.
    (λ i. read_opened (if is.key.member i then Some (keyword (is.key.written i)) else marked (with_keywords y old) row.0) (with_keywords y old) (row.1 ++ rest))
    ∙ segment (keyword row.0) row.1 rest (with_keywords y old) (each_subtag row.1 is.value.each) stop
    ∙ ap (λ v. read_on keywords [] (with_keywords y (add_first text_cmp old row.0 v)) rest) (value_stays row.1 is.value))
    (λ row is. two_letters row.0 is.key.member) rows [] rest each rises stop

pub fields_written : (y : LocaleIdentifier) (rows : List Block) (rest : List (List ℕ)) → All IsField rows → IsSortedMap text_cmp rows → first_is (is_piece 3) rest ≡ false
    → read_on fields [] (with_fields y []) (flat rows ++ rest) ≡ read_on fields [] (with_fields y rows) rest
fields_written y rows rest each rises stop = rows_written fields (is_piece 3) (with_fields y) IsField
    (λ old row rest is fresh stop.
    (λ i. read_opened (if is.key.member i then Some (field (is.key.written i)) else marked (with_fields y old) row.0) (with_fields y old) (row.1 ++ rest))
    ∙ rw (begins_with 3 row.1 rest is.value) (segment (field row.0) row.1 rest (with_fields y old) (each_piece 3 row.1 is.value.each) stop
    ∙ ap (λ v. read_on fields [] (with_fields y (add_first text_cmp old row.0 v)) rest) (pieces_stay 3 row.1 is.value.each)))
    (λ row is. two_signs row.0 is.key.member) rows [] rest each rises stop

pub none_of_three : (a b c : Bool) → not (a || (b || c)) ≡ true → (a ≡ false) × ((b ≡ false) × (c ≡ false))
none_of_three true b c e = absurd (false≢true e)
none_of_three false true c e = absurd (false≢true e)
none_of_three false false true e = absurd (false≢true e)
none_of_three false false false e = (refl, (refl, refl))

pub others_written : (y : LocaleIdentifier) (rows old : List Block) (rest : List (List ℕ)) → All IsOther rows → IsSortedMap text_cmp (old ++ rows)
    → first_is (is_piece 2) rest ≡ false → read_on whole [] (with_others y old) (flat rows ++ rest) ≡ read_on whole [] (with_others y (old ++ rows)) rest
others_written y rows old rest each rises stop = rows_written whole (is_piece 2) (with_others y) IsOther
    (λ old row rest is fresh stop.
    let z = with_others y old in
    let name = none_of_three (is_t row.0) (is_u row.0) (is_x row.0) (and_parts _ (not (is_t row.0 || (is_u row.0 || is_x row.0))) is.singleton.member).1 in
    let there = λ (k : List ℕ). is_some (value_at text_cmp old k) in
    (λ i. read_opened (if name.1.0 i then opened_unicode z else (if name.0 i then opened_transform z else (if name.1.1 i then Some private_use
    else (if is.singleton.member i && not ((ap there is.singleton.written ∙ fresh) i) then Some (other (is.singleton.written i)) else None)))) z (row.1 ++ rest))
    ∙ rw (begins_with 2 row.1 rest is.pieces) (segment (other row.0) row.1 rest z (each_piece 2 row.1 is.pieces.each) stop
    ∙ ap (λ v. read_on whole [] (with_others y (add_first text_cmp old row.0 v)) rest) (pieces_stay 2 row.1 is.pieces.each)))
    (λ row is. one_sign row.0 is.singleton.member) rows old rest each rises stop

-- ---- u, t and x

abbrev pub with_unicode : LocaleIdentifier → List (List ℕ) → List Block → LocaleIdentifier
with_unicode y ps rows = with_keywords (with_attributes y ps) rows

abbrev pub with_transform : LocaleIdentifier → Option LanguageIdentifier → List Block → LocaleIdentifier
with_transform y lang rows = record y {
  locale = record y.locale { extensions = record y.locale.extensions { transform = record { lang = lang } } };
  fields = rows;
}

pub or_second : (a b : Bool) → b ≡ true → (a || b) ≡ true
or_second true b e = refl
or_second false b e = e

pub or_first : (a b : Bool) → a ≡ true → (a || b) ≡ true
or_first true b e = refl
or_first false b e = absurd (false≢true e)

-- rows, and then a singleton
at_rows : {Q : Block → Type 0} (m : List ℕ → Bool) → ((row : Block) → Q row → m row.0 ≡ false) → ((c : ℕ) → m (c ∷ []) ≡ false) → (rows : List Block)
    (rest : List (List ℕ)) → All Q rows → begins_at_mark is_singleton rest ≡ true → first_is m (flat rows ++ rest) ≡ false
at_rows m mark none [] rest each at = stop m none rest at
at_rows {Q} m mark none (row ∷ rows) rest each at = mark row (All-head Q row rows each)

module _ (y : LocaleIdentifier) (rows : List Block) (rest : List (List ℕ)) (each : All IsKeyword rows) (rises : IsSortedMap text_cmp rows)
    (at : begins_at_mark is_singleton rest ≡ true) where
  after_u : (ps : List (List ℕ)) → AreAttributes ps → read_on attributes [] (with_unicode y [] []) ((ps ++ flat rows) ++ rest) ≡ read_on whole [] (with_unicode y ps rows) rest
  after_u ps are =
      ap (read_on attributes [] (with_unicode y [] [])) (append_assoc ps (flat rows) rest)
      ∙ segment attributes ps (flat rows ++ rest) (with_unicode y [] []) (each_subtag ps are.each)
      (at_rows {Q = IsKeyword} is_subtag (λ row is. two_letters row.0 is.key.member) (λ c. refl) rows rest each at)
      ∙ ap (λ qs. read_on keywords [] (with_unicode y qs []) (flat rows ++ rest))
      (ap (λ qs. rising (from_list qs)) (subtags_stay ps are.each) ∙ rising-from_list ps are.rise)
      ∙ keywords_written (with_attributes y ps) rows rest each rises (stop is_subtag (λ c. refl) rest at)
      ∙ key_none keywords is_key keyword (λ x p ps. refl) (λ x. refl) (with_unicode y ps rows) rest (stop is_key (λ c. refl) rest at)

pub unicode_written : (y : LocaleIdentifier) (ps : List (List ℕ)) (rows : List Block) (rest : List (List ℕ)) → AreAttributes ps → All IsKeyword rows
    → IsSortedMap text_cmp rows → begins_at_mark is_singleton rest ≡ true
    → read_on whole [] (with_unicode y [] []) (locales.marked (codes "u") (ps ++ flat rows) ++ rest) ≡ read_on whole [] (with_unicode y ps rows) rest
unicode_written y [] [] rest are each rises at = refl
unicode_written y [] (row ∷ rows) rest are each rises at =
    rw (or_second (is_subtag row.0) (is_key row.0) (All-head IsKeyword row rows each).key.member) (after_u y (row ∷ rows) rest each rises at [] are)
unicode_written y (p ∷ ps) rows rest are each rises at =
    rw (or_first (is_subtag p) (is_key p) (All-head IsSubtag p ps are.each).member) (after_u y rows rest each rises at (p ∷ ps) are)

module _ (y : LocaleIdentifier) (rows : List Block) (rest : List (List ℕ)) (each : All IsField rows) (rises : IsSortedMap text_cmp rows)
    (at : begins_at_mark is_singleton rest ≡ true) where
  after_t : (lang : Option LanguageIdentifier) (ps : List (List ℕ)) → All (λ p. belongs language p ≡ true) ps
      → added language ps (with_transform y None []) ≡ Ok (with_transform y lang [])
      → read_on language [] (with_transform y None []) ((ps ++ flat rows) ++ rest) ≡ read_on whole [] (with_transform y lang rows) rest
  after_t lang ps belong is =
      ap (read_on language [] (with_transform y None [])) (append_assoc ps (flat rows) rest)
      ∙ segment language ps (flat rows ++ rest) (with_transform y None []) belong
      (at_rows {Q = IsField} (belongs language) (λ row is. ap not (or_first (is_tkey row.0) (is_singleton row.0) is.key.member)) (λ c. refl) rows rest each at)
      ∙ ap (λ r. and_then r (λ z. read_on fields [] z (flat rows ++ rest))) is
      ∙ fields_written (with_transform y lang []) rows rest each rises (stop (is_piece 3) (λ c. refl) rest at)
      ∙ key_none fields is_tkey field (λ x p ps. refl) (λ x. refl) (with_transform y lang rows) rest (stop is_tkey (λ c. refl) rest at)

pub tkey_long : (p : List ℕ) → is_tkey p ≡ true → is_singleton p ≡ false
tkey_long [] is = absurd (false≢true is)
tkey_long (c ∷ []) is = absurd (false≢true is)
tkey_long (c ∷ d ∷ []) is = refl
tkey_long (c ∷ d ∷ e ∷ p) is = absurd (false≢true is)

is_tkey-lowercase : (p : List ℕ) → is_tkey (lowercase p) ≡ is_tkey p
is_tkey-lowercase [] = refl
is_tkey-lowercase (c ∷ []) = refl
is_tkey-lowercase (c ∷ d ∷ []) =
    let first : is_ascii_alphabetic (to_ascii_lowercase c) ≡ is_ascii_alphabetic c = grind (arith, nat_tests) in
    let second : is_ascii_digit (to_ascii_lowercase d) ≡ is_ascii_digit d = grind (arith, nat_tests) in
    λ i. first i && second i
is_tkey-lowercase (c ∷ d ∷ e ∷ t) = refl

ends-lowercase : (p : List ℕ) → ends_language (lowercase p) ≡ ends_language p
ends-lowercase p = λ i. is_tkey-lowercase p i || (length-map p to_ascii_lowercase i == 1)

-- the subtags of a language belong to it
language_belongs : (l : LanguageIdentifier) → IsIdentifier l → All (λ p. belongs language p ≡ true) (lower_subtags (Some l))
language_belongs l is = lowered (subtags l (rising l.variants)) (classes.each_subtag (λ p. ends_language p ≡ false)
    (λ p h. ends_languages.language p h.member) (λ p h. ends_languages.script p h.member) (λ p h. ends_languages.region p h.member)
    (λ p h. variant (ends_language p) (is_variant p) h.member (ends_languages.variant p)) l is (rising l.variants) (rising_variants l is))
  where
    variant : (a b : Bool) → b ≡ true → (a ≡ true → b ≡ false) → a ≡ false
    variant true b e f = absurd (false≢true (sym (f refl) ∙ e))
    variant false b e f = refl

    lowered : (ps : List (List ℕ)) → All (λ p. ends_language p ≡ false) ps → All (λ p. belongs language p ≡ true) (map lowercase ps)
    lowered [] all = All-nil (λ p. belongs language p ≡ true)
    lowered (p ∷ ps) all = All-cons (λ p. belongs language p ≡ true) (lowercase p) (map lowercase ps)
        (ap not (ends-lowercase p ∙ All-head (λ p. ends_language p ≡ false) p ps all)) (lowered ps (All-tail (λ p. ends_language p ≡ false) p ps all))

pub belongs_long : (p : List ℕ) → belongs language p ≡ true → is_singleton p ≡ false
belongs_long p is = by (is_tkey p) (is_singleton p) is
  where
    by : (a b : Bool) → not (a || b) ≡ true → b ≡ false
    by true b e = absurd (false≢true e)
    by false true e = absurd (false≢true e)
    by false false e = refl

t_starts : (y : LocaleIdentifier) (p : List ℕ) (ps : List (List ℕ)) → is_singleton p ≡ false
    → read_on whole [] (with_transform y None []) (codes "t" ∷ p ∷ ps) ≡ read_on language [] (with_transform y None []) (p ∷ ps)
t_starts y p ps is = ap (λ b. if not b then read_on language [] (with_transform y None []) (p ∷ ps) else Err InvalidSubtag) is

pub transform_written : Complete → (y : LocaleIdentifier) (lang : Option LanguageIdentifier) (rows : List Block) (rest : List (List ℕ)) → IfSome lang IsIdentifier
    → All IsField rows → IsSortedMap text_cmp rows → begins_at_mark is_singleton rest ≡ true
    → read_on whole [] (with_transform y None []) (locales.marked (codes "t") (lower_subtags lang ++ flat rows) ++ rest) ≡ read_on whole [] (with_transform y lang rows) rest
transform_written complete y None [] rest is each rises at = refl
transform_written complete y None (row ∷ rows) rest is each rises at =
    t_starts y row.0 ((row.1 ++ flat rows) ++ rest) (tkey_long row.0 (All-head IsField row rows each).key.member) ∙ (after_t y (row ∷ rows) rest each rises at None [] (All-nil _) refl)
transform_written complete y (Some l) rows rest is each rises at =
    let belong = language_belongs l is in
    t_starts y (lowercase l.language) ((map lowercase (option_to_list l.script ++ (option_to_list l.region ++ rising l.variants)) ++ flat rows) ++ rest) (belongs_long (lowercase l.language) (All-head (λ p. belongs language p ≡ true) (lowercase l.language) _ belong))
    ∙ (after_t y rows rest each rises at (Some l) (lower_subtags (Some l)) belong (ap (with_read (with_transform y None [])) (lower_read complete l is)))

pub private_written : (y : LocaleIdentifier) (o : Option (List (List ℕ))) → IfSome o (ArePieces 1)
    → read_on whole [] (record y { private_use = None }) (marked_if_any (codes "x") o) ≡ Ok (record y { private_use = o })
private_written y None are = refl
private_written y (Some ps) are =
    let z = record y { private_use = None } in
    ap (λ qs. read_opened (Some private_use) z qs) (sym (append-nil ps))
    ∙ rw (begins_with 1 ps [] are) (segment private_use ps [] z (each_piece 1 ps are.each) refl ∙ ap (λ v. Ok (with_private_use z v)) (pieces_stay 1 ps are.each))

-- ---- rows before t, and those after

below_all_kept : (bound : List ℕ) (k : List ℕ) (rows : List Block) → AllByRecursion (λ other. text_cmp k other ≡ Less) (keys_of rows)
    → is_lt (text_cmp k bound) ≡ false
    → filter (λ e. is_lt (text_cmp e.0 bound)) rows ≡ []
below_all_kept bound k [] above not_below = refl
below_all_kept bound k (row ∷ rows) above not_below = by (text_cmp row.0 bound) refl (below_all_kept bound k rows above.1 not_below)
  where
    by : (o : Ordering) → text_cmp row.0 bound ≡ o → filter (λ e. is_lt (text_cmp e.0 bound)) rows ≡ []
        → cond (is_lt (text_cmp row.0 bound)) (row ∷ filter (λ e. is_lt (text_cmp e.0 bound)) rows) (filter (λ e. is_lt (text_cmp e.0 bound)) rows) ≡ []
    by Less e rest = absurd (false≢true (sym not_below ∙ ap is_lt (text_total.trans k row.0 bound above.0 e)))
    by Equal e rest = ap (λ o. cond (is_lt o) (row ∷ filter (λ e. is_lt (text_cmp e.0 bound)) rows) (filter (λ e. is_lt (text_cmp e.0 bound)) rows)) e ∙ rest
    by Greater e rest = ap (λ o. cond (is_lt o) (row ∷ filter (λ e. is_lt (text_cmp e.0 bound)) rows) (filter (λ e. is_lt (text_cmp e.0 bound)) rows)) e ∙ rest

-- rows that rise fall apart into those below a text and the others
split_at : (bound : List ℕ) (rows : List Block) → IsSortedMap text_cmp rows
    → filter (λ e. is_lt (text_cmp e.0 bound)) rows ++ filter (λ e. not (is_lt (text_cmp e.0 bound))) rows ≡ rows
split_at bound [] rises = refl
split_at bound (row ∷ rows) rises = by (is_lt (text_cmp row.0 bound)) refl (split_at bound rows (sorted_tail text_cmp row.0 (keys_of rows) rises))
  where
    low : List Block
    low = filter (λ e. is_lt (text_cmp e.0 bound)) rows

    high : List Block
    high = filter (λ e. not (is_lt (text_cmp e.0 bound))) rows

    by : (b : Bool) → is_lt (text_cmp row.0 bound) ≡ b → low ++ high ≡ rows
        → cond (is_lt (text_cmp row.0 bound)) (row ∷ low) low ++ cond (not (is_lt (text_cmp row.0 bound))) (row ∷ high) high ≡ row ∷ rows
    by true e rest = ap (λ b. cond b (row ∷ low) low ++ cond (not b) (row ∷ high) high) e ∙ ap (λ r. row ∷ r) rest
    by false e rest =
        let none : low ≡ [] = below_all_kept bound row.0 rows (sorted_head text_cmp row.0 (keys_of rows) rises) e in
        ap (λ b. cond b (row ∷ low) low ++ cond (not b) (row ∷ high) high) e
        ∙ ap (λ l. l ++ row ∷ high) none ∙ ap (λ r. row ∷ r) (ap (λ l. l ++ high) (sym none) ∙ rest)

below-above : (rows : List Block) → IsSortedMap text_cmp rows → below_t rows ++ above_t rows ≡ rows
below-above rows rises = split_at (codes "t") rows rises

long_no_singleton : (p : List ℕ) → IsPart 2 p → is_singleton p ≡ false
long_no_singleton p is = let long = is.long in grind (arith, nat_tests)

-- ---- the whole

marks_rows : (rows : List Block) (rest : List (List ℕ)) → All IsOther rows → begins_at_mark is_singleton rest ≡ true → begins_at_mark is_singleton (flat rows ++ rest) ≡ true
marks_rows [] rest each at = at
marks_rows (row ∷ rows) rest each at = (and_parts (is_singleton row.0) (is_alphanumeric row.0) (and_parts (is_singleton row.0 && is_alphanumeric row.0) _
    (All-head IsOther row rows each).singleton.member).0).0

marks_marked : (mark : List ℕ) (ps rest : List (List ℕ)) → is_singleton mark ≡ true → begins_at_mark is_singleton rest ≡ true
    → begins_at_mark is_singleton (locales.marked mark ps ++ rest) ≡ true
marks_marked mark [] rest is at = at
marks_marked mark (p ∷ ps) rest is at = is

marks_private : (o : Option (List (List ℕ))) → begins_at_mark is_singleton (marked_if_any (codes "x") o) ≡ true
marks_private None = refl
marks_private (Some ps) = refl

pub written_read : Complete → (x : LocaleIdentifier) → IsLocaleIdentifier x → read (pieces (locales.written x)) ≡ Ok x
written_read complete x is =
    let id = x.locale.id in
    let below = below_t x.others in
    let above = above_t x.others in
    let all = below-above x.others is.others in
    let low : All IsOther below = All-filter _ IsOther x.others is.each_other in
    let high : All IsOther above = All-filter _ IsOther x.others is.each_other in
    let p = marked_if_any (codes "x") x.private_use in
    let a = flat above ++ p in
    let u = locales.marked (codes "u") (unicode_pieces x) ++ a in
    let t = locales.marked (codes "t") (transform_pieces x) ++ u in
    let at_a = marks_rows above p high (marks_private x.private_use) in
    let at_u = marks_marked (codes "u") (unicode_pieces x) a refl at_a in
    let at_t = marks_marked (codes "t") (transform_pieces x) u refl at_u in
    let ids = cut is_singleton (subtags id (rising id.variants)) (flat below ++ t)
    (All-weaker (IsPart 2) (λ p. is_singleton p ≡ false) long_no_singleton (subtags id (rising id.variants)) (subtag_parts id is.id (rising id.variants) (rising_variants id is.id)))
    (marks_rows below t low at_t) in
    let front = front_whole is_singleton singletons_end (written_pieces x) _ _ id ids.0 ids.1 (subtags_read complete id is.id) in
    let y1 = with_others (bare id) below in
    let y2 = with_transform y1 x.locale.extensions.transform.lang x.fields in
    let y3 = with_unicode y2 x.attributes x.locale.extensions.unicode.keywords in
    let y4 = with_others y3 (below ++ above) in
    let rises : IsSortedMap text_cmp (below ++ above) = subst (IsSortedMap text_cmp) (sym all) is.others in
    ap read (pieces-written x is)
    ∙ (λ i. and_then (front.0 i) (λ l. read_on whole [] (bare l) (front.1 i)))
    ∙ others_written (bare id) below [] t low (front_rises below above rises) (stop (is_piece 2) (λ c. refl) t at_t)
    ∙ transform_written complete y1 x.locale.extensions.transform.lang x.fields u is.language is.each_field is.fields at_u
    ∙ unicode_written y2 x.attributes x.locale.extensions.unicode.keywords a is.attributes is.each_keyword is.keywords at_a
    ∙ others_written y3 above below p high rises (stop (is_piece 2) (λ c. refl) p (marks_private x.private_use))
    ∙ private_written y4 x.private_use is.private_use
    ∙ ap (λ rows. Ok (with_others x rows)) all
