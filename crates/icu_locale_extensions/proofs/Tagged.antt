-- What the grammar of UTS #35 derives is a well-formed tag of BCP 47.
use Rattle.std.proofs.Common.{◌≡◌, ◌≤◌, ℕ, Bool, true, false, not, ◌&&◌, ◌||◌, List, [], ◌∷◌, ◌++◌, map, codes, Option, None, Some, refl, ap, sym, subst, ◌∙◌, arith, append_assoc, append-nil}
use Rattle.std.specs.List.{list_all, list_any}
use Rattle.std.specs.Prelude.{filter, is_some, if◌then◌else◌}
use Rattle.std.specs.Option.{option_or}
use Rattle.std.specs.BTreeMap.{insert_entry}
use Rattle.std.proofs.lemmas.Bool.{and_parts, and_from, false≢true}
use Rattle.std.proofs.lemmas.Bool.Decides.{nat_tests}
use Rattle.icu_locale_core.specs.Maps.{FindsAlike, add_first, value_at}
use Rattle.icu_locale_core.specs.TextSet.{text_cmp}
use Rattle.icu_locale_core.specs.laws.FirstRows.{first_is_new, first_is_there, value_at-append}
use Rattle.icu_locale_core.specs.laws.Maps.{SetsOnly-insert_entry}
use Rattle.icu_locale_core.specs.laws.TextSets.{text_total}
use Rattle.icu_locale_core.specs.laws.Classes.{part_key, part_language, part_region, part_script, part_variant}
use Rattle.icu_locale_core.specs.Subtag.{has_length, is_alphabetic, is_alphanumeric, is_key, is_numeric, starts_with_digit, is_language, is_region, is_script, is_variant, lowercase, titlecase, uppercase}
use Rattle.icu_locale_core.specs.laws.Identifiers.{same_text}
use Rattle.icu_locale_core.specs.declared.langid.LanguageIdentifier.{LanguageIdentifier}
use Rattle.icu_locale_extensions.specs.Built.{bare}
use Rattle.icu_locale_core.specs.Cuts.{Block}
use Rattle.icu_locale_extensions.specs.Extensions.{any_piece, is_other_singleton, is_piece, is_singleton, is_t, is_tkey, is_u, is_x}
use Rattle.icu_locale_extensions.specs.Grammar.{One, one, AtMostOne, absent, present, AnyNumber, done, next, AtLeastOne, first}
use Rattle.icu_locale_extensions.specs.Grammar as grammar
use Rattle.icu_locale_extensions.specs.Grammar.{IsLanguageId, language_id, Meaning, IsTypes, IsKeyword, keyword, IsTfield, tfield}
use Rattle.icu_locale_extensions.specs.Grammar.{IsExtension, IsUnicodeExtension, of_keywords, of_attributes, IsTransformedExtension, of_tlang, of_tfields, IsOtherExtension, of_other}
use Rattle.icu_locale_extensions.specs.Grammar.{IsLocaleId, locale_id, IsPrivateUse, add, add_all, add_private_use, unicode_of, transform_of, other_of, add_language}
use Rattle.icu_locale_extensions.specs.Tags.{are_letters, extlang, is_apart, NamesLanguage, Tag, IsLangtag, IsTagLanguage, IsTagOf, IsTagExtension, extension, shortest, langtag, is_tag_singleton}
use Rattle.icu_locale_extensions.specs.ExtendedLanguages.{extended_languages}
use Rattle.icu_locale_extensions.specs.Syntaxes.{is_registered}
use Rattle.icu_locale_extensions.specs.declared.identifier.LocaleIdentifier.{LocaleIdentifier}
use Rattle.icu_locale_extensions.proofs.Derived.{each_some, named, other_lower}
use Rattle.icu_locale_extensions.proofs.LanguageIds.{each_derived}
use Rattle.icu_locale_extensions.proofs.Spellings.{alphanumeric-lowercase, lowercase-twice}

-- ---- pieces of 2 to 8 letters or digits

abbrev ArePieces2 : List (List ℕ) → Type 0
ArePieces2 ps = list_all (is_piece 2) ps ≡ true

both : (ps qs : List (List ℕ)) → ArePieces2 ps → ArePieces2 qs → ArePieces2 (ps ++ qs)
both [] qs p q = q
both (r ∷ ps) qs p q =
    let parts = and_parts (is_piece 2 r) (list_all (is_piece 2) ps) p in
    and_from (is_piece 2 r) (list_all (is_piece 2) (ps ++ qs)) parts.0 (both ps qs parts.1 q)

alone : (p : List ℕ) → is_piece 2 p ≡ true → ArePieces2 (p ∷ [])
alone p is = and_from (is_piece 2 p) true is refl

module _ {V : Type 0} (P : List (List ℕ) → V → Type 0) (each : (ps : List (List ℕ)) (v : V) → P ps v → ArePieces2 ps) where
  of_any : (ps : List (List ℕ)) (vs : List V) → AnyNumber P ps vs → ArePieces2 ps
  of_any ps vs done = refl
  of_any ps vs (next qs rs v us d ds) = both qs rs (each qs v d) (of_any rs us ds)

  of_some : (ps : List (List ℕ)) (vs : List V) → AtLeastOne P ps vs → ArePieces2 ps
  of_some ps vs (first qs rs v us d ds) = both qs rs (each qs v d) (of_any rs us ds)

  of_most : (ps : List (List ℕ)) (o : Option V) → AtMostOne P ps o → ArePieces2 ps
  of_most ps o absent = refl
  of_most ps o (present qs v d) = each qs v d

of_one : (m : List ℕ → Bool) (w : List ℕ → List ℕ) → ((p : List ℕ) → m p ≡ true → is_piece 2 p ≡ true) → (ps : List (List ℕ)) (v : List ℕ) → One m w ps v → ArePieces2 ps
of_one m w each ps v (one p is) = alone p (each p is)

-- ---- each class of subtags

module _ (p : List ℕ) where
  piece : (low high : ℕ) → has_length low high p ≡ true → 2 ≤ low → high ≤ 8 → is_alphanumeric p ≡ true → is_piece 2 p ≡ true
  piece low high long least most plain = and_from (has_length 2 8 p) (is_alphanumeric p) (grind (arith, nat_tests)) plain

  of_language : is_language p ≡ true → is_piece 2 p ≡ true
  of_language is = piece 2 3 (and_parts (has_length 2 3 p) (is_alphabetic p) is).0 (omega arith) (omega arith) (part_language p is).plain

  of_script : is_script p ≡ true → is_piece 2 p ≡ true
  of_script is = piece 4 4 (and_parts (has_length 4 4 p) (is_alphabetic p) is).0 (omega arith) (omega arith) (part_script p is).plain

  of_region : is_region p ≡ true → is_piece 2 p ≡ true
  of_region is = by (has_length 2 2 p) (has_length 3 3 p) refl refl is
    where
      by : (b c : Bool) → has_length 2 2 p ≡ b → has_length 3 3 p ≡ c → ((b && is_alphabetic p) || (c && is_numeric p)) ≡ true → is_piece 2 p ≡ true
      by true c e f some = piece 2 2 e (omega arith) (omega arith) (part_region p is).plain
      by false true e f some = piece 3 3 f (omega arith) (omega arith) (part_region p is).plain
      by false false e f some = absurd (false≢true some)

  of_variant : is_variant p ≡ true → is_piece 2 p ≡ true
  of_variant is = by (has_length 5 8 p) (has_length 4 4 p) refl refl (and_parts (has_length 5 8 p || (has_length 4 4 p && starts_with_digit p)) (is_alphanumeric p) is).0
    where
      by : (b c : Bool) → has_length 5 8 p ≡ b → has_length 4 4 p ≡ c → (b || (c && starts_with_digit p)) ≡ true → is_piece 2 p ≡ true
      by true c e f some = piece 5 8 e (omega arith) (omega arith) (part_variant p is).plain
      by false true e f some = piece 4 4 f (omega arith) (omega arith) (part_variant p is).plain
      by false false e f some = absurd (false≢true some)

  of_longer : is_piece 3 p ≡ true → is_piece 2 p ≡ true
  of_longer is =
      let parts = and_parts (has_length 3 8 p) (is_alphanumeric p) is in
      piece 3 8 parts.0 (omega arith) (omega arith) parts.1

of_key : (p : List ℕ) → is_key p ≡ true → is_piece 2 p ≡ true
of_key [] is = absurd (false≢true is)
of_key (c ∷ []) is = absurd (false≢true is)
of_key (c ∷ d ∷ []) is = (part_key (c ∷ d ∷ []) is).plain
of_key (c ∷ d ∷ e ∷ p) is = absurd (false≢true is)

of_tkey : (p : List ℕ) → is_tkey p ≡ true → is_piece 2 p ≡ true
of_tkey [] is = absurd (false≢true is)
of_tkey (c ∷ []) is = absurd (false≢true is)
of_tkey (c ∷ d ∷ []) is = grind (arith, nat_tests)
of_tkey (c ∷ d ∷ e ∷ p) is = absurd (false≢true is)

-- ---- each production

of_types : (ps : List (List ℕ)) (v : List (List ℕ)) → IsTypes ps v → ArePieces2 ps
of_types = of_some (One (is_piece 3) lowercase) (of_one (is_piece 3) lowercase of_longer)

of_keyword : (ps : List (List ℕ)) (row : Block) → IsKeyword ps row → ArePieces2 ps
of_keyword ps row (keyword key types k v one_key most) =
    both key types (of_one is_key lowercase of_key key k one_key) (of_most IsTypes of_types types v most)

of_tfield : (ps : List (List ℕ)) (row : Block) → IsTfield ps row → ArePieces2 ps
of_tfield ps row (tfield key value k v one_key types) = both key value (of_one is_tkey lowercase of_tkey key k one_key) (of_types value v types)

of_language_id : (ps : List (List ℕ)) (l : LanguageIdentifier) → IsLanguageId ps l → ArePieces2 ps
of_language_id ps x (language_id language script region variants l s r vs one_language at_script at_region all_variants different) =
    both language (script ++ (region ++ variants)) (of_one is_language lowercase of_language language l one_language)
    (both script (region ++ variants) (of_most (One is_script titlecase) (of_one is_script titlecase of_script) script s at_script)
    (both region variants (of_most (One is_region uppercase) (of_one is_region uppercase of_region) region r at_region)
    (of_any (One is_variant lowercase) (of_one is_variant lowercase of_variant) variants vs all_variants)))

-- the row of a tag that an extension is
abbrev Means : Meaning → Block → Type 0
Means (unicode_of vs rows) b = b.0 ≡ codes "u"
Means (transform_of l rows) b = b.0 ≡ codes "t"
Means (other_of s ps) b = (b ≡ (s, ps)) × (is_apart b ≡ true)

abbrev AllMeans : List Meaning → List Block → Type 0
AllMeans [] [] = Unit {0}
AllMeans [] (b ∷ bs) = ⊥
AllMeans (e ∷ es) [] = ⊥
AllMeans (e ∷ es) (b ∷ bs) = Means e b × AllMeans es bs

-- an extension is a singleton and pieces
record IsMarked (ps : List (List ℕ)) (e : Meaning) : Type 0 where
  mark : List ℕ
  own : List (List ℕ)
  parts : mark ∷ own ≡ ps
  single : is_tag_singleton mark ≡ true
  some : any_piece own ≡ true
  each : ArePieces2 own
  means : Means e (lowercase mark, map lowercase own)

tag_extension : (ps : List (List ℕ)) (e : Meaning) (m : IsMarked ps e) → IsTagExtension ps (lowercase m.mark, map lowercase m.own)
tag_extension ps e m = by m.own m.parts m.some m.each
  where
    by : (own : List (List ℕ)) → m.mark ∷ own ≡ ps → any_piece own ≡ true → ArePieces2 own → IsTagExtension ps (lowercase m.mark, map lowercase own)
    by [] parts some each = absurd (false≢true some)
    by (q ∷ qs) parts some each =
        let rest = and_parts (is_piece 2 q) (list_all (is_piece 2) qs) each in
        subst (λ rs. IsTagExtension rs (lowercase m.mark, map lowercase (q ∷ qs))) parts
        (extension (m.mark ∷ []) (q ∷ qs) (lowercase m.mark) (map lowercase (q ∷ qs)) (one m.mark m.single)
        (first (q ∷ []) qs (lowercase q) (map lowercase qs) (one q rest.0) (each_derived (is_piece 2) qs rest.1)))

-- ---- singletons

-- what is one letter or digit but x, case aside
mark_of : (p : List ℕ) (n : ℕ) → lowercase p ≡ n ∷ [] → is_alphanumeric (n ∷ []) ≡ true → same_text (n ∷ []) (codes "x") ≡ false → is_tag_singleton p ≡ true
mark_of [] n is plain apart = absurd (cc is)
mark_of (c ∷ []) n is plain apart =
    let here : is_alphanumeric (c ∷ []) ≡ true = sym (alphanumeric-lowercase (c ∷ [])) ∙ ap is_alphanumeric is ∙ plain in
    let other : not (is_x (c ∷ [])) ≡ true = ap (λ q. not (same_text q (codes "x"))) is ∙ ap not apart in
    and_from (is_singleton (c ∷ []) && is_alphanumeric (c ∷ [])) (not (is_x (c ∷ []))) (and_from (is_singleton (c ∷ [])) (is_alphanumeric (c ∷ [])) refl here) other
mark_of (c ∷ d ∷ p) n is plain apart = absurd (cc is)

other_mark : (p : List ℕ) → is_other_singleton p ≡ true → is_tag_singleton p ≡ true
other_mark p is =
    let parts = and_parts (is_singleton p && is_alphanumeric p) (not (is_t p || (is_u p || is_x p))) is in
    and_from (is_singleton p && is_alphanumeric p) (not (is_x p)) parts.0 (by (is_t p) (is_u p) (is_x p) parts.1)
  where
    by : (a b c : Bool) → not (a || (b || c)) ≡ true → not c ≡ true
    by true b c e = absurd (false≢true e)
    by false true c e = absurd (false≢true e)
    by false false c e = e

-- ---- extensions

some_keywords : (ps : List (List ℕ)) (rows : List Block) → AtLeastOne IsKeyword ps rows → any_piece ps ≡ true
some_keywords ps rows (first qs rs row more (keyword ks ts k v (one p is) types) ds) = refl

some_fields : (ps : List (List ℕ)) (rows : List Block) → AtLeastOne IsTfield ps rows → any_piece ps ≡ true
some_fields ps rows (first qs rs row more (tfield ks ts k v (one p is) types) ds) = refl

some_ones : (m : List ℕ → Bool) (ps vs rest : List (List ℕ)) → AtLeastOne (One m lowercase) ps vs → any_piece (ps ++ rest) ≡ true
some_ones m ps vs rest (first qs rs v us (one p is) ds) = refl

some_language : (ps rest : List (List ℕ)) (l : LanguageIdentifier) → IsLanguageId ps l → any_piece (ps ++ rest) ≡ true
some_language ps rest x (language_id language script region variants l s r vs (one p is) at_script at_region all_variants different) = refl

unicode_marked : (ps : List (List ℕ)) (e : Meaning) → IsUnicodeExtension ps e → IsMarked ps e
unicode_marked ps e (of_keywords u keywords m rows (one p is) some) = record {
  mark = p;
  own = keywords;
  parts = refl;
  single = mark_of p 117 (named p 117 is) refl refl;
  some = some_keywords keywords rows some;
  each = of_some IsKeyword of_keyword keywords rows some;
  means = named p 117 is;
}
unicode_marked ps e (of_attributes u attributes keywords m vs rows (one p is) some any) = record {
  mark = p;
  own = attributes ++ keywords;
  parts = refl;
  single = mark_of p 117 (named p 117 is) refl refl;
  some = some_ones (is_piece 3) attributes vs keywords some;
  each = both attributes keywords (of_types attributes vs some) (of_any IsKeyword of_keyword keywords rows any);
  means = named p 117 is;
}

transformed_marked : (ps : List (List ℕ)) (e : Meaning) → IsTransformedExtension ps e → IsMarked ps e
transformed_marked ps e (of_tlang t tlang tfields m l rows (one p is) id any) = record {
  mark = p;
  own = tlang ++ tfields;
  parts = refl;
  single = mark_of p 116 (named p 116 is) refl refl;
  some = some_language tlang tfields l id;
  each = both tlang tfields (of_language_id tlang l id) (of_any IsTfield of_tfield tfields rows any);
  means = named p 116 is;
}
transformed_marked ps e (of_tfields t tfields m rows (one p is) some) = record {
  mark = p;
  own = tfields;
  parts = refl;
  single = mark_of p 116 (named p 116 is) refl refl;
  some = some_fields tfields rows some;
  each = of_some IsTfield of_tfield tfields rows some;
  means = named p 116 is;
}

other_marked : (ps : List (List ℕ)) (e : Meaning) → IsOtherExtension ps e → IsMarked ps e
other_marked ps e (of_other singleton pieces s vs (one p is) some) = record {
  mark = p;
  own = pieces;
  parts = refl;
  single = other_mark p is;
  some = ap any_piece (sym (append-nil pieces)) ∙ some_ones (is_piece 2) pieces vs [] some;
  each = of_some (One (is_piece 2) lowercase) (of_one (is_piece 2) lowercase (λ p is. is)) pieces vs some;
  means =
      let lower = each_some (is_piece 2) pieces vs some in
      let other = other_lower p is in
      ((λ i. (lowercase p, sym lower.lower i)), (λ i. not (other.0 i || other.1 i)));
}

marked : (ps : List (List ℕ)) (e : Meaning) → IsExtension ps e → IsMarked ps e
marked ps e (grammar.unicode qs f d) = unicode_marked ps e d
marked ps e (grammar.transformed qs f d) = transformed_marked ps e d
marked ps e (grammar.other qs f d) = other_marked ps e d

tag_extensions : (ps : List (List ℕ)) (es : List Meaning) → AnyNumber IsExtension ps es → (bs : List Block) × AnyNumber IsTagExtension ps bs × AllMeans es bs
tag_extensions ps es done = ([], done, tt)
tag_extensions ps es (next qs rs e more d ds) =
    let m = marked qs e d in
    let here : Block = (lowercase m.mark, map lowercase m.own) in
    let rest = tag_extensions rs more ds in
    (here ∷ rest.0, next qs rs here rest.0 (tag_extension qs e m) rest.1, (m.means, rest.2))

-- ---- other extensions

put_alike : (rows : List Block) (s : List ℕ) (ps : List (List ℕ)) → FindsAlike text_cmp (add_first text_cmp rows s ps) (rows ++ (s, ps) ∷ [])
put_alike rows s ps = by (value_at text_cmp rows s) refl
  where
    by : (o : Option (List (List ℕ))) → value_at text_cmp rows s ≡ o
        → FindsAlike text_cmp (if is_some o then rows else insert_entry text_cmp rows s ps) (rows ++ (s, ps) ∷ [])
    by (Some v) is = first_is_there text_total rows s ps (ap is_some is)
    by None is = first_is_new text_total rows s ps (insert_entry text_cmp rows s ps) is (SetsOnly-insert_entry text_total rows s ps)

others_added : (y : LocaleIdentifier) (l : Option LanguageIdentifier) (rows : List Block) → (add y (transform_of l rows)).others ≡ y.others
others_added y None rows = refl
others_added y (Some l) rows = refl

module _ (b : Block) (bs : List Block) where
  passed : is_apart b ≡ false → filter is_apart (b ∷ bs) ≡ filter is_apart bs
  passed fails = rw fails refl

  taken : is_apart b ≡ true → filter is_apart (b ∷ bs) ≡ b ∷ filter is_apart bs
  taken passes = rw passes refl

found_more : (old more : List Block) (s : List ℕ) (ps : List (List ℕ)) (key : List ℕ)
    → value_at text_cmp (old ++ (s, ps) ∷ more) key ≡ value_at text_cmp (add_first text_cmp old s ps ++ more) key
found_more old more s ps key =
    ap (λ rows. value_at text_cmp rows key) (sym (append_assoc old ((s, ps) ∷ []) more))
    ∙ value_at-append text_cmp (old ++ (s, ps) ∷ []) more key
    ∙ ap (λ o. option_or o (value_at text_cmp more key)) (sym (put_alike old s ps key))
    ∙ sym (value_at-append text_cmp (add_first text_cmp old s ps) more key)

others_found : (y : LocaleIdentifier) (es : List Meaning) (bs : List Block) → AllMeans es bs
    → FindsAlike text_cmp (y.others ++ filter is_apart bs) (add_all y es).others
others_found y [] [] m key = ap (λ rows. value_at text_cmp rows key) (append-nil y.others)
others_found y [] (b ∷ bs) m key = absurd m
others_found y (e ∷ es) [] m key = absurd m
others_found y (unicode_of vs rows ∷ es) (b ∷ bs) m key =
    ap (λ more. value_at text_cmp (y.others ++ more) key) (passed b bs (ap (λ s. not (same_text s (codes "u") || same_text s (codes "t"))) m.0))
    ∙ others_found (add y (unicode_of vs rows)) es bs m.1 key
others_found y (transform_of l rows ∷ es) (b ∷ bs) m key =
    ap (λ more. value_at text_cmp (y.others ++ more) key) (passed b bs (ap (λ s. not (same_text s (codes "u") || same_text s (codes "t"))) m.0))
    ∙ ap (λ old. value_at text_cmp (old ++ filter is_apart bs) key) (sym (others_added y l rows))
    ∙ others_found (add y (transform_of l rows)) es bs m.1 key
others_found y (other_of s ps ∷ es) (b ∷ bs) m key =
    ap (λ more. value_at text_cmp (y.others ++ more) key) (taken b bs m.0.1 ∙ ap (λ row. row ∷ filter is_apart bs) m.0.0)
    ∙ found_more y.others (filter is_apart bs) s ps key
    ∙ others_found (add y (other_of s ps)) es bs m.1 key

others_whole : (y : LocaleIdentifier) (o : Option (List (List ℕ))) → (add_private_use y o).others ≡ y.others
others_whole y None = refl
others_whole y (Some ps) = refl

-- ---- the whole

id_added : (y : LocaleIdentifier) (e : Meaning) → (add y e).locale.id ≡ y.locale.id
id_added y (unicode_of vs rows) = refl
id_added y (transform_of None rows) = refl
id_added y (transform_of (Some l) rows) = refl
id_added y (other_of s ps) = refl

private_added : (y : LocaleIdentifier) (e : Meaning) → (add y e).private_use ≡ y.private_use
private_added y (unicode_of vs rows) = refl
private_added y (transform_of None rows) = refl
private_added y (transform_of (Some l) rows) = refl
private_added y (other_of s ps) = refl

id_stays : (y : LocaleIdentifier) (es : List Meaning) → (add_all y es).locale.id ≡ y.locale.id
id_stays y [] = refl
id_stays y (e ∷ es) = id_stays (add y e) es ∙ id_added y e

private_stays : (y : LocaleIdentifier) (es : List Meaning) → (add_all y es).private_use ≡ y.private_use
private_stays y [] = refl
private_stays y (e ∷ es) = private_stays (add y e) es ∙ private_added y e

id_whole : (y : LocaleIdentifier) (es : List Meaning) (o : Option (List (List ℕ))) → (add_private_use (add_all y es) o).locale.id ≡ y.locale.id
id_whole y es None = id_stays y es
id_whole y es (Some ps) = id_stays y es

private_whole : (y : LocaleIdentifier) (es : List Meaning) (o : Option (List (List ℕ))) → y.private_use ≡ None → (add_private_use (add_all y es) o).private_use ≡ o
private_whole y es None none = private_stays y es ∙ none
private_whole y es (Some ps) none = refl

short : (p : List ℕ) → is_language p ≡ true → are_letters 2 3 p ≡ true
short p is = is

-- how a tag names its language: by the piece at the front of an identifier, behind others
record IsNamed (before : List (List ℕ)) (p : List ℕ) : Type 0 where
  names : List (List ℕ)
  derived : IsTagLanguage (before ++ p ∷ []) names
  named : NamesLanguage names (lowercase p)

tag_of : (before ps ext pu : List (List ℕ)) (l : LanguageIdentifier) (es : List Meaning) (o : Option (List (List ℕ)))
    → ((p : List ℕ) (rest : List (List ℕ)) → ps ≡ p ∷ rest → is_language p ≡ true → IsNamed before p)
    → IsLanguageId ps l → AnyNumber IsExtension ext es
    → AtMostOne IsPrivateUse pu o → IsTagOf (before ++ (ps ++ (ext ++ pu))) (add_private_use (add_all (bare l) es) o)
tag_of before ps ext pu x es o names (language_id language script region variants l s r vs (one p is) at_script at_region all_variants different) all_extensions at_private =
    let tags = tag_extensions ext es all_extensions in
    let id = id_whole (bare x) es o in
    let name = names p (script ++ (region ++ variants)) refl is in
    let tag : Tag = record { language = name.names; script = s; region = r; variants = vs; extensions = tags.0; private_use = o } in
    let parts : (before ++ p ∷ []) ++ (script ++ (region ++ (variants ++ (ext ++ pu)))) ≡ before ++ ((p ∷ (script ++ (region ++ variants))) ++ (ext ++ pu)) =
    append_assoc before (p ∷ []) (script ++ (region ++ (variants ++ (ext ++ pu))))
    ∙ ap (λ qs. before ++ p ∷ qs) (sym (append_assoc script (region ++ variants) (ext ++ pu)
    ∙ ap (λ qs. script ++ qs) (append_assoc region variants (ext ++ pu)))) in
    record {
      tag = tag;
      well_formed = subst (λ qs. IsLangtag qs tag) parts (langtag (before ++ p ∷ []) script region variants ext pu tag
          name.derived at_script at_region all_variants tags.1 at_private);
      language = subst (NamesLanguage name.names) (ap (λ (i : LanguageIdentifier). i.language) (sym id)) name.named;
      script = ap (λ (i : LanguageIdentifier). i.script) (sym id);
      region = ap (λ (i : LanguageIdentifier). i.region) (sym id);
      variants = ap (λ (i : LanguageIdentifier). i.variants) (sym id);
      private_use = sym (private_whole (bare x) es o refl);
      others = λ key. others_found (bare x) es tags.0 tags.2 key ∙ ap (λ rows. value_at text_cmp rows key) (sym (others_whole (add_all (bare x) es) o));
    }

-- the first of a list that begins alike
abbrev head : List (List ℕ) → List ℕ
head [] = []
head (p ∷ ps) = p

first_same : {p : List ℕ} {ps : List (List ℕ)} (q : List ℕ) (rest id ext pu : List (List ℕ)) → id ≡ q ∷ rest → id ++ (ext ++ pu) ≡ p ∷ ps → p ≡ q
first_same q rest id ext pu begins same = sym (ap head (sym (ap (λ ps. ps ++ (ext ++ pu)) begins) ∙ same))

-- whether a language is registered with a prefix does not depend on its case
registered_lower : (f p : List ℕ) → is_registered f p ≡ true → is_registered (lowercase f) (lowercase p) ≡ true
unfolding is_registered
registered_lower f p registered =
    (λ i. list_any (λ row. same_text (lowercase-twice p i) (lowercase row.0) && same_text (lowercase-twice f i) (lowercase row.1)) extended_languages)
    ∙ registered

-- alone
named_alone : (p : List ℕ) → is_language p ≡ true → IsNamed [] p
named_alone p is = record { names = lowercase p ∷ []; derived = shortest (p ∷ []) [] (lowercase p) None (one p (short p is)) absent; named = refl }

-- an extended language behind its prefix
named_behind : (f p : List ℕ) → is_language f ≡ true → are_letters 3 3 p ≡ true → is_registered f p ≡ true → IsNamed (f ∷ []) p
named_behind f p is three registered = record {
  names = lowercase f ∷ lowercase p ∷ [];
  derived = shortest (f ∷ []) (p ∷ []) (lowercase f) (Some (lowercase p ∷ [])) (one f (short f is))
      (present (p ∷ []) (lowercase p ∷ []) (extlang (p ∷ []) (lowercase p ∷ []) (first (p ∷ []) [] (lowercase p) [] (one p three) done) (omega arith)));
  named = (registered_lower f p registered, refl);
}

pub tagged : (ps : List (List ℕ)) (x : LocaleIdentifier) → IsLocaleId ps x → IsTagOf ps x
tagged ps x (locale_id id ext pu l es o is_id all_extensions different at_private) =
    tag_of [] id ext pu l es o (λ p rest begins is. named_alone p is) is_id all_extensions at_private

-- behind a prefix with which the language in front is registered
pub tagged_behind : (f p : List ℕ) (ps : List (List ℕ)) (x : LocaleIdentifier) → is_language f ≡ true → are_letters 3 3 p ≡ true → is_registered f p ≡ true
    → IsLocaleId (p ∷ ps) x → IsTagOf (f ∷ p ∷ ps) x
tagged_behind f p ps x is three registered derived = by (p ∷ ps) x refl derived
  where
    by : (qs : List (List ℕ)) (y : LocaleIdentifier) → qs ≡ p ∷ ps → IsLocaleId qs y → IsTagOf (f ∷ p ∷ ps) y
    by qs y same (locale_id id ext pu l es o is_id all_extensions different at_private) =
        subst (λ rs. IsTagOf (f ∷ rs) (add_private_use (add_all (bare l) es) o)) same
        (tag_of (f ∷ []) id ext pu l es o
        (λ q rest begins is_q. subst (IsNamed (f ∷ [])) (first_same q rest id ext pu begins same) (named_behind f p is three registered))
        is_id all_extensions at_private)
