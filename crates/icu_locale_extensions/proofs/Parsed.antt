-- What is read is derived.
use Rattle.std.proofs.Common.{◌≡◌, ℕ, ◌≤◌, ◌<◌, zero, suc, Bool, true, false, not, ◌&&◌, ◌||◌, List, [], ◌∷◌, ◌++◌, length, map, filter, Option, None, Some, unwrap_or, Result, Ok, Err, if◌then◌else◌, refl, ap, sym, ◌∙◌, subst, arith, append_assoc, append-nil}
use Rattle.std.specs.List.{list_all}
use Rattle.std.specs.Option.{is_some}
use Rattle.std.proofs.lemmas.Bool.{and_parts, and_from, false≢true}
use Rattle.icu_locale_core.specs.Maps.{value_at}
use Rattle.icu_locale_core.specs.Readings.{read_pieces, read_front, after_front}
use Rattle.icu_locale_core.specs.Subtag.{is_key, is_subtag, lowercase}
use Rattle.icu_locale_core.specs.TextSet.{text_cmp, rising, from_list}
use Rattle.icu_locale_core.specs.Value.{is_true, read_subtags}
use Rattle.icu_locale_core.specs.declared.langid.LanguageIdentifier.{LanguageIdentifier}
use Rattle.icu_locale_core.specs.declared.parse_error.ParseError.{ParseError}
use Rattle.icu_locale_core.specs.declared.parse_error.ParseError.TheVariants.{InvalidSubtag}
use Rattle.icu_locale_core.specs.laws.Fronts.{taken_are}
use Rattle.icu_locale_core.specs.Cuts.{Block, front, from, other_than}
use Rattle.icu_locale_extensions.specs.Extensions.{is_piece, is_singleton, is_x, is_u, is_t, is_tkey, is_other_singleton}
use Rattle.icu_locale_extensions.specs.declared.identifier.LocaleIdentifier.{LocaleIdentifier}
use Rattle.icu_locale_extensions.specs.Grammar.{One, one, AtMostOne, absent, present, AnyNumber, done, next, AtLeastOne, first, IsTypes, IsKeyword, keyword, IsTfield, tfield}
use Rattle.icu_locale_extensions.specs.Grammar.{Meaning, unicode_of, transform_of, other_of, of_keywords, of_attributes, of_tlang, of_tfields, of_other}
use Rattle.icu_locale_extensions.specs.Grammar.{IsLanguageId, IsExtension, unicode, transformed, other, IsPrivateUse, private_use, singleton, add, add_all, add_rows, add_private_use}
use Rattle.icu_locale_extensions.specs.laws.Reader.{Part, first_is, belongs, begins, added, closed, marked, opened_unicode, opened_transform, opened_other, has_unicode, has_transform, and_then, read, read_on}
use Rattle.icu_locale_core.specs.Maps.{add_first}
use Rattle.icu_locale_extensions.specs.laws.Reader.{with_read}
use Rattle.icu_locale_extensions.specs.Built.{with_attributes, with_keywords, with_language, with_fields, with_private_use}
use Rattle.icu_locale_extensions.specs.laws.Reader.Part.{whole, attributes, keywords, language, fields, nothing, keyword as in_keyword, field as in_field, other as in_other, private_use as in_private_use}
use Rattle.icu_locale_extensions.specs.inner.Takes.{read_opened}
use Rattle.icu_locale_extensions.proofs.Derived.{has, are_fresh, at_u, at_t, at_x, at_other, other_lower}
use Rattle.icu_locale_extensions.specs.Built.{bare}
use Rattle.icu_locale_extensions.proofs.Languages.{begins_at_mark, front_parts, marked_none, singletons_end}
use Rattle.icu_locale_extensions.proofs.LanguageIds.{each_derived, read_derived}
use Rattle.icu_locale_extensions.proofs.Taking.{front-from, from-length, key_none, opened_taken}

-- ---- repeated subtags

some_derived : (m : List ℕ → Bool) (ps : List (List ℕ)) → first_is m ps ≡ true
    → AtLeastOne (One m lowercase) (front (other_than m) ps) (map lowercase (front (other_than m) ps))
some_derived m [] some = absurd (false≢true some)
some_derived m (p ∷ ps) some =
    let qs = front (other_than m) ps in
    rw some (first (p ∷ []) qs (lowercase p) (map lowercase qs) (one p some) (each_derived m qs (taken_are m ps)))

types_derived : (ts : List (List ℕ)) → list_all is_subtag ts ≡ true → (o : Option (List (List ℕ))) × (AtMostOne IsTypes ts o × (unwrap_or o [] ≡ map lowercase ts))
types_derived [] each = (None, (absent, refl))
types_derived (p ∷ ps) each =
    let both = and_parts (is_subtag p) (list_all is_subtag ps) each in (
      Some (map lowercase (p ∷ ps)),
      (
        present (p ∷ ps) (map lowercase (p ∷ ps))
            (first (p ∷ []) ps (lowercase p) (map lowercase ps) (one p both.0) (each_derived is_subtag ps both.1)),
        refl,
      ),
    )

-- ---- keywords and fields

pub record Rows (Q : List (List ℕ) → Block → Type 0) (c : List ℕ → Bool) (at : List Block → LocaleIdentifier) (old : List Block) (ps : List (List ℕ)) (x : LocaleIdentifier) : Type 0 where
  pub own : List (List ℕ)
  pub left : List (List ℕ)
  pub rows : List Block
  pub parts : ps ≡ own ++ left
  pub derived : AnyNumber Q own rows
  pub some : first_is c ps ≡ true → AtLeastOne Q own rows
  pub goes_on : read_on whole [] (at (add_rows old rows)) left ≡ Ok x
  pub fewer : length left ≤ length ps

module _ (F : Part) (make : List ℕ → Part) (c m : List ℕ → Bool) (g : List (List ℕ) → List (List ℕ)) (Q : List (List ℕ) → Block → Type 0) (at : List Block → LocaleIdentifier)
    (opens : (y : LocaleIdentifier) (p : List ℕ) (ps : List (List ℕ))
    → read_on F [] y (p ∷ ps) ≡ read_opened (if c p then Some (make (lowercase p)) else marked y p) y ps)
    (ends : (y : LocaleIdentifier) → read_on F [] y [] ≡ Ok y)
    (step : (old : List Block) (p : List ℕ) (ps : List (List ℕ)) (x : LocaleIdentifier) → c p ≡ true → read_opened (Some (make (lowercase p))) (at old) ps ≡ Ok x
    → Q (p ∷ front (other_than m) ps) (lowercase p, g (front (other_than m) ps))
    × (read_on F [] (at (add_first text_cmp old (lowercase p) (g (front (other_than m) ps)))) (from (other_than m) ps) ≡ Ok x)) where
  rows_derived : (n : ℕ) (old : List Block) (ps : List (List ℕ)) (x : LocaleIdentifier) → length ps < n → read_on F [] (at old) ps ≡ Ok x → Rows Q c at old ps x
  rows_derived zero old ps x small is = absurd (omega arith)
  rows_derived (suc n) old [] x small is = record {
    own = [];
    left = [];
    rows = [];
    parts = refl;
    derived = done;
    some = λ e. absurd (false≢true e);
    goes_on = sym (ends (at old)) ∙ is;
    fewer = omega arith;
  }
  rows_derived (suc n) old (p ∷ ps) x small is = by (c p) refl (rows_derived n)
    where
      by : (b : Bool) → c p ≡ b
          → ((old : List Block) (ps : List (List ℕ)) (x : LocaleIdentifier) → length ps < n → read_on F [] (at old) ps ≡ Ok x → Rows Q c at old ps x)
          → Rows Q c at old (p ∷ ps) x
      by true e ih =
          let ts = front (other_than m) ps in
          let here = step old p ps x e (sym (opens (at old) p ps ∙ (λ i. read_opened (if e i then Some (make (lowercase p)) else marked (at old) p) (at old) ps)) ∙ is) in
          let rest = ih (add_first text_cmp old (lowercase p) (g ts)) (from (other_than m) ps) x (omega (arith, from-length (other_than m) ps)) here.1 in
          record {
            own = (p ∷ ts) ++ rest.own;
            left = rest.left;
            rows = (lowercase p, g ts) ∷ rest.rows;
            parts = ap (λ qs. p ∷ qs) (front-from (other_than m) ps ∙ ap (λ qs. ts ++ qs) rest.parts ∙ sym (append_assoc ts rest.own rest.left));
            derived = next (p ∷ ts) rest.own (lowercase p, g ts) rest.rows here.0 rest.derived;
            some = λ f. first (p ∷ ts) rest.own (lowercase p, g ts) rest.rows here.0 rest.derived;
            goes_on = rest.goes_on;
            fewer = omega (arith, rest.fewer, from-length (other_than m) ps);
          }
      by false e ih = record {
        own = [];
        left = p ∷ ps;
        rows = [];
        parts = refl;
        derived = done;
        some = λ f. absurd (false≢true (sym e ∙ f));
        goes_on = sym (key_none F c make opens ends (at old) (p ∷ ps) e) ∙ is;
        fewer = omega arith;
      }

-- what is refused is not read
begun : (part : Part) (y : LocaleIdentifier) (ps : List (List ℕ)) (x : LocaleIdentifier) → read_opened (Some part) y ps ≡ Ok x
    → (begins part ps ≡ true) × (and_then (added part (front (other_than (belongs part)) ps) y) (λ z. read_on (closed part) [] z (from (other_than (belongs part)) ps)) ≡ Ok x)
begun part y ps x is = by (begins part ps) refl
  where
    by : (b : Bool) → begins part ps ≡ b
        → (begins part ps ≡ true) × (and_then (added part (front (other_than (belongs part)) ps) y) (λ z. read_on (closed part) [] z (from (other_than (belongs part)) ps)) ≡ Ok x)
    by true e = (e, sym (opened_taken part y ps e) ∙ is)
    by false e = absurd (cc (sym (ap (λ b. if b then read_on part [] y ps else Err InvalidSubtag) e) ∙ is))

pub keywords_derived : (y : LocaleIdentifier) (old : List Block) (ps : List (List ℕ)) (x : LocaleIdentifier) → read_on keywords [] (with_keywords y old) ps ≡ Ok x
    → Rows IsKeyword is_key (with_keywords y) old ps x
keywords_derived y old ps x is = rows_derived keywords in_keyword is_key is_subtag read_subtags IsKeyword (with_keywords y) (λ y p ps. refl) (λ y. refl)
    (λ old p ps x key is.
    let types = types_derived (front (other_than is_subtag) ps) (taken_are is_subtag ps) in (
      subst (λ v. IsKeyword (p ∷ front (other_than is_subtag) ps) (lowercase p, filter (λ q. not (is_true q)) v)) types.1.1
          (keyword (p ∷ []) (front (other_than is_subtag) ps) (lowercase p) types.0 (one p key) types.1.0),
      (begun (in_keyword (lowercase p)) (with_keywords y old) ps x is).1,
    ))
    (suc (length ps)) old ps x (omega arith) is

pub fields_derived : (y : LocaleIdentifier) (old : List Block) (ps : List (List ℕ)) (x : LocaleIdentifier) → read_on fields [] (with_fields y old) ps ≡ Ok x
    → Rows IsTfield is_tkey (with_fields y) old ps x
fields_derived y old ps x is = rows_derived fields in_field is_tkey (is_piece 3) (map lowercase) IsTfield (with_fields y) (λ y p ps. refl) (λ y. refl)
    (λ old p ps x key is.
    let both = begun (in_field (lowercase p)) (with_fields y old) ps x is in
    (tfield (p ∷ []) (front (other_than (is_piece 3)) ps) (lowercase p) (map lowercase (front (other_than (is_piece 3)) ps)) (one p key) (some_derived (is_piece 3) ps both.0), both.1))
    (suc (length ps)) old ps x (omega arith) is

-- ---- extensions

-- an extension, and what is left
pub record Parsed (y : LocaleIdentifier) (p : List ℕ) (ps : List (List ℕ)) (x : LocaleIdentifier) : Type 0 where
  pub meaning : Meaning
  pub own : List (List ℕ)
  pub left : List (List ℕ)
  pub parts : ps ≡ own ++ left
  pub derived : IsExtension (p ∷ own) meaning
  pub fresh : has y (singleton meaning) ≡ false
  pub goes_on : read_on whole [] (add y meaning) left ≡ Ok x
  pub fewer : length left ≤ length ps

-- a part that is opened once
once : (b : Bool) (part : Part) (y : LocaleIdentifier) (ps : List (List ℕ)) (x : LocaleIdentifier) → read_opened (if b then None else Some part) y ps ≡ Ok x
    → (b ≡ false) × (read_opened (Some part) y ps ≡ Ok x)
once true part y ps x is = absurd (cc is)
once false part y ps x is = (refl, is)

turned : (b : Bool) (part : Part) (y : LocaleIdentifier) (ps : List (List ℕ))
    → read_opened (if not b then Some part else None) y ps ≡ read_opened (if b then None else Some part) y ps
turned true part y ps = refl
turned false part y ps = refl

none_taken : (m : List ℕ → Bool) (ps : List (List ℕ)) → first_is m ps ≡ false → (front (other_than m) ps ≡ []) × (from (other_than m) ps ≡ ps)
none_taken m [] none = (refl, refl)
none_taken m (p ∷ ps) none = (rw none refl, rw none refl)

key_first : (ps : List (List ℕ)) → first_is (λ p. is_subtag p || is_key p) ps ≡ true → first_is is_subtag ps ≡ false → first_is is_key ps ≡ true
key_first [] some none = absurd (false≢true some)
key_first (p ∷ ps) some none = sym (ap (λ b. b || is_key p) none) ∙ some

unicode_derived : (y : LocaleIdentifier) (p : List ℕ) (ps : List (List ℕ)) (x : LocaleIdentifier) → is_u p ≡ true → read_opened (opened_unicode y) y ps ≡ Ok x
    → Parsed y p ps x
unicode_derived y p ps x u is =
    let new = once (has_unicode y) attributes y ps x is in
    let both = begun attributes y ps x new.1 in
    let ts = front (other_than is_subtag) ps in
    let z = with_attributes y (rising (from_list (map lowercase ts))) in
    let keys = keywords_derived z y.locale.extensions.unicode.keywords (from (other_than is_subtag) ps) x both.1 in
    by new.0 both.0 keys (first_is is_subtag ps) refl
  where
    by : has_unicode y ≡ false → begins attributes ps ≡ true
        → Rows IsKeyword is_key (with_keywords (with_attributes y (rising (from_list (map lowercase (front (other_than is_subtag) ps))))))
        y.locale.extensions.unicode.keywords (from (other_than is_subtag) ps) x
        → (b : Bool) → first_is is_subtag ps ≡ b → Parsed y p ps x
    by fresh some keys true e =
        let ts = front (other_than is_subtag) ps in
        record {
          meaning = unicode_of (map lowercase ts) keys.rows;
          own = ts ++ keys.own;
          left = keys.left;
          parts = front-from (other_than is_subtag) ps ∙ ap (λ qs. ts ++ qs) keys.parts ∙ sym (append_assoc ts keys.own keys.left);
          derived = unicode (p ∷ (ts ++ keys.own)) (unicode_of (map lowercase ts) keys.rows)
              (of_attributes (p ∷ []) ts keys.own (lowercase p) (map lowercase ts) keys.rows (one p u) (some_derived is_subtag ps e) keys.derived);
          fresh = fresh;
          goes_on = keys.goes_on;
          fewer = omega (arith, keys.fewer, from-length (other_than is_subtag) ps);
        }
    by fresh some keys false e =
        let none = none_taken is_subtag ps e in
        record {
          meaning = unicode_of [] keys.rows;
          own = keys.own;
          left = keys.left;
          parts = sym none.1 ∙ keys.parts;
          derived = unicode (p ∷ keys.own) (unicode_of [] keys.rows)
              (of_keywords (p ∷ []) keys.own (lowercase p) keys.rows (one p u) (keys.some (ap (first_is is_key) none.1 ∙ key_first ps some e)));
          fresh = fresh;
          goes_on = ap (λ ts. read_on whole [] (with_keywords (with_attributes y (rising (from_list (map lowercase ts))))
              (add_rows y.locale.extensions.unicode.keywords keys.rows)) keys.left) (sym none.0) ∙ keys.goes_on;
          fewer = omega (arith, keys.fewer, from-length (other_than is_subtag) ps);
        }

tkey_first : (ps : List (List ℕ)) → first_is (λ p. not (is_singleton p)) ps ≡ true → first_is (belongs language) ps ≡ false → first_is is_tkey ps ≡ true
tkey_first [] some none = absurd (false≢true some)
tkey_first (p ∷ ps) some none = by (is_tkey p) (is_singleton p) some none
  where
    by : (a b : Bool) → not b ≡ true → not (a || b) ≡ false → a ≡ true
    by true b e f = refl
    by false true e f = absurd (false≢true e)
    by false false e f = absurd (false≢true (sym f))

-- the language is read
with_some : (y : LocaleIdentifier) (ps : List (List ℕ)) (left : List (List ℕ)) (x : LocaleIdentifier) → first_is (belongs language) ps ≡ true
    → and_then (added language (front (other_than (belongs language)) ps) y) (λ z. read_on fields [] z left) ≡ Ok x
    → (l : LanguageIdentifier) × ((read_pieces (front (other_than (belongs language)) ps) ≡ Ok l) × (read_on fields [] (with_language y l) left ≡ Ok x))
with_some y [] left x some is = absurd (false≢true some)
with_some y (p ∷ ps) left x some is =
    let qs = front (other_than (belongs language)) ps in
    let here : front (other_than (belongs language)) (p ∷ ps) ≡ p ∷ qs = ap (λ b. if not b then [] else p ∷ qs) some in
    let r = by (p ∷ qs) (read_pieces (p ∷ qs)) refl (sym (ap (λ rs. and_then (added language rs y) (λ z. read_on fields [] z left)) here) ∙ is) in
    (r.0, (ap read_pieces here ∙ r.1.0, r.1.1))
  where
    by : (qs : List (List ℕ)) (r : Result LanguageIdentifier ParseError) → read_pieces qs ≡ r → and_then (with_read y (read_pieces qs)) (λ z. read_on fields [] z left) ≡ Ok x
        → (l : LanguageIdentifier) × ((read_pieces qs ≡ Ok l) × (read_on fields [] (with_language y l) left ≡ Ok x))
    by qs (Ok l) e is = (l, (e, sym (ap (λ r. and_then (with_read y r) (λ z. read_on fields [] z left)) e) ∙ is))
    by qs (Err f) e is = absurd (cc (sym (ap (λ r. and_then (with_read y r) (λ z. read_on fields [] z left)) e) ∙ is))

transform_derived : (y : LocaleIdentifier) (p : List ℕ) (ps : List (List ℕ)) (x : LocaleIdentifier) → is_t p ≡ true → read_opened (opened_transform y) y ps ≡ Ok x
    → Parsed y p ps x
transform_derived y p ps x t is =
    let new = once (has_transform y) language y ps x is in
    let both = begun language y ps x new.1 in
    by new.0 both.0 both.1 (first_is (belongs language) ps) refl
  where
    by : has_transform y ≡ false → begins language ps ≡ true
        → and_then (added language (front (other_than (belongs language)) ps) y) (λ z. read_on fields [] z (from (other_than (belongs language)) ps)) ≡ Ok x
        → (b : Bool) → first_is (belongs language) ps ≡ b → Parsed y p ps x
    by fresh some is true e =
        let ls = front (other_than (belongs language)) ps in
        let left = from (other_than (belongs language)) ps in
        let read = with_some y ps left x e is in
        let keys = fields_derived (with_language y read.0) y.fields left x read.1.1 in
        record {
          meaning = transform_of (Some read.0) keys.rows;
          own = ls ++ keys.own;
          left = keys.left;
          parts = front-from (other_than (belongs language)) ps ∙ ap (λ qs. ls ++ qs) keys.parts ∙ sym (append_assoc ls keys.own keys.left);
          derived = transformed (p ∷ (ls ++ keys.own)) (transform_of (Some read.0) keys.rows)
              (of_tlang (p ∷ []) ls keys.own (lowercase p) read.0 keys.rows (one p t) (read_derived ls read.0 read.1.0) keys.derived);
          fresh = fresh;
          goes_on = keys.goes_on;
          fewer = omega (arith, keys.fewer, from-length (other_than (belongs language)) ps);
        }
    by fresh some is false e =
        let none = none_taken (belongs language) ps e in
        let keys = fields_derived y y.fields ps x (sym (λ i. and_then (added language (none.0 i) y) (λ z. read_on fields [] z (none.1 i))) ∙ is) in
        record {
          meaning = transform_of None keys.rows;
          own = keys.own;
          left = keys.left;
          parts = keys.parts;
          derived = transformed (p ∷ keys.own) (transform_of None keys.rows)
              (of_tfields (p ∷ []) keys.own (lowercase p) keys.rows (one p t) (keys.some (tkey_first ps some e)));
          fresh = fresh;
          goes_on = keys.goes_on;
          fewer = keys.fewer;
        }

other_derived : (y : LocaleIdentifier) (p : List ℕ) (ps : List (List ℕ)) (x : LocaleIdentifier) → is_other_singleton p ≡ true → read_opened (opened_other y p) y ps ≡ Ok x
    → Parsed y p ps x
other_derived y p ps x o is =
    let there = is_some (value_at text_cmp y.others (lowercase p)) in
    let new = once there (in_other (lowercase p)) y ps x
    (sym (ap (λ part. read_opened part y ps) (λ i. if o i && not there then Some (in_other (lowercase p)) else None) ∙ turned there (in_other (lowercase p)) y ps) ∙ is) in
    let both = begun (in_other (lowercase p)) y ps x new.1 in
    let ts = front (other_than (is_piece 2)) ps in
    let apart = other_lower p o in
    record {
      meaning = other_of (lowercase p) (map lowercase ts);
      own = ts;
      left = from (other_than (is_piece 2)) ps;
      parts = front-from (other_than (is_piece 2)) ps;
      derived = other (p ∷ ts) (other_of (lowercase p) (map lowercase ts))
          (of_other (p ∷ []) ts (lowercase p) (map lowercase ts) (one p o) (some_derived (is_piece 2) ps both.0));
      fresh = (λ i. if apart.0 i then has_unicode y else (if apart.1 i then has_transform y else is_some (value_at text_cmp y.others (lowercase p)))) ∙ new.0;
      goes_on = both.1;
      fewer = from-length (other_than (is_piece 2)) ps;
    }

-- ---- the whole

record Whole (y : LocaleIdentifier) (ps : List (List ℕ)) (x : LocaleIdentifier) : Type 0 where
  meanings : List Meaning
  private : Option (List (List ℕ))
  own : List (List ℕ)
  last : List (List ℕ)
  parts : ps ≡ own ++ last
  derived : AnyNumber IsExtension own meanings
  fresh : are_fresh y meanings ≡ true
  ending : AtMostOne IsPrivateUse last private
  is : add_private_use (add_all y meanings) private ≡ x

ended : (z : LocaleIdentifier) (left : List (List ℕ)) (x : LocaleIdentifier) → read_on nothing [] z left ≡ Ok x → (left ≡ []) × (z ≡ x)
ended z [] x is = (refl, cc is)
ended z (p ∷ ps) x is = absurd (cc is)

whole_derived : (n : ℕ) (y : LocaleIdentifier) (ps : List (List ℕ)) (x : LocaleIdentifier) → length ps < n → read_on whole [] y ps ≡ Ok x → Whole y ps x
whole_derived zero y ps x small is = absurd (omega arith)
whole_derived (suc n) y [] x small is = record {
  meanings = [];
  private = None;
  own = [];
  last = [];
  parts = refl;
  derived = done;
  fresh = refl;
  ending = absent;
  is = cc is;
}
whole_derived (suc n) y (p ∷ ps) x small is = by (whole_derived n) (is_u p) (is_t p) (is_x p) (is_other_singleton p) refl refl refl refl
  where
    step : ((y : LocaleIdentifier) (ps : List (List ℕ)) (x : LocaleIdentifier) → length ps < n → read_on whole [] y ps ≡ Ok x → Whole y ps x)
        → Parsed y p ps x → Whole y (p ∷ ps) x
    step ih e =
        let w = ih (add y e.meaning) e.left x (omega (arith, e.fewer)) e.goes_on in
        record {
          meanings = e.meaning ∷ w.meanings;
          private = w.private;
          own = (p ∷ e.own) ++ w.own;
          last = w.last;
          parts = ap (λ qs. p ∷ qs) (e.parts ∙ ap (λ qs. e.own ++ qs) w.parts ∙ sym (append_assoc e.own w.own w.last));
          derived = next (p ∷ e.own) w.own e.meaning w.meanings e.derived w.derived;
          fresh = and_from (not (has y (singleton e.meaning))) (are_fresh (add y e.meaning) w.meanings) (ap not e.fresh) w.fresh;
          ending = w.ending;
          is = w.is;
        }

    last_part : is_x p ≡ true → read_opened (Some in_private_use) y ps ≡ Ok x → Whole y (p ∷ ps) x
    last_part named reads =
        let both = begun in_private_use y ps x reads in
        let ts = front (other_than (is_piece 1)) ps in
        let end = ended (with_private_use y (map lowercase ts)) (from (other_than (is_piece 1)) ps) x both.1 in
        record {
          meanings = [];
          private = Some (map lowercase ts);
          own = [];
          last = p ∷ ts;
          parts = ap (λ qs. p ∷ qs) (front-from (other_than (is_piece 1)) ps ∙ ap (λ qs. ts ++ qs) end.0 ∙ append-nil ts);
          derived = done;
          fresh = refl;
          ending = present (p ∷ ts) (map lowercase ts) (private_use (p ∷ []) ts (lowercase p) (map lowercase ts) (one p named) (some_derived (is_piece 1) ps both.0));
          is = end.1;
        }

    by : ((y : LocaleIdentifier) (ps : List (List ℕ)) (x : LocaleIdentifier) → length ps < n → read_on whole [] y ps ≡ Ok x → Whole y ps x)
        → (u t v o : Bool) → is_u p ≡ u → is_t p ≡ t → is_x p ≡ v → is_other_singleton p ≡ o → Whole y (p ∷ ps) x
    by ih true t v o eu et ev eo = step ih (unicode_derived y p ps x eu (sym (ap (λ part. read_opened part y ps) (at_u y p eu)) ∙ is))
    by ih false true v o eu et ev eo = step ih (transform_derived y p ps x et (sym (ap (λ part. read_opened part y ps) (at_t y p et)) ∙ is))
    by ih false false true o eu et ev eo = last_part ev (sym (ap (λ part. read_opened part y ps) (at_x y p ev)) ∙ is)
    by ih false false false true eu et ev eo = step ih (other_derived y p ps x eo (sym (ap (λ part. read_opened part y ps) (at_other y p eo)) ∙ is))
    by ih false false false false eu et ev eo = absurd (cc (sym (λ i. read_opened (if eu i then opened_unicode y else (if et i then opened_transform y
        else (if ev i then Some in_private_use else (if eo i && not (is_some (value_at text_cmp y.others (lowercase p))) then Some (in_other (lowercase p)) else None)))) y ps) ∙ is))

pub starts : (y : LocaleIdentifier) (ps : List (List ℕ)) (x : LocaleIdentifier) → read_on whole [] y ps ≡ Ok x → begins_at_mark is_singleton ps ≡ true
starts y [] x is = refl
starts y (p ∷ ps) x is = by (is_singleton p) refl
  where
    by : (b : Bool) → is_singleton p ≡ b → b ≡ true
    by true e = refl
    by false e = absurd (cc (sym (ap (λ part. read_opened part y ps) (marked_none y p e)) ∙ is))

-- an identifier, extensions that are new one after another, and private use
pub record IsParsed (ps : List (List ℕ)) (x : LocaleIdentifier) : Type 0 where
  pub id : List (List ℕ)
  pub own : List (List ℕ)
  pub last : List (List ℕ)
  pub l : LanguageIdentifier
  pub meanings : List Meaning
  pub private : Option (List (List ℕ))
  pub parts : id ++ (own ++ last) ≡ ps
  pub identifier : IsLanguageId id l
  pub starting : begins_at_mark is_singleton (own ++ last) ≡ true
  pub derived : AnyNumber IsExtension own meanings
  pub fresh : are_fresh (bare l) meanings ≡ true
  pub ending : AtMostOne IsPrivateUse last private
  pub is : add_private_use (add_all (bare l) meanings) private ≡ x

pub locale_parsed : (ps : List (List ℕ)) (x : LocaleIdentifier) → read ps ≡ Ok x → IsParsed ps x
locale_parsed ps x is = by (read_front ps) refl
  where
    by : (r : Result LanguageIdentifier ParseError) → read_front ps ≡ r → IsParsed ps x
    by (Err f) e = absurd (cc (sym (ap (λ r. and_then r (λ l. read_on whole [] (bare l) (after_front ps))) e) ∙ is))
    by (Ok l) e =
        let behind = sym (ap (λ r. and_then r (λ l. read_on whole [] (bare l) (after_front ps))) e) ∙ is in
        let at = starts (bare l) (after_front ps) x behind in
        let front_of = front_parts is_singleton singletons_end ps l at e in
        let w = whole_derived (suc (length (after_front ps))) (bare l) (after_front ps) x (omega arith) behind in
        record {
          id = front is_singleton ps;
          own = w.own;
          last = w.last;
          l = l;
          meanings = w.meanings;
          private = w.private;
          parts = ap (λ qs. front is_singleton ps ++ qs) (sym w.parts ∙ front_of.1) ∙ sym (front-from is_singleton ps);
          identifier = read_derived (front is_singleton ps) l front_of.0;
          starting = ap (begins_at_mark is_singleton) (sym w.parts) ∙ at;
          derived = w.derived;
          fresh = w.fresh;
          ending = w.ending;
          is = w.is;
        }
