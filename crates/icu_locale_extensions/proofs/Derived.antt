-- What is derived is read.
use Rattle.std.proofs.Common.{◌≡◌, ℕ, Bool, true, false, not, ◌&&◌, ◌||◌, ◌==◌, length, List, [], ◌∷◌, ◌++◌, map, filter, codes, Option, None, Some, unwrap_or, Ok, Err, if◌then◌else◌, refl, ap, sym, ◌∙◌, append_assoc, append-nil}
use Rattle.std.specs.List.{All}
use Rattle.std.specs.Option.{is_some}
use Rattle.std.proofs.lemmas.Bool.{and_parts, not-true}
use Rattle.std.proofs.lemmas.List.Elements.{All-nil, All-cons, All-head, All-weaker}
use Rattle.std.proofs.lemmas.List.{length-map}
use Rattle.std.proofs.lemmas.Slice.Eq.{bytes_eq-Decides}
use Rattle.std.specs.Char.{to_ascii_lowercase}
use Rattle.icu_locale_core.specs.laws.Identifiers.{same_text}
use Rattle.icu_locale_extensions.specs.Built.{bare}
use Rattle.icu_locale_core.specs.Maps.{value_at}
use Rattle.icu_locale_core.specs.Readings.{read_pieces}
use Rattle.icu_locale_core.specs.Subtag.{is_key, is_subtag, is_alphanumeric, lowercase}
use Rattle.icu_locale_core.specs.TextSet.{text_cmp, rising, from_list}
use Rattle.icu_locale_core.specs.Value.{is_true}
use Rattle.icu_locale_core.specs.declared.langid.LanguageIdentifier.{LanguageIdentifier}
use Rattle.icu_locale_core.specs.declared.parse_error.ParseError.TheVariants.{InvalidSubtag}
use Rattle.icu_locale_core.specs.Cuts.{Block}
use Rattle.icu_locale_extensions.specs.Extensions.{is_piece, is_singleton, is_x, is_u, is_t, is_tkey, is_other_singleton}
use Rattle.icu_locale_extensions.specs.declared.identifier.LocaleIdentifier.{LocaleIdentifier}
use Rattle.icu_locale_extensions.specs.Grammar.{One, one, AtMostOne, absent, present, AnyNumber, done, next, AtLeastOne, first, IsTypes, IsKeyword, keyword, IsTfield, tfield}
use Rattle.icu_locale_extensions.specs.Grammar.{Meaning, unicode_of, transform_of, other_of, IsUnicodeExtension, of_keywords, of_attributes, IsLanguageId, IsTransformedExtension, of_tlang, of_tfields, IsOtherExtension, of_other}
use Rattle.icu_locale_extensions.specs.Grammar.{IsExtension, unicode, transformed, other, IsPrivateUse, singleton, add, add_all, add_rows, add_language, add_private_use}
use Rattle.icu_locale_extensions.specs.Grammar as grammar
use Rattle.icu_locale_extensions.specs.laws.Reader.{first_is, belongs, added, marked, opened_unicode, opened_transform, opened_other, has_unicode, has_transform, and_then, read, read_on, with_read}
use Rattle.icu_locale_extensions.specs.Built.{with_language, with_private_use, with_attributes, with_keywords, with_fields, with_others}
use Rattle.icu_locale_core.specs.Maps.{add_first}
use Rattle.icu_locale_extensions.specs.laws.Reader.Part.{whole, attributes, keywords, language, fields, keyword as in_keyword, field as in_field, other as in_other, private_use as in_private_use}
use Rattle.icu_locale_extensions.specs.inner.Takes.{read_opened}
use Rattle.icu_locale_extensions.proofs.Languages.{begins_at_mark, front_whole, singletons_end}
use Rattle.icu_locale_extensions.proofs.Taking.{key_none}
use Rattle.icu_locale_extensions.proofs.Written.{segment, stop, cut, two_letters, two_signs, or_first, or_second, none_of_three, tkey_long, belongs_long}

-- ---- repeated subtags

pub record Each (m : List ℕ → Bool) (ps vs : List (List ℕ)) : Type 0 where
  pub passes : All (λ p. m p ≡ true) ps
  pub lower : vs ≡ map lowercase ps

pub each_any : (m : List ℕ → Bool) (ps vs : List (List ℕ)) → AnyNumber (One m lowercase) ps vs → Each m ps vs
each_any m ps vs done = record { passes = All-nil (λ p. m p ≡ true); lower = refl }
each_any m ps vs (next qs rs v us (one p is) ds) =
    let rest = each_any m rs us ds in
    record { passes = All-cons (λ p. m p ≡ true) p rs is rest.passes; lower = ap (λ ws. lowercase p ∷ ws) rest.lower }

pub each_some : (m : List ℕ → Bool) (ps vs : List (List ℕ)) → AtLeastOne (One m lowercase) ps vs → Each m ps vs
each_some m ps vs (first qs rs v us d ds) = each_any m (qs ++ rs) (v ∷ us) (next qs rs v us d ds)

pub first_some : (m : List ℕ → Bool) (ps vs rest : List (List ℕ)) → AtLeastOne (One m lowercase) ps vs → first_is m (ps ++ rest) ≡ true
first_some m ps vs rest (first qs rs v us (one p is) ds) = is

each_types : (ps : List (List ℕ)) (v : Option (List (List ℕ))) → AtMostOne IsTypes ps v → Each (is_piece 3) ps (unwrap_or v [])
each_types ps v absent = record { passes = All-nil (λ p. is_piece 3 p ≡ true); lower = refl }
each_types ps v (present qs us some) = each_some (is_piece 3) qs us some

-- ---- keywords and fields

keyword_first : (ps : List (List ℕ)) (rows : List Block) (rest : List (List ℕ)) → AnyNumber IsKeyword ps rows → first_is is_subtag rest ≡ false
    → first_is is_subtag (ps ++ rest) ≡ false
keyword_first ps rows rest done none = none
keyword_first ps rows rest (next qs rs row more (keyword ks ts k v (one p is) types) ds) none = two_letters p is

pub keywords_read : (y : LocaleIdentifier) (old : List Block) (ps : List (List ℕ)) (rows : List Block) (rest : List (List ℕ)) → AnyNumber IsKeyword ps rows
    → first_is is_subtag rest ≡ false → read_on keywords [] (with_keywords y old) (ps ++ rest) ≡ read_on keywords [] (with_keywords y (add_rows old rows)) rest
keywords_read y old ps rows rest done none = refl
keywords_read y old ps rows rest (next qs rs row more (keyword ks ts k v (one p is) types) ds) none =
    let z = with_keywords y old in
    let each = each_types ts v types in
    (λ i. read_opened (if is i then Some (in_keyword (lowercase p)) else marked z p) z (append_assoc ts rs rest i))
    ∙ segment (in_keyword (lowercase p)) ts (rs ++ rest) z each.passes (keyword_first rs more rest ds none)
    ∙ ap (λ us. read_on keywords [] (with_keywords y (add_first text_cmp old (lowercase p) (filter (λ q. not (is_true q)) us))) (rs ++ rest)) (sym each.lower)
    ∙ keywords_read y (add_first text_cmp old (lowercase p) row.1) rs more rest ds none

field_first : {m : List ℕ → Bool} → ((p : List ℕ) → is_tkey p ≡ true → m p ≡ false) → (ps : List (List ℕ)) (rows : List Block) (rest : List (List ℕ))
    → AnyNumber IsTfield ps rows → first_is m rest ≡ false → first_is m (ps ++ rest) ≡ false
field_first apart ps rows rest done none = none
field_first apart ps rows rest (next qs rs row more (tfield ks ts k v (one p is) types) ds) none = apart p is

pub fields_read : (y : LocaleIdentifier) (old : List Block) (ps : List (List ℕ)) (rows : List Block) (rest : List (List ℕ)) → AnyNumber IsTfield ps rows
    → first_is (is_piece 3) rest ≡ false → read_on fields [] (with_fields y old) (ps ++ rest) ≡ read_on fields [] (with_fields y (add_rows old rows)) rest
fields_read y old ps rows rest done none = refl
fields_read y old ps rows rest (next qs rs row more (tfield ks ts k v (one p is) types) ds) none =
    let z = with_fields y old in
    let each = each_some (is_piece 3) ts v types in
    (λ i. read_opened (if is i then Some (in_field (lowercase p)) else marked z p) z (append_assoc ts rs rest i))
    ∙ (λ i. if first_some (is_piece 3) ts v (rs ++ rest) types i then read_on (in_field (lowercase p)) [] z (ts ++ (rs ++ rest)) else Err InvalidSubtag)
    ∙ segment (in_field (lowercase p)) ts (rs ++ rest) z each.passes (field_first two_signs rs more rest ds none)
    ∙ ap (λ us. read_on fields [] (with_fields y (add_first text_cmp old (lowercase p) us)) (rs ++ rest)) (sym each.lower)
    ∙ fields_read y (add_first text_cmp old (lowercase p) v) rs more rest ds none

-- ---- marks

pub named : (p : List ℕ) (n : ℕ) → same_text (lowercase p) (n ∷ []) ≡ true → lowercase p ≡ n ∷ []
named p n is = (bytes_eq-Decides (lowercase p) (n ∷ [])).0 is

module _ (y : LocaleIdentifier) (p : List ℕ) where
  pub at_u : is_u p ≡ true → marked y p ≡ opened_unicode y
  at_u is = λ i. if is i then opened_unicode y else (if is_t p then opened_transform y else (if is_x p then Some in_private_use else opened_other y p))

  pub at_t : is_t p ≡ true → marked y p ≡ opened_transform y
  at_t is =
      let name = named p 116 is in
      λ i. if same_text (name i) (codes "u") then opened_unicode y else (if same_text (name i) (codes "t") then opened_transform y
      else (if same_text (name i) (codes "x") then Some in_private_use else opened_other y p))

  pub at_x : is_x p ≡ true → marked y p ≡ Some in_private_use
  at_x is =
      let name = named p 120 is in
      λ i. if same_text (name i) (codes "u") then opened_unicode y else (if same_text (name i) (codes "t") then opened_transform y
      else (if same_text (name i) (codes "x") then Some in_private_use else opened_other y p))

  pub at_other : is_other_singleton p ≡ true → marked y p ≡ opened_other y p
  at_other is =
      let name = none_of_three (is_t p) (is_u p) (is_x p) (and_parts (is_singleton p && is_alphanumeric p) (not (is_t p || (is_u p || is_x p))) is).1 in
      λ i. if name.1.0 i then opened_unicode y else (if name.0 i then opened_transform y else (if name.1.1 i then Some in_private_use else opened_other y p))

pub other_lower : (p : List ℕ) → is_other_singleton p ≡ true → (same_text (lowercase p) (codes "u") ≡ false) × (same_text (lowercase p) (codes "t") ≡ false)
other_lower p is =
    let name = none_of_three (is_t p) (is_u p) (is_x p) (and_parts (is_singleton p && is_alphanumeric p) (not (is_t p || (is_u p || is_x p))) is).1 in
    (name.1.0, name.0)

pub is_one : (p : List ℕ) (n : ℕ) → same_text (lowercase p) (n ∷ []) ≡ true → is_singleton p ≡ true
is_one p n is = ap (λ k. k == 1) (sym (length-map p to_ascii_lowercase) ∙ ap length (named p n is))

-- ---- extensions

-- an extension with this singleton was read
abbrev pub has : LocaleIdentifier → List ℕ → Bool
has y m =
    if same_text m (codes "u") then has_unicode y
    else (if same_text m (codes "t") then has_transform y else is_some (value_at text_cmp y.others m))

abbrev pub Starts : List (List ℕ) → Type 0
Starts rest = begins_at_mark is_singleton rest ≡ true

unicode_read : (y : LocaleIdentifier) (ts vs ks : List (List ℕ)) (rows : List Block) (rest : List (List ℕ)) → Each is_subtag ts vs → AnyNumber IsKeyword ks rows
    → Starts rest → first_is (λ p. is_subtag p || is_key p) ((ts ++ ks) ++ rest) ≡ true
    → read_opened (Some attributes) y ((ts ++ ks) ++ rest) ≡ read_on whole [] (add y (unicode_of vs rows)) rest
unicode_read y ts vs ks rows rest each ds at some =
    let z = with_attributes y (rising (from_list vs)) in
    let kws = y.locale.extensions.unicode.keywords in
    (λ i. if some i then read_on attributes [] y (append_assoc ts ks rest i) else Err InvalidSubtag)
    ∙ segment attributes ts (ks ++ rest) y each.passes (keyword_first ks rows rest ds (stop is_subtag (λ c. refl) rest at))
    ∙ ap (λ us. read_on keywords [] (with_attributes y (rising (from_list us))) (ks ++ rest)) (sym each.lower)
    ∙ keywords_read z kws ks rows rest ds (stop is_subtag (λ c. refl) rest at)
    ∙ key_none keywords is_key in_keyword (λ x p ps. refl) (λ x. refl) (with_keywords z (add_rows kws rows)) rest (stop is_key (λ c. refl) rest at)

language_keeps : (y : LocaleIdentifier) (l : Option LanguageIdentifier) → (add_language y l).fields ≡ y.fields
language_keeps y None = refl
language_keeps y (Some l) = refl

tkey_ends : (p : List ℕ) → is_tkey p ≡ true → belongs language p ≡ false
tkey_ends p is = ap (λ b. not (b || is_singleton p)) is

transform_read : (y : LocaleIdentifier) (ls : List (List ℕ)) (l : Option LanguageIdentifier) (fs : List (List ℕ)) (rows : List Block) (rest : List (List ℕ))
    → All (λ p. belongs language p ≡ true) ls → added language ls y ≡ Ok (add_language y l) → AnyNumber IsTfield fs rows
    → Starts rest → first_is (λ p. not (is_singleton p)) ((ls ++ fs) ++ rest) ≡ true
    → read_opened (Some language) y ((ls ++ fs) ++ rest) ≡ read_on whole [] (add y (transform_of l rows)) rest
transform_read y ls l fs rows rest each is ds at some =
    let z = add_language y l in
    (λ i. if some i then read_on language [] y (append_assoc ls fs rest i) else Err InvalidSubtag)
    ∙ segment language ls (fs ++ rest) y each (field_first tkey_ends fs rows rest ds (stop (belongs language) (λ c. refl) rest at))
    ∙ ap (λ r. and_then r (λ x. read_on fields [] x (fs ++ rest))) is
    ∙ fields_read z z.fields fs rows rest ds (stop (is_piece 3) (λ c. refl) rest at)
    ∙ key_none fields is_tkey in_field (λ x p ps. refl) (λ x. refl) (with_fields z (add_rows z.fields rows)) rest (stop is_tkey (λ c. refl) rest at)
    ∙ ap (λ old. read_on whole [] (with_fields z (add_rows old rows)) rest) (language_keeps y l)

-- what is told of the grammar of identifiers
abbrev pub ReadsLanguageIds : Type 0
ReadsLanguageIds = (ps : List (List ℕ)) (l : LanguageIdentifier) → IsLanguageId ps l → (read_pieces ps ≡ Ok l) × All (λ p. belongs language p ≡ true) ps

-- a list of one piece or more
language_added : (y : LocaleIdentifier) (ps : List (List ℕ)) (l : LanguageIdentifier) → read_pieces ps ≡ Ok l → added language ps y ≡ Ok (with_language y l)
language_added y [] l is = absurd (cc is)
language_added y (p ∷ ps) l is = ap (with_read y) is

language_starts : (ps qs : List (List ℕ)) (l : LanguageIdentifier) → read_pieces ps ≡ Ok l → All (λ p. belongs language p ≡ true) ps
    → first_is (λ p. not (is_singleton p)) (ps ++ qs) ≡ true
language_starts [] qs l is each = absurd (cc is)
language_starts (p ∷ ps) qs l is each = ap not (belongs_long p (All-head (λ p. belongs language p ≡ true) p ps each))

extension_read : ReadsLanguageIds → (y : LocaleIdentifier) (ps : List (List ℕ)) (e : Meaning) (rest : List (List ℕ)) → IsExtension ps e
    → has y (singleton e) ≡ false → Starts rest → read_on whole [] y (ps ++ rest) ≡ read_on whole [] (add y e) rest
extension_read ids y ps e rest (unicode qs f (of_keywords us ks m rows (one p is) (first hs bs row more (keyword kp ts k v (one q key) types) ds))) fresh at =
    (λ i. read_opened (at_u y p is i) y (((q ∷ ts) ++ bs) ++ rest)) ∙ (λ i. read_opened (if fresh i then None else Some attributes) y (((q ∷ ts) ++ bs) ++ rest))
    ∙ unicode_read y [] [] ((q ∷ ts) ++ bs) (row ∷ more) rest (record { passes = All-nil (λ p. is_subtag p ≡ true); lower = refl })
    (next (q ∷ ts) bs row more (keyword (q ∷ []) ts (lowercase q) v (one q key) types) ds) at (or_second (is_subtag q) (is_key q) key)
extension_read ids y ps e rest (unicode qs f (of_attributes us xs ks m vs rows (one p is) (first hs bs v more (one a sub) ds) keys)) fresh at =
    (λ i. read_opened (at_u y p is i) y (((a ∷ bs) ++ ks) ++ rest)) ∙ (λ i. read_opened (if fresh i then None else Some attributes) y (((a ∷ bs) ++ ks) ++ rest))
    ∙ unicode_read y (a ∷ bs) (lowercase a ∷ more) ks rows rest (each_any is_subtag (a ∷ bs) (lowercase a ∷ more) (next (a ∷ []) bs (lowercase a) more (one a sub) ds)) keys at
    (or_first (is_subtag a) (is_key a) sub)
extension_read ids y ps e rest (transformed qs f (of_tlang ts ls fs m l rows (one p is) id ds)) fresh at =
    let read = ids ls l id in
    (λ i. read_opened (at_t y p is i) y ((ls ++ fs) ++ rest)) ∙ (λ i. read_opened (if fresh i then None else Some language) y ((ls ++ fs) ++ rest))
    ∙ transform_read y ls (Some l) fs rows rest read.1 (language_added y ls l read.0) ds at
    (ap (first_is (λ p. not (is_singleton p))) (append_assoc ls fs rest) ∙ language_starts ls (fs ++ rest) l read.0 read.1)
extension_read ids y ps e rest (transformed qs f (of_tfields ts fs m rows (one p is) (first hs bs row more (tfield kp us k v (one q key) types) ds))) fresh at =
    (λ i. read_opened (at_t y p is i) y (((q ∷ us) ++ bs) ++ rest)) ∙ (λ i. read_opened (if fresh i then None else Some language) y (((q ∷ us) ++ bs) ++ rest))
    ∙ transform_read y [] None ((q ∷ us) ++ bs) (row ∷ more) rest (All-nil (λ p. belongs language p ≡ true)) refl
    (next (q ∷ us) bs row more (tfield (q ∷ []) us (lowercase q) v (one q key) types) ds) at (ap not (tkey_long q key))
extension_read ids y ps e rest (other qs f (of_other ss ts s vs (one p is) some)) fresh at =
    let each = each_some (is_piece 2) ts vs some in
    let apart = other_lower p is in
    let new : is_some (value_at text_cmp y.others (lowercase p)) ≡ false = (λ i. if sym apart.0 i then has_unicode y else (if sym apart.1 i then has_transform y
    else is_some (value_at text_cmp y.others (lowercase p)))) ∙ fresh in
    (λ i. read_opened (at_other y p is i) y (ts ++ rest))
    ∙ (λ i. read_opened (if is i && not (new i) then Some (in_other (lowercase p)) else None) y (ts ++ rest))
    ∙ (λ i. if first_some (is_piece 2) ts vs rest some i then read_on (in_other (lowercase p)) [] y (ts ++ rest) else Err InvalidSubtag)
    ∙ segment (in_other (lowercase p)) ts rest y each.passes (stop (is_piece 2) (λ c. refl) rest at)
    ∙ ap (λ us. read_on whole [] (with_others y (add_first text_cmp y.others (lowercase p) us)) rest) (sym each.lower)

-- the extensions are new, one after another
abbrev pub are_fresh : LocaleIdentifier → List Meaning → Bool
are_fresh y [] = true
are_fresh y (e ∷ es) = not (has y (singleton e)) && are_fresh (add y e) es

extension_starts : (ps : List (List ℕ)) (e : Meaning) (rest : List (List ℕ)) → IsExtension ps e → Starts (ps ++ rest)
extension_starts ps e rest (unicode qs f (of_keywords us ks m rows (one p is) ds)) = is_one p 117 is
extension_starts ps e rest (unicode qs f (of_attributes us xs ks m vs rows (one p is) ds keys)) = is_one p 117 is
extension_starts ps e rest (transformed qs f (of_tlang ts ls fs m l rows (one p is) id ds)) = is_one p 116 is
extension_starts ps e rest (transformed qs f (of_tfields ts fs m rows (one p is) ds)) = is_one p 116 is
extension_starts ps e rest (other qs f (of_other ss ts s vs (one p is) some)) =
    (and_parts (is_singleton p) (is_alphanumeric p) (and_parts (is_singleton p && is_alphanumeric p) (not (is_t p || (is_u p || is_x p))) is).0).0

extensions_start : (ps : List (List ℕ)) (es : List Meaning) (rest : List (List ℕ)) → AnyNumber IsExtension ps es → Starts rest → Starts (ps ++ rest)
extensions_start ps es rest done at = at
extensions_start ps es rest (next qs rs e more d ds) at = ap (begins_at_mark is_singleton) (append_assoc qs rs rest) ∙ extension_starts qs e (rs ++ rest) d

pub extensions_read : ReadsLanguageIds → (y : LocaleIdentifier) (ps : List (List ℕ)) (es : List Meaning) (rest : List (List ℕ)) → AnyNumber IsExtension ps es
    → are_fresh y es ≡ true → Starts rest → read_on whole [] y (ps ++ rest) ≡ read_on whole [] (add_all y es) rest
extensions_read ids y ps es rest done fresh at = refl
extensions_read ids y ps es rest (next qs rs e more d ds) fresh at =
    let both = and_parts (not (has y (singleton e))) (are_fresh (add y e) more) fresh in
    ap (read_on whole [] y) (append_assoc qs rs rest)
    ∙ extension_read ids y qs e (rs ++ rest) d (not-true (has y (singleton e)) both.0) (extensions_start rs more rest ds at)
    ∙ extensions_read ids (add y e) rs more rest ds both.1 at

pub private_use_read : (y : LocaleIdentifier) (ps : List (List ℕ)) (o : Option (List (List ℕ))) → AtMostOne IsPrivateUse ps o
    → read_on whole [] y ps ≡ Ok (add_private_use y o)
private_use_read y ps o absent = refl
private_use_read y ps o (present qs vs (grammar.private_use xs ts m us (one p is) some)) =
    let each = each_some (is_piece 1) ts us some in
    (λ i. read_opened (at_x y p is i) y (sym (append-nil ts) i))
    ∙ (λ i. if first_some (is_piece 1) ts us [] some i then read_on in_private_use [] y (ts ++ []) else Err InvalidSubtag)
    ∙ segment in_private_use ts [] y each.passes refl
    ∙ ap (λ ws. Ok (with_private_use y ws)) (sym each.lower)

private_use_starts : (ps : List (List ℕ)) (o : Option (List (List ℕ))) → AtMostOne IsPrivateUse ps o → Starts ps
private_use_starts ps o absent = refl
private_use_starts ps o (present qs vs (grammar.private_use xs ts m us (one p is) some)) = is_one p 120 is

pub locale_read : ReadsLanguageIds → (i e p : List (List ℕ)) (l : LanguageIdentifier) (es : List Meaning) (o : Option (List (List ℕ)))
    → IsLanguageId i l → AnyNumber IsExtension e es → are_fresh (bare l) es ≡ true → AtMostOne IsPrivateUse p o
    → read (i ++ (e ++ p)) ≡ Ok (add_private_use (add_all (bare l) es) o)
locale_read ids i e p l es o id ext fresh pu =
    let known = ids i l id in
    let starts = extensions_start e es p ext (private_use_starts p o pu) in
    let both = cut is_singleton i (e ++ p) (All-weaker (λ q. belongs language q ≡ true) (λ q. is_singleton q ≡ false) belongs_long i known.1) starts in
    let front = front_whole is_singleton singletons_end (i ++ (e ++ p)) i (e ++ p) l both.0 both.1 known.0 in
    (λ k. and_then (front.0 k) (λ l. read_on whole [] (bare l) (front.1 k)))
    ∙ extensions_read ids (bare l) e es p ext fresh (private_use_starts p o pu)
    ∙ private_use_read (add_all (bare l) es) p o pu
