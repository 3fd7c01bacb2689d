-- Each piece of a written form has letters and digits alone, and one at least.
use Rattle.std.proofs.Common.{◌≡◌, ◌≤◌, ℕ, Bool, true, false, ◌&&◌, ◌||◌, not, List, [], ◌∷◌, filter, if◌then◌else◌, codes, Option, None, Some, IfSome, refl, arith}
use Rattle.std.specs.List.{All}
use Rattle.std.specs.Char.{is_ascii_alphabetic, is_ascii_digit, is_ascii_alphanumeric, to_ascii_lowercase}
use Rattle.std.proofs.lemmas.Bool.{and_parts, false≢true}
use Rattle.std.proofs.lemmas.Bool.Decides.{nat_tests}
use Rattle.std.proofs.lemmas.List.{length-map}
use Rattle.std.proofs.lemmas.List.Elements.{All-nil, All-cons, All-head, All-tail, All-append, All-weaker, All-map}
use Rattle.icu_locale_core.specs.Identifier.{IsIdentifier, subtags}
use Rattle.icu_locale_core.specs.Keywords.{IsKeyword}
use Rattle.icu_locale_core.specs.Subtag.{has_length, is_alphanumeric, lowercase, IsSubtag}
use Rattle.icu_locale_core.specs.TextSet.{rising}
use Rattle.icu_locale_core.specs.declared.langid.LanguageIdentifier.{LanguageIdentifier}
use Rattle.icu_locale_core.specs.laws.Classes.{IsPart, IsPart-less, part_between, part_key, part_subtag, rising_variants, subtag_parts}
use Rattle.icu_locale_extensions.specs.Extensions.{is_singleton, is_t, is_u, is_x, ArePieces, IsField, IsOther, IsOtherSingleton, IsPiece, IsTkey}
use Rattle.icu_locale_extensions.specs.Locales.{IsLocaleIdentifier, extension_pieces, lower_subtags, marked, marked_if_any, transform_pieces, unicode_pieces, written_pieces}
use Rattle.icu_locale_extensions.specs.Rows.{above_t, below_t, flat}
use Rattle.icu_locale_extensions.specs.declared.identifier.LocaleIdentifier.{LocaleIdentifier}
use Rattle.icu_locale_parts.specs.Parts.{Row}

-- one letter or digit, or more
abbrev pub IsPlain : List ℕ → Type 0
IsPlain p = IsPart 1 p

abbrev pub IsPlainRow : Row → Type 0
IsPlainRow row = All IsPlain (row.0 ∷ row.1)

-- ---- each class

pub plain_piece : (low : ℕ) → 1 ≤ low → (p : List ℕ) → IsPiece low p → IsPlain p
plain_piece low some p is =
    let both = and_parts (has_length low 8 p) (is_alphanumeric p) is.member in
    IsPart-less 1 low some p (part_between low 8 p both.0 both.1)

plain_tkey : (p : List ℕ) → IsTkey p → IsPlain p
plain_tkey [] is = absurd (false≢true is.member)
plain_tkey (c ∷ []) is = absurd (false≢true is.member)
plain_tkey (c ∷ d ∷ []) is =
    let both = and_parts (is_ascii_alphabetic c) (is_ascii_digit d) is.member in
    let first : is_ascii_alphanumeric c ≡ true = grind (arith, nat_tests, both.0) in
    let second : is_ascii_alphanumeric d ≡ true = grind (arith, nat_tests, both.1) in
    record { long = omega arith; plain = λ i. first i && (second i && true) }
plain_tkey (c ∷ d ∷ e ∷ t) is = absurd (false≢true is.member)

plain_singleton : (p : List ℕ) → IsOtherSingleton p → IsPlain p
plain_singleton p is =
    let both = and_parts (is_singleton p && is_alphanumeric p) (not (is_t p || (is_u p || is_x p))) is.member in
    let one = and_parts (is_singleton p) (is_alphanumeric p) both.0 in
    record { long = grind (arith, nat_tests, one.0); plain = one.1 }

lower : (p : List ℕ) → is_alphanumeric p ≡ true → is_alphanumeric (lowercase p) ≡ true
lower [] is = refl
lower (c ∷ p) is =
    let both = and_parts (is_ascii_alphanumeric c) (is_alphanumeric p) is in
    let first : is_ascii_alphanumeric (to_ascii_lowercase c) ≡ true = grind (arith, nat_tests, both.0) in
    λ i. first i && lower p both.1 i

plain_lower : (p : List ℕ) → IsPlain p → IsPlain (lowercase p)
plain_lower p is = record { long = omega (arith, is.long, length-map p to_ascii_lowercase); plain = lower p is.plain }

-- ---- rows

pub plain_field : (row : Row) → IsField row → IsPlainRow row
plain_field row is = All-cons IsPlain row.0 row.1 (plain_tkey row.0 is.key) (All-weaker (IsPiece 3) IsPlain (plain_piece 3 (omega arith)) row.1 is.value.each)

pub plain_other : (row : Row) → IsOther row → IsPlainRow row
plain_other row is = All-cons IsPlain row.0 row.1 (plain_singleton row.0 is.singleton) (All-weaker (IsPiece 2) IsPlain (plain_piece 2 (omega arith)) row.1 is.pieces.each)

pub plain_subtag : (p : List ℕ) → IsSubtag p → IsPlain p
plain_subtag p is = IsPart-less 1 3 (omega arith) p (part_subtag p is.member)

pub plain_keyword : (row : Row) → IsKeyword row → IsPlainRow row
plain_keyword row is = All-cons IsPlain row.0 row.1 (IsPart-less 1 2 (omega arith) row.0 (part_key row.0 is.key.member)) (All-weaker IsSubtag IsPlain plain_subtag row.1 is.value.each)

plain_flat : (rows : List Row) → All IsPlainRow rows → All IsPlain (flat rows)
plain_flat [] each = All-nil IsPlain
plain_flat (row ∷ rows) each =
    All-append IsPlain (row.0 ∷ row.1) (flat rows) (All-head IsPlainRow row rows each) (plain_flat rows (All-tail IsPlainRow row rows each))

plain_kept : (test : Row → Bool) (rows : List Row) → All IsPlainRow rows → All IsPlainRow (filter test rows)
plain_kept test [] each = All-nil IsPlainRow
plain_kept test (row ∷ rows) each = by (test row) (plain_kept test rows (All-tail IsPlainRow row rows each))
  where
    by : (b : Bool) → All IsPlainRow (filter test rows) → All IsPlainRow (if b then row ∷ filter test rows else filter test rows)
    by true left = All-cons IsPlainRow row (filter test rows) (All-head IsPlainRow row rows each) left
    by false left = left

-- ---- all of it

pub plain_subtags : (x : LanguageIdentifier) → IsIdentifier x → All IsPlain (subtags x (rising x.variants))
plain_subtags x is = All-weaker (IsPart 2) IsPlain (IsPart-less 1 2 (omega arith)) (subtags x (rising x.variants))
    (subtag_parts x is (rising x.variants) (rising_variants x is))

plain_language : (lang : Option LanguageIdentifier) → IfSome lang IsIdentifier → All IsPlain (lower_subtags lang)
plain_language None is = All-nil IsPlain
plain_language (Some l) is = All-map IsPlain lowercase (subtags l (rising l.variants))
    (All-weaker IsPlain (λ p. IsPlain (lowercase p)) plain_lower (subtags l (rising l.variants)) (plain_subtags l is))

one_letter : (c : ℕ) → is_ascii_alphanumeric c ≡ true → IsPlain (c ∷ [])
one_letter c is = record { long = omega arith; plain = λ i. is i && true }

plain_marked : (mark : List ℕ) (ps : List (List ℕ)) → IsPlain mark → All IsPlain ps → All IsPlain (marked mark ps)
plain_marked mark [] is each = All-nil IsPlain
plain_marked mark (p ∷ ps) is each = All-cons IsPlain mark (p ∷ ps) is each

plain_private : (pieces : Option (List (List ℕ))) → IfSome pieces (ArePieces 1) → All IsPlain (marked_if_any (codes "x") pieces)
plain_private None is = All-nil IsPlain
plain_private (Some ps) is = All-cons IsPlain (codes "x") ps (one_letter 120 refl) (All-weaker (IsPiece 1) IsPlain (plain_piece 1 (omega arith)) ps is.each)

module _ (x : LocaleIdentifier) (is : IsLocaleIdentifier x) where
  others : All IsPlainRow x.others
  others = All-weaker IsOther IsPlainRow plain_other x.others is.each_other

  transform : All IsPlain (transform_pieces x)
  transform = All-append IsPlain (lower_subtags x.locale.extensions.transform.lang) (flat x.fields)
      (plain_language x.locale.extensions.transform.lang is.language)
      (plain_flat x.fields (All-weaker IsField IsPlainRow plain_field x.fields is.each_field))

  unicode : All IsPlain (unicode_pieces x)
  unicode = All-append IsPlain x.attributes (flat x.locale.extensions.unicode.keywords)
      (All-weaker IsSubtag IsPlain plain_subtag x.attributes is.attributes.each)
      (plain_flat x.locale.extensions.unicode.keywords
      (All-weaker IsKeyword IsPlainRow plain_keyword x.locale.extensions.unicode.keywords is.each_keyword))

  behind : All IsPlain (extension_pieces x)
  behind = All-append IsPlain (flat (below_t x.others)) _ (plain_flat (below_t x.others) (plain_kept _ x.others others))
      (All-append IsPlain (marked (codes "t") (transform_pieces x)) _ (plain_marked (codes "t") (transform_pieces x) (one_letter 116 refl) transform)
      (All-append IsPlain (marked (codes "u") (unicode_pieces x)) _ (plain_marked (codes "u") (unicode_pieces x) (one_letter 117 refl) unicode)
      (All-append IsPlain (flat (above_t x.others)) _ (plain_flat (above_t x.others) (plain_kept _ x.others others))
      (plain_private x.private_use is.private_use))))

  pub plain_pieces : All IsPlain (written_pieces x)
  plain_pieces = All-append IsPlain (subtags x.locale.id (rising x.locale.id.variants)) (extension_pieces x) (plain_subtags x.locale.id is.id) behind
