-- Locale identifiers and their written form (UTS #35 Part 1, section 3.2, unicode_locale_id).
use Rattle.std.specs.Prelude.{◌≡◌, ℕ, List, [], ◌∷◌, ◌++◌, map, codes, IfSome, Option, None, Some}
use Rattle.std.specs.List.{All, join_by}
use Rattle.icu_locale_core.specs.Identifier.{subtags, IsIdentifier}
use Rattle.icu_locale_core.specs.Keywords.{IsKeyword}
use Rattle.icu_locale_core.specs.Maps.{IsSortedMap}
use Rattle.icu_locale_core.specs.Subtag.{lowercase}
use Rattle.icu_locale_core.specs.TextSet.{empty, text_cmp, rising}
use Rattle.icu_locale_core.specs.declared.langid.LanguageIdentifier.{LanguageIdentifier}
use Rattle.icu_locale_extensions.specs.Attributes.{AreAttributes}
use Rattle.icu_locale_extensions.specs.Extensions.{ArePieces, IsField, IsOther}
use Rattle.icu_locale_extensions.specs.Rows.{flat, below_t, above_t}
use Rattle.icu_locale_extensions.specs.declared.identifier.LocaleIdentifier.{LocaleIdentifier}

-- ---- each part belongs to its class and is in its written case

pub record IsLocaleIdentifier (x : LocaleIdentifier) : Type 0 where
  pub id : IsIdentifier x.locale.id
  pub language : IfSome x.locale.extensions.transform.lang IsIdentifier
  pub attributes : AreAttributes x.attributes
  pub keywords : IsSortedMap text_cmp x.locale.extensions.unicode.keywords
  pub each_keyword : All IsKeyword x.locale.extensions.unicode.keywords
  pub fields : IsSortedMap text_cmp x.fields
  pub each_field : All IsField x.fields
  pub others : IsSortedMap text_cmp x.others
  pub each_other : All IsOther x.others
  pub private_use : IfSome x.private_use (ArePieces 1)

-- nothing of it lies in memory: it has no variants, no extensions and no private use; a transformed language without
-- variants may be there
pub record TakesNoMemory (x : LocaleIdentifier) : Type 0 where
  pub variants : x.locale.id.variants ≡ empty
  pub language : IfSome x.locale.extensions.transform.lang (λ l. l.variants ≡ empty)
  pub keywords : x.locale.extensions.unicode.keywords ≡ []
  pub attributes : x.attributes ≡ []
  pub fields : x.fields ≡ []
  pub others : x.others ≡ []
  pub private_use : x.private_use ≡ None

-- ---- how it is written

-- a mark and its pieces, or nothing where there are none
abbrev pub marked : List ℕ → List (List ℕ) → List (List ℕ)
marked mark [] = []
marked mark (p ∷ ps) = mark ∷ p ∷ ps

-- a mark and pieces that may be absent
abbrev pub marked_if_any : List ℕ → Option (List (List ℕ)) → List (List ℕ)
marked_if_any mark None = []
marked_if_any mark (Some ps) = mark ∷ ps

-- the subtags of a transformed language, all in lower case
abbrev pub lower_subtags : Option LanguageIdentifier → List (List ℕ)
lower_subtags None = []
lower_subtags (Some l) = map lowercase (subtags l (rising l.variants))

-- the pieces of the transform extension: its language, and then its fields
abbrev pub transform_pieces : LocaleIdentifier → List (List ℕ)
transform_pieces x = lower_subtags x.locale.extensions.transform.lang ++ flat x.fields

-- the pieces of the Unicode extension: its attributes, and then its keywords
abbrev pub unicode_pieces : LocaleIdentifier → List (List ℕ)
unicode_pieces x = x.attributes ++ flat x.locale.extensions.unicode.keywords

-- the pieces after the identifier: the extensions, rising by singleton, and private use last
abbrev pub extension_pieces : LocaleIdentifier → List (List ℕ)
extension_pieces x =
    flat (below_t x.others)
    ++ (marked (codes "t") (transform_pieces x)
    ++ (marked (codes "u") (unicode_pieces x)
    ++ (flat (above_t x.others)
    ++ marked_if_any (codes "x") x.private_use)))

abbrev pub written_pieces : LocaleIdentifier → List (List ℕ)
written_pieces x = subtags x.locale.id (rising x.locale.id.variants) ++ extension_pieces x

-- the one spelling in written case
abbrev pub written : LocaleIdentifier → List ℕ
written x = join_by (λ p. p) (codes "-") (written_pieces x)
