-- Extensions written after their marks, and the whole of an identifier.
use Rattle.std.proofs.Common.{◌≡◌, ℕ, true, List, [], ◌∷◌, ◌++◌, codes, map, refl, ap, sym, Some, ◌∙◌, append_assoc}
use Rattle.std.proofs.lemmas.Bool.{false≢true}
use Rattle.std.proofs.lemmas.List.{map-append}
use Rattle.std.specs.List.{flat_map}
use Rattle.std.specs.Option.{option_to_list}
use Rattle.icu_locale_core.specs.Subtag.{lowercase}
use Rattle.icu_locale_core.specs.Identifier.{subtags}
use Rattle.icu_locale_core.specs.TextSet.{rising}
use Rattle.icu_locale_core.specs.declared.langid.LanguageIdentifier.{LanguageIdentifier}
use Rattle.icu_locale_extensions.specs.Extensions.{any_piece}
use Rattle.icu_locale_extensions.specs.Locales.{lower_subtags, marked, marked_if_any, extension_pieces, written, transform_pieces, unicode_pieces}
use Rattle.icu_locale_extensions.specs.Rows.{flat, dashed, dashed_row, below_t, above_t}
use Rattle.icu_locale_extensions.specs.declared.identifier.LocaleIdentifier.{LocaleIdentifier}
use Rattle.icu_locale_extensions.proofs.Dashes.{dashed-append, dashed-flat, dashed-keywords}
use Rattle.icu_locale_core.specs.Identifier as core
use Rattle.icu_locale_core.specs.Keywords.{written_keywords}

-- else the mark and the pieces
pub dashed_marked : (mark : List ℕ) (ps : List (List ℕ)) → any_piece ps ≡ true → dashed (marked mark ps) ≡ (codes "-" ++ mark) ++ dashed ps
dashed_marked mark [] some = absurd (false≢true some)
dashed_marked mark (p ∷ ps) some = refl

pub dashed_unicode : (x : LocaleIdentifier) → any_piece (unicode_pieces x) ≡ true
    → codes "-u" ++ (dashed x.attributes ++ written_keywords x.locale.extensions.unicode.keywords) ≡ dashed (marked (codes "u") (unicode_pieces x))
dashed_unicode x some =
    ap (λ t. codes "-u" ++ (dashed x.attributes ++ t)) (dashed-keywords x.locale.extensions.unicode.keywords)
    ∙ ap (λ t. codes "-u" ++ t) (sym (dashed-append x.attributes (flat x.locale.extensions.unicode.keywords)))
    ∙ sym (dashed_marked (codes "u") (unicode_pieces x) some)

pub dashed_transform : (x : LocaleIdentifier) → any_piece (transform_pieces x) ≡ true
    → codes "-t" ++ (dashed (lower_subtags x.locale.extensions.transform.lang) ++ flat_map dashed_row x.fields) ≡ dashed (marked (codes "t") (transform_pieces x))
dashed_transform x some =
    ap (λ t. codes "-t" ++ (dashed (lower_subtags x.locale.extensions.transform.lang) ++ t)) (dashed-flat x.fields)
    ∙ ap (λ t. codes "-t" ++ t) (sym (dashed-append (lower_subtags x.locale.extensions.transform.lang) (flat x.fields)))
    ∙ sym (dashed_marked (codes "t") (transform_pieces x) some)

-- the extensions, one by one
pub dashed_extensions : (x : LocaleIdentifier)
    → dashed (flat (below_t x.others)) ++ (dashed (marked (codes "t") (transform_pieces x)) ++ (dashed (marked (codes "u") (unicode_pieces x))
    ++ (dashed (flat (above_t x.others)) ++ dashed (marked_if_any (codes "x") x.private_use)))) ≡ dashed (extension_pieces x)
dashed_extensions x =
    let b = flat (below_t x.others) in
    let t = marked (codes "t") (transform_pieces x) in
    let u = marked (codes "u") (unicode_pieces x) in
    let a = flat (above_t x.others) in
    let p = marked_if_any (codes "x") x.private_use in
    ap (λ r. dashed b ++ (dashed t ++ (dashed u ++ r))) (sym (dashed-append a p))
    ∙ ap (λ r. dashed b ++ (dashed t ++ r)) (sym (dashed-append u (a ++ p)))
    ∙ ap (λ r. dashed b ++ r) (sym (dashed-append t (u ++ (a ++ p))))
    ∙ sym (dashed-append b (t ++ (u ++ (a ++ p))))

-- the identifier, and then the extensions
pub written_parts : (x : LocaleIdentifier) → core.written x.locale.id ++ dashed (extension_pieces x) ≡ written x
written_parts x =
    let l = x.locale.id.language in
    let rest = subtags_behind x.locale.id in
    append_assoc l (dashed rest) (dashed (extension_pieces x)) ∙ ap (λ t. l ++ t) (sym (dashed-append rest (extension_pieces x)))
  where
    subtags_behind : LanguageIdentifier → List (List ℕ)
    subtags_behind id = behind_first (subtags id (rising id.variants))
      where
        behind_first : List (List ℕ) → List (List ℕ)
        behind_first [] = []
        behind_first (p ∷ ps) = ps

-- the subtags of a language in lower case, one by one
pub dashed_lower : (l : LanguageIdentifier) → (codes "-" ++ lowercase l.language) ++ (dashed (map lowercase (option_to_list l.script))
    ++ (dashed (map lowercase (option_to_list l.region)) ++ dashed (map lowercase (rising l.variants)))) ≡ dashed (lower_subtags (Some l))
dashed_lower l =
    let s = option_to_list l.script in
    let r = option_to_list l.region in
    let v = rising l.variants in
    ap (λ t. (codes "-" ++ lowercase l.language) ++ t) (ap (λ t. dashed (map lowercase s) ++ t) (two r v) ∙ two s (r ++ v))
  where
    two : (ps qs : List (List ℕ)) → dashed (map lowercase ps) ++ dashed (map lowercase qs) ≡ dashed (map lowercase (ps ++ qs))
    two ps qs = sym (dashed-append (map lowercase ps) (map lowercase qs)) ∙ ap dashed (sym (map-append lowercase ps qs))
