-- Equality of locale identifiers is told by their parts.
use Rattle.std.proofs.Common.{◌≡◌, ◌↔◌, ℕ, Bool, true, ◌&&◌, List, ap, refl}
use Rattle.std.specs.Cmp.Lexicographic.{pointwise}
use Rattle.std.specs.Option.{option_eq}
use Rattle.std.proofs.lemmas.Bool.{and_parts, and_from}
use Rattle.std.proofs.lemmas.Slice.Eq.{bytes_eq-Decides, slice_eq-Decides}
use Rattle.icu_locale_core.specs.Keywords.{row_eq}
use Rattle.icu_locale_core.specs.laws.Identifiers.{Tells, same_text, values_decide, options_tell}
use Rattle.icu_locale_core.specs.Cuts.{Block}
use Rattle.icu_locale_extensions.specs.declared.identifier.LocaleIdentifier.{LocaleIdentifier}

row_tells : (p q : Block) → Tells (row_eq p q) (p ≡ q)
row_tells p q = (
  λ e.
      let parts = and_parts (same_text p.0 q.0) _ e in
      λ i. ((bytes_eq-Decides p.0 q.0).0 parts.0 i, (values_decide p.1 q.1).0 parts.1 i),
  λ e. λ i. (bytes_eq-Decides p.0 q.0).1 (ap (λ (r : Block). r.0) e) i && (values_decide p.1 q.1).1 (ap (λ (r : Block). r.1) e) i,
)

pub rows_tell : (rows others : List Block) → Tells (pointwise row_eq rows others) (rows ≡ others)
rows_tell rows others = slice_eq-Decides row_tells rows others (pointwise row_eq rows others) refl

pub texts_tell_all : (ps qs : List (List ℕ)) → Tells (pointwise same_text ps qs) (ps ≡ qs)
texts_tell_all ps qs = values_decide ps qs

abbrev pub same_parts : LocaleIdentifier → LocaleIdentifier → Bool
same_parts x y =
    pointwise same_text x.attributes y.attributes
    && (pointwise row_eq x.fields y.fields && (pointwise row_eq x.others y.others && option_eq (pointwise same_text) x.private_use y.private_use))

pub whole_tells : (same_locale : Bool) (x y : LocaleIdentifier) → (same_locale ≡ true) ↔ (x.locale ≡ y.locale)
    → ((same_locale && same_parts x y) ≡ true) ↔ (x ≡ y)
whole_tells same_locale x y locales =
    let attributes = texts_tell_all x.attributes y.attributes in
    let fields = rows_tell x.fields y.fields in
    let others = rows_tell x.others y.others in
    let private_uses = options_tell (pointwise same_text) texts_tell_all x.private_use y.private_use in (
      λ e.
          let l = and_parts same_locale (same_parts x y) e in
          let a = and_parts (pointwise same_text x.attributes y.attributes) _ l.1 in
          let f = and_parts (pointwise row_eq x.fields y.fields) _ a.1 in
          let o = and_parts (pointwise row_eq x.others y.others) _ f.1 in
          λ i. record {
            locale = locales.0 l.0 i;
            attributes = attributes.0 a.0 i;
            fields = fields.0 f.0 i;
            others = others.0 o.0 i;
            private_use = private_uses.0 o.1 i;
          },
      λ e. and_from same_locale (same_parts x y) (locales.1 (ap (λ (z : LocaleIdentifier). z.locale) e))
          (and_from (pointwise same_text x.attributes y.attributes) _ (attributes.1 (ap (λ (z : LocaleIdentifier). z.attributes) e))
          (and_from (pointwise row_eq x.fields y.fields) _ (fields.1 (ap (λ (z : LocaleIdentifier). z.fields) e))
          (and_from (pointwise row_eq x.others y.others) _ (others.1 (ap (λ (z : LocaleIdentifier). z.others) e))
          (private_uses.1 (ap (λ (z : LocaleIdentifier). z.private_use) e))))),
    )
