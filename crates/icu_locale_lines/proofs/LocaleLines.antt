-- How a line that is a locale is cut and read.
use Rattle.std.proofs.Common.{◌≡◌, ◌⊎◌, ◌↔◌, ℕ, ◌+◌, true, false, List, [], drop, Option, None, Some, Result, Ok, Err, IfOk, IfErr, inl, inr, refl}
use Rattle.std.proofs.Common.{ap, sym, subst, ◌∙◌}
use Rattle.std.specs.List.{position}
use Rattle.std.specs.Option.{option_map}
use Rattle.std.proofs.lemmas.Bool.{true_from_ne_false}
use Rattle.icu_locale.specs.Canonical.{rg}
use Rattle.icu_locale_core.specs.Identifier.{IsIdentifier, Spells, ReadsIdentifier}
use Rattle.icu_locale_core.specs.Keywords.{with_value}
use Rattle.icu_locale_core.specs.Value.{is_value, read_value}
use Rattle.icu_locale_core.specs.declared.langid.LanguageIdentifier.{LanguageIdentifier}
use Rattle.icu_locale_core.specs.declared.locale.Locale.{Locale}
use Rattle.icu_locale_core.specs.declared.parse_error.ParseError.{ParseError}
use Rattle.icu_locale_core.specs.declared.parse_error.ParseError.TheVariants.{InvalidLanguage, InvalidSubtag, Memory}
use Rattle.icu_locale_lines.specs.Lists.{IsFault}
use Rattle.icu_locale_lines.specs.Locales.{is_tab, identifier_text, value_text, SpellsLocale, IsValueFault, IsLocaleFault}
use Rattle.icu_locale_lines.specs.inner.Parts.{IsLocaleOf, IsRefusedValue}
use Rattle.icu_locale_lines.proofs.ListReading.{refusal_from_reading}

-- what follows a tab that is found, and without one nothing does
pub value_text-position : (line : List ℕ) (n : ℕ) → position is_tab line ≡ Some n → value_text line ≡ Some (drop (n + 1) line)
value_text-position line n at = ap (option_map (λ place. drop (place + 1) line)) at

pub value_text-no_position : (line : List ℕ) → position is_tab line ≡ None → value_text line ≡ None
value_text-no_position line none = ap (option_map (λ place. drop (place + 1) line)) none

-- how reading a value ends
abbrev done : List (List ℕ) → Result (List (List ℕ)) ParseError
done v = Ok v

abbrev failed : ParseError → Result (List (List ℕ)) ParseError
failed e = Err e

abbrev is_done : Result (List (List ℕ)) ParseError → Type 0
is_done (Ok v) = Unit {0}
is_done (Err e) = ⊥

-- a text that was read as a value reads as one
pub readable_from_read : (text : List ℕ) (v : List (List ℕ)) → (done v ≡ failed InvalidSubtag) ↔ (is_value text ≡ false) → is_value text ≡ true
readable_from_read text v refused = true_from_ne_false (is_value text) (λ unreadable. subst is_done (refused.1 unreadable) tt)

-- why a text was not read as a value
pub refused_from_read : (text : List ℕ) (e : ParseError) → (failed e ≡ failed InvalidSubtag) ↔ (is_value text ≡ false)
    → (failed e ≡ failed InvalidLanguage → ⊥) → IsRefusedValue (Some text) e
refused_from_read text Memory refused other = inl refl
refused_from_read text InvalidSubtag refused other = inr (refused.0 refl, refl)
refused_from_read text InvalidLanguage refused other = absurd (other refl)

-- the locale of an identifier alone, with the value of a text put at `rg`
pub overridden_from_parts : (x : LanguageIdentifier) (text : List ℕ) (plain : Locale) (value : List (List ℕ)) → plain.id ≡ x
    → plain.extensions.unicode.keywords ≡ [] → plain.extensions.transform.lang ≡ None
    → value ≡ read_value text → is_value text ≡ true → (r : Result Locale ParseError)
    → IfOk r (λ new. new.id ≡ plain.id) → IfOk r (λ new. new.extensions.unicode.keywords ≡ with_value plain.extensions.unicode.keywords rg
    value) → IfOk r (λ new. new.extensions.transform.lang ≡ plain.extensions.transform.lang)
    → IfOk r (IsLocaleOf x (Some text))
overridden_from_parts x text plain value id keywords transform read readable (Ok new) same put kept = record {
  readable = readable;
  id = same ∙ id;
  keywords = put ∙ (λ i. with_value (keywords i) rg (read i));
  transform = kept ∙ transform;
}
overridden_from_parts x text plain value id keywords transform read readable (Err e) same put kept = tt

pub memory_alone : (text : Option (List ℕ)) (r : Result Locale ParseError) → IfErr r (λ e. e ≡ Memory) → IfErr r (IsRefusedValue text)
memory_alone text (Ok new) h = tt
memory_alone text (Err e) h = inl h

-- the parts of a line are read
module _ (line t : List ℕ) (first : t ≡ identifier_text line) where
  pub spelled_from_parts : (u : Option (List ℕ)) → u ≡ value_text line → (x : LanguageIdentifier) → IsIdentifier x × Spells t x
      → (r : Result Locale ParseError) → IfOk r (IsLocaleOf x u) → IfOk r (SpellsLocale line)
  spelled_from_parts u behind x spelled (Ok new) made =
      let of = subst (λ v. IsLocaleOf x v new) behind made in
      record {
        known = subst IsIdentifier (sym of.id) spelled.0;
        id = subst (Spells (identifier_text line)) (sym of.id) (subst (λ s. Spells s x) first spelled.1);
        readable = of.readable;
        keywords = of.keywords;
        transform = of.transform;
      }
  spelled_from_parts u behind x spelled (Err e) made = tt

  -- the value is refused where the identifier was read
  pub fault_from_value : (u : Option (List ℕ)) → u ≡ value_text line → (x : LanguageIdentifier) → IsIdentifier x × Spells t x
      → (r : Result Locale ParseError) → IfErr r (IsRefusedValue u) → IfErr r (λ e. (e ≡ Memory) ⊎ IsLocaleFault line e)
  fault_from_value u behind x spelled (Ok new) h = tt
  fault_from_value u behind x spelled (Err e) (inl memory) = inl memory
  fault_from_value u behind x spelled (Err e) (inr fault) = inr (record {
    fault = inr ((x, spelled.0, subst (λ s. Spells s x) first spelled.1), subst (λ v. IsValueFault v e) behind fault);
  })

  pub fault_from_identifier : (e : ParseError) → ReadsIdentifier t (Err e) → (e ≡ Memory) ⊎ IsLocaleFault line e
  fault_from_identifier e reads = by (refusal_from_reading t e reads)
    where
      by : (e ≡ Memory) ⊎ IsFault t e → (e ≡ Memory) ⊎ IsLocaleFault line e
      by (inl memory) = inl memory
      by (inr refusal) = inr (record { fault = inl (subst (λ s. IsFault s e) first refusal) })
