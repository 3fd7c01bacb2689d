-- Laws of locales that are valid, and of what is told of them.
use Rattle.std.proofs.Common.{◌≡◌, ◌↔◌, ℕ, Bool, true, false, ◌&&◌, ◌==◌, List, [], ◌∷◌, ◌++◌, codes, get_or, refl, ap, sym, ◌∙◌, append_assoc}
use Rattle.std.specs.List.{list_all}
use Rattle.std.proofs.lemmas.Bool.{false≢true}
use Rattle.icu_locale_core.specs.Maps.{value_at}
use Rattle.icu_locale_core.specs.TextSet.{text_cmp}
use Rattle.icu_locale_extensions.specs.declared.identifier.LocaleIdentifier.{LocaleIdentifier}
use Rattle.icu_locale_validity.specs.Parts.{IsValid, Part, is_valid, is_valid_part, kind_word, parts_of}
use Rattle.icu_locale_validity.specs.Reports.{faults, report_of, told}
use Rattle.icu_locale_validity.specs.Statuses.{is_valid_status}
use Rattle.icu_locale_validity.specs.declared.part.PartKind.{PartKind}
use Rattle.icu_locale_validity.specs.declared.part.PartKind.TheVariants.{Language, Script, Region, Variant, Attribute, Keyword, Field, Extension}
use Rattle.icu_locale_validity.specs.declared.table.Validity.{Validity}
use Rattle.icu_locale_validity.proofs.Told.{all_pass, valid_told}
use Rattle.icu_locale_validity.proofs.Wholes.{each_is_told}

pub valid_parts : (v : Validity) (x : LocaleIdentifier) → (is_valid v x ≡ true) ↔ IsValid v x
valid_parts v x = each_is_told (is_valid_part v) (parts_of x)

-- the third letter of a text is l
abbrev has_l : List ℕ → Bool
has_l t = get_or t 2 0 == 108

-- no kind begins as `valid` does
not_valid : (k : PartKind) (rest : List ℕ) → kind_word k ++ rest ≡ codes "valid" → ⊥
not_valid Language rest e = false≢true (ap has_l e)
not_valid Script rest e = false≢true (ap has_l e)
not_valid Region rest e = false≢true (ap has_l e)
not_valid Variant rest e = false≢true (ap has_l e)
not_valid Attribute rest e = false≢true (ap has_l e)
not_valid Keyword rest e = false≢true (ap has_l e)
not_valid Field rest e = false≢true (ap has_l e)
not_valid Extension rest e = false≢true (ap has_l e)

module _ (v : Validity) (t : List ℕ) (x : LocaleIdentifier) where
  told_faults : (fs : List Part) → told v t fs ≡ codes "valid" → fs ≡ []
  told_faults [] e = refl
  told_faults (f ∷ fs) e = absurd (not_valid f.kind _ (sym (append_assoc (kind_word f.kind) _ _) ∙ e))

  pub one_word : (report_of v t x ≡ codes "valid") ↔ IsValid v x
  one_word = (
    λ e. (valid_parts v x).0 (all_pass (is_valid_part v) (parts_of x) (told_faults (faults v (parts_of x)) e)),
    λ each. valid_told v t x ((valid_parts v x).1 each),
  )

-- all parts but the first
abbrev behind_first : List Part → List Part
behind_first [] = []
behind_first (p ∷ ps) = ps

pub none_listed : (v : Validity) (x : LocaleIdentifier) → v.languages ≡ [] → is_valid v x ≡ false
none_listed v x none = ap (λ rows. is_valid_status (value_at text_cmp rows x.locale.id.language) && list_all (is_valid_part v) (behind_first (parts_of x))) none
