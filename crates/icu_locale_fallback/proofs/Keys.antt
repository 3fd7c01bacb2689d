-- A table's key for a locale is in its chain.
use Rattle.std.proofs.Common.{◌≡◌, ◌≢◌, ℕ, List, Bool, true, false, not, ◌&&◌, Option, Some, None, refl, ap, sym, ◌∙◌, inl, inr, if◌then◌else◌}
use Rattle.std.specs.Option.{option_eq}
use Rattle.std.specs.Str.{bytes_eq}
use Rattle.std.proofs.lemmas.Bool.{false≢true, and_parts, not-true}
use Rattle.std.proofs.lemmas.Slice.Eq.{bytes_eq-Decides}
use Rattle.icu_locale_core.specs.Subtag.{und}
use Rattle.icu_locale_core.specs.laws.Identifiers.{options_tell}
use Rattle.icu_provider.specs.declared.data_locale.DataLocale.{DataLocale}
use Rattle.icu_locale.specs.LikelySubtags.{LikelySubtags}
use Rattle.icu_locale.specs.Locales.{locale_with, same_locale}
use Rattle.icu_locale_runs.specs.Run.{StandsIn}
use Rattle.icu_locale_fallback.specs.Fallback.{root, script_of, normal, depends_on_region, data_key, truncated, Inheritance, explicit_parent, next}
use Rattle.icu_locale_fallback.specs.declared.fallbacker.LocaleFallbackPriority.{LocaleFallbackPriority}
use Rattle.icu_locale_fallback.specs.declared.fallbacker.LocaleFallbackPriority.TheVariants.{Language, Script, Region}
use Rattle.icu_locale_fallback.proofs.Truncations.{cond_cases, by_script_known}
use Rattle.icu_locale_fallback.proofs.Lengths.{follows}

itself : (o : Option (List ℕ)) → option_eq bytes_eq o o ≡ true
itself o = (options_tell bytes_eq (λ t u. bytes_eq-Decides t u) o o).1 refl

-- a script that depends on the region is put in next
record PutIn (p : LocaleFallbackPriority) (likely : LikelySubtags) (x : DataLocale) : Type 0 where
  is : truncated p likely x ≡ locale_with x.language (script_of likely x) x.region
  goes : same_locale x root ≡ false

put_in : (p : LocaleFallbackPriority) → p ≢ Region → (likely : LikelySubtags) (l : List ℕ) (s r : Option (List ℕ))
    → depends_on_region likely (locale_with l s r) ≡ true → PutIn p likely (locale_with l s r)
put_in p other likely l (Some s) r depends = absurd (false≢true depends)
put_in p other likely l None None depends =
    let parts = and_parts (not (bytes_eq l und)) _ depends in
    absurd (false≢true (sym (not-true _ parts.1) ∙ itself (script_of likely (locale_with l None None))))
put_in Region other likely l None (Some r) depends = absurd (other refl)
put_in Language other likely l None (Some r) depends =
    let x = locale_with l None (Some r) in
    let parts = and_parts (not (bytes_eq l und)) _ depends in
    record {
      is = ap (λ b. if b then locale_with l (script_of likely x) (Some r) else locale_with l None None) depends;
      goes = ap (λ b. b && false) (not-true (bytes_eq l und) parts.0);
    }
put_in Script other likely l None (Some r) depends =
    let x = locale_with l None (Some r) in
    let parts = and_parts (not (bytes_eq l und)) _ depends in
    record {
      is = by_script_known likely x (not-true (bytes_eq l und) parts.0)
          ∙ ap (λ b. if b then locale_with l (script_of likely x) (Some r) else locale_with l None None) depends;
      goes = ap (λ b. b && false) (not-true (bytes_eq l und) parts.0);
    }

normal_form : (p : LocaleFallbackPriority) → p ≢ Region → (likely : LikelySubtags) (x : DataLocale) → normal p likely x ≡ normal Language likely x
normal_form Language other likely x = refl
normal_form Script other likely x = refl
normal_form Region other likely x = absurd (other refl)

stands : (by : Inheritance) (n : DataLocale) → by.priority ≢ Region → explicit_parent by n ≡ None
    → StandsIn (next by) n (if depends_on_region by.likely n then locale_with n.language (script_of by.likely n) n.region else n)
stands by n other none =
    elim (cond_cases (depends_on_region by.likely n) (locale_with n.language (script_of by.likely n) n.region) n) [
      | inl (depends, is) ↦
          let put = put_in by.priority other by.likely n.language n.script n.region depends in
          (1, follows by n none put.goes ∙ ap Some (put.is ∙ sym is))
      | inr (stays, is) ↦ (0, ap Some (sym is))
    ]

pub key_stands : (by : Inheritance) (x : DataLocale) → by.priority ≢ Region → explicit_parent by (normal by.priority by.likely x) ≡ None
    → StandsIn (next by) (normal by.priority by.likely x) (data_key by.likely x)
key_stands by x other none =
    let same = normal_form by.priority other by.likely x in
    rw same (stands by (normal Language by.likely x) other (ap (explicit_parent by) (sym same) ∙ none))
