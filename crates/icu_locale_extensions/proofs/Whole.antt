-- A whole text is read where its identifier and what follows are.
use Rattle.std.specs.Prelude.{◌≡◌, ◌⊎◌, ◌↔◌, ℕ, Bool, true, false, not, ◌||◌, ◌&&◌, List, [], ◌∷◌, Result, Ok, Err, IfOk, IsErr, IsErrAnd, slice_index_or, if◌then◌else◌}
use Rattle.std.proofs.Common.{refl, ap, sym, ◌∙◌, subst, inl, inr}
use Rattle.std.specs.List.{list_any}
use Rattle.std.proofs.lemmas.Bool.{false≢true, or_right}
use Rattle.icu_locale_core.specs.Identifier.{pieces, starts_with_language}
use Rattle.icu_locale_core.specs.Readings.{read_front, after_front, front_variants, read_after}
use Rattle.icu_locale_core.specs.Subtag.{is_language, is_variant, lowercase}
use Rattle.icu_locale_core.specs.declared.langid.LanguageIdentifier.{LanguageIdentifier}
use Rattle.icu_locale_core.specs.declared.parse_error.ParseError.{ParseError}
use Rattle.icu_locale_core.specs.declared.parse_error.ParseError.TheVariants.{InvalidLanguage, Memory}
use Rattle.icu_locale_extensions.specs.Built.{bare}
use Rattle.icu_locale_core.specs.Cuts.{from}
use Rattle.icu_locale_extensions.specs.Extensions.{is_singleton, is_t, is_tkey}
use Rattle.icu_locale_extensions.specs.Grammar.{IsLocaleId}
use Rattle.icu_locale_extensions.specs.Locales.{IsLocaleIdentifier}
use Rattle.icu_locale_extensions.specs.laws.Reader.{and_then, read, read_on, ReadsAs}
use Rattle.icu_locale_extensions.specs.laws.Reader.Part.{whole}
use Rattle.icu_locale_extensions.specs.Syntaxes.{is_kept, takes_memory}
use Rattle.icu_locale_extensions.specs.declared.identifier.LocaleIdentifier.{LocaleIdentifier}
use Rattle.icu_locale_extensions.specs.declared.syntax.Syntax.TheVariants.{Unicode}
use Rattle.icu_locale_extensions.specs.inner.Takes.{ReadsBehind, IsKept, is_kept_behind}
use Rattle.icu_locale_extensions.proofs.Refused.{language_told, language_refused}
use Rattle.icu_locale_extensions.proofs.Taking.{any_from, end_front, kept_after, kept_front_variant}

-- ---- memory

-- what is kept is a variant, a singleton or the key of a field
parted : (a b : Bool) (x y z : Bool) → (x ≡ true → (y || z) ≡ true) → ((a || b) || x) ≡ true → ((a || y) || (b || z)) ≡ true
parted true b x y z rest some = refl
parted false true x true z rest some = refl
parted false true x false z rest some = refl
parted false false x true z rest some = refl
parted false false x false z rest some = rest some

kept_parts : (ps : List (List ℕ)) → IsKept ps → (list_any is_kept ps || list_any is_tkey ps) ≡ true
kept_parts [] some = absurd (false≢true some)
kept_parts (p ∷ ps) some = parted (is_kept p) (is_tkey p) (list_any is_kept_behind ps)
    (list_any is_kept ps) (list_any is_tkey ps) (kept_parts ps) some

either : (a b c : Bool) → (a ≡ true → b ≡ true) → (a || c) ≡ true → (b || c) ≡ true
either true b c on some = ap (λ d. d || c) (on refl)
either false true c on some = refl
either false false c on some = some

-- what is kept behind a singleton is kept of the text
pub kept_text : (t : List ℕ) → IsKept (from is_singleton (pieces t)) → takes_memory t ≡ true
kept_text t some = either (list_any is_kept (from is_singleton (pieces t))) (list_any is_kept (pieces t)) (list_any is_tkey (from is_singleton (pieces t)))
    (any_from is_kept (pieces t)) (kept_parts (from is_singleton (pieces t)) some)

variant_kept : (ps : List (List ℕ)) → list_any is_variant ps ≡ true → list_any is_kept ps ≡ true
variant_kept [] some = some
variant_kept (p ∷ ps) some = by (is_variant p) (is_singleton p && not (is_t p)) some (variant_kept ps)
  where
    by : (a b : Bool) → (a || list_any is_variant ps) ≡ true → (list_any is_variant ps ≡ true → list_any is_kept ps ≡ true) → ((a || b) || list_any is_kept ps) ≡ true
    by true b some rest = refl
    by false b some rest = or_right b (list_any is_kept ps) (rest some)

variant_text : (t : List ℕ) → list_any is_variant (front_variants (pieces t)) ≡ true → takes_memory t ≡ true
variant_text t some = ap (λ b. b || list_any is_tkey (from is_singleton (pieces t))) (variant_kept (pieces t) (kept_front_variant (pieces t) some))

-- ---- what was read is spelled

-- the error that `?` hands on
pub same_err : {A : Type 0} (r : Result A ParseError) (f : ParseError) → IsErr r → IsErrAnd r (λ e. e ≡ f) → r ≡ Err f
same_err (Ok a) f is same = absurd (cc is)
same_err (Err e) f is same = ap Err same

pub front_read : (ps : List (List ℕ)) (f : Result LanguageIdentifier ParseError) (l : LanguageIdentifier) → (f ≡ Err Memory) ⊎ (f ≡ read_front ps) → f ≡ Ok l
    → read_front ps ≡ Ok l
front_read ps f l is was = elim is [ inl memory ↦ absurd (cc (sym memory ∙ was)) | inr same ↦ sym same ∙ was ]

module _ (derived : (ps : List (List ℕ)) (x : LocaleIdentifier) → IsLocaleId ps x ↔ (read ps ≡ Ok x)) where
  pub found : (ps : List (List ℕ)) (r : Result LocaleIdentifier ParseError) → (r ≡ Err Memory) ⊎ (r ≡ read ps) → IfOk r IsLocaleIdentifier
      → IfOk r (λ x. IsLocaleIdentifier x × IsLocaleId ps x)
  found ps (Ok x) is known = (known, (derived ps x).1 (elim is [ inl memory ↦ absurd (cc memory) | inr same ↦ sym same ]))
  found ps (Err e) is known = known

  reads : (t : List ℕ) (r : Result LocaleIdentifier ParseError) → (r ≡ Err Memory) ⊎ (r ≡ read (pieces t)) → IfOk r IsLocaleIdentifier
      → (r ≡ Err Memory → starts_with_language t ≡ true) → (r ≡ Err Memory → takes_memory t ≡ true) → ReadsAs Unicode t r
  reads t r is known begins memory = record {
    read = is;
    found = found (pieces t) r is known;
    language = (
      (λ e. elim is [ inl memory ↦ absurd (cc (sym memory ∙ e)) | inr same ↦ language_told (pieces t) (sym same ∙ e) ]),
      (λ none. elim is [ inl memory ↦ absurd (false≢true (sym none ∙ begins memory)) | inr same ↦ same ∙ language_refused (pieces t) none ]),
    );
    memory = memory;
  }

  front_begins : (ps : List (List ℕ)) (l : LanguageIdentifier) → read_front ps ≡ Ok l → is_language (slice_index_or ps 0 []) ≡ true
  front_begins [] l is = absurd (cc is)
  front_begins (p ∷ ps) l is = by (is_language p) is
    where
      by : (b : Bool) → (if b then read_after (lowercase p) ps else Err InvalidLanguage) ≡ Ok l → b ≡ true
      by true is = refl
      by false is = absurd (cc is)

  -- the identifier was read
  pub behind_reads : (t : List ℕ) (ps left : List (List ℕ)) (l : LanguageIdentifier) (r : Result LocaleIdentifier ParseError) → ps ≡ pieces t
      → read_front ps ≡ Ok l → left ≡ after_front ps → ReadsBehind left l r → ReadsAs Unicode t r
  behind_reads t ps left l r same front rest behind =
      let at : read_front (pieces t) ≡ Ok l = ap read_front (sym same) ∙ front in
      let left_is : left ≡ after_front (pieces t) = rest ∙ ap after_front same in
      let whole_is : read_on whole [] (bare l) left ≡ read (pieces t) =
      ap (read_on whole [] (bare l)) left_is ∙ sym (ap (λ r. and_then r (λ l. read_on whole [] (bare l) (after_front (pieces t)))) at) in
      reads t r (elim behind.read [ inl memory ↦ inl memory | inr is ↦ inr (is ∙ whole_is) ]) behind.known
      (λ e. front_begins (pieces t) l at)
      (λ e. kept_text t (kept_after (after_front (pieces t)) (pieces t) (end_front (pieces t)) (subst (λ qs. IsKept (from is_singleton qs)) left_is (behind.memory e))))

  -- the identifier was refused
  pub front_refused : (t : List ℕ) (ps : List (List ℕ)) (f : Result LanguageIdentifier ParseError) (e : ParseError) (r : Result LocaleIdentifier ParseError)
      → ps ≡ pieces t → f ≡ Err e → r ≡ Err e → (f ≡ Err Memory) ⊎ (f ≡ read_front ps)
      → (f ≡ Err Memory → is_language (slice_index_or ps 0 []) ≡ true) → (f ≡ Err Memory → list_any is_variant (front_variants ps) ≡ true)
      → ReadsAs Unicode t r
  front_refused t ps f e r same was is front begins memory =
      let handed = λ (m : r ≡ Err Memory). (let same : e ≡ Memory = cc (sym is ∙ m) in was ∙ ap Err same) in
      reads t r (elim front [
        | inl refused ↦ (let m : e ≡ Memory = cc (sym was ∙ refused) in inl (is ∙ ap Err m))
        | inr read_it ↦ inr (is ∙ sym (ap (λ r. and_then r (λ l. read_on whole [] (bare l) (after_front (pieces t)))) (ap read_front (sym same) ∙ sym read_it ∙ was)))
      ]) (subst (λ r. IfOk r IsLocaleIdentifier) (sym is) tt)
      (λ m. ap (λ qs. is_language (slice_index_or qs 0 [])) (sym same) ∙ begins (handed m))
      (λ m. variant_text t (ap (λ qs. list_any is_variant (front_variants qs)) (sym same) ∙ memory (handed m)))
