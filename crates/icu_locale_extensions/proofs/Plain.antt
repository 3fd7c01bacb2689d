-- Texts without singletons, and identifiers alone.
use Rattle.std.specs.Prelude.{◌≡◌, ◌⊎◌, ◌↔◌, ℕ, Bool, true, false, not, ◌&&◌, ◌||◌, List, [], ◌∷◌, map, Result, Ok, Err, IfOk}
use Rattle.std.proofs.Common.{refl, ap, sym, ◌∙◌, subst, inl, inr}
use Rattle.std.specs.List.{list_any}
use Rattle.std.specs.List.Sorted.{IsStrictlySortedBy}
use Rattle.std.proofs.lemmas.Bool.{false≢true}
use Rattle.std.proofs.lemmas.List.Elements.{All-nil}
use Rattle.icu_locale_core.specs.Identifier.{pieces, has_variant, starts_with_language, IsIdentifier, ReadsIdentifier}
use Rattle.icu_locale_core.specs.Identifier as core
use Rattle.icu_locale_core.specs.Keywords.{IsKeyword}
use Rattle.icu_locale_core.specs.Readings.{read_pieces}
use Rattle.icu_locale_core.specs.Subtag.{IsSubtag, is_variant, lowercase}
use Rattle.icu_locale_core.specs.declared.langid.LanguageIdentifier.{LanguageIdentifier}
use Rattle.icu_locale_core.specs.declared.parse_error.ParseError.{ParseError}
use Rattle.icu_locale_core.specs.declared.parse_error.ParseError.TheVariants.{InvalidLanguage, InvalidSubtag, Memory}
use Rattle.icu_locale_extensions.specs.Built.{as_locale, bare}
use Rattle.icu_locale_core.specs.Cuts.{from}
use Rattle.icu_locale_extensions.specs.Extensions.{is_singleton, is_t, is_tkey, IsField, IsOther}
use Rattle.icu_locale_extensions.specs.Grammar.{IsLocaleId}
use Rattle.icu_locale_extensions.specs.Locales.{IsLocaleIdentifier}
use Rattle.icu_locale_extensions.specs.laws.Reader.{read, ReadsAs}
use Rattle.icu_locale_extensions.specs.Syntaxes.{ReadsBy, is_kept, takes_memory}
use Rattle.icu_locale_extensions.specs.declared.identifier.LocaleIdentifier.{LocaleIdentifier}
use Rattle.icu_locale_extensions.specs.declared.syntax.Syntax.TheVariants.{Unicode}
use Rattle.icu_locale_extensions.proofs.ByGrammar.{from_reader, to_reader}
use Rattle.icu_locale_extensions.proofs.Refused.{language_refused, language_told, memory_never, plain_read}

pub bare_is : (x : LanguageIdentifier) → IsIdentifier x → IsLocaleIdentifier (bare x)
unfolding IsStrictlySortedBy
bare_is x is = record {
  id = is;
  language = tt;
  attributes = record { rise = tt; each = All-nil IsSubtag };
  keywords = tt;
  each_keyword = All-nil IsKeyword;
  fields = tt;
  each_field = All-nil IsField;
  others = tt;
  each_other = All-nil IsOther;
  private_use = tt;
}

-- nothing but variants is kept of such a text
kept_variants : (ps : List (List ℕ)) → list_any is_singleton ps ≡ false → (list_any is_kept ps ≡ list_any is_variant ps) × (from is_singleton ps ≡ [])
kept_variants [] none = (refl, refl)
kept_variants (p ∷ ps) none = by (is_singleton p) refl none (kept_variants ps)
  where
    left : (a b c d : Bool) → c ≡ d → ((a || (false && b)) || c) ≡ (a || d)
    left true b c d same = refl
    left false b c d same = same

    by : (b : Bool) → is_singleton p ≡ b → (b || list_any is_singleton ps) ≡ false
        → (list_any is_singleton ps ≡ false → (list_any is_kept ps ≡ list_any is_variant ps) × (from is_singleton ps ≡ []))
        → (list_any is_kept (p ∷ ps) ≡ list_any is_variant (p ∷ ps)) × (from is_singleton (p ∷ ps) ≡ [])
    by true e none rest = absurd (false≢true (sym none))
    by false e none rest =
        let more = rest none in (
          ap (λ b. (is_variant p || (b && not (is_t p))) || list_any is_kept ps) e
              ∙ left (is_variant p) (not (is_t p)) (list_any is_kept ps) (list_any is_variant ps) more.0,
          rw e more.1,
        )

or_none : (b : Bool) → (b || false) ≡ b
or_none true = refl
or_none false = refl

only_variants : (t : List ℕ) → list_any is_singleton (pieces t) ≡ false → takes_memory t ≡ has_variant t
only_variants t plain =
    let parts = kept_variants (pieces t) plain in
    (λ i. parts.0 i || list_any is_tkey (parts.1 i)) ∙ or_none (list_any is_variant (pieces t))

err_of : (r : Result LanguageIdentifier ParseError) (e : ParseError) → as_locale r ≡ Err e → r ≡ Err e
err_of (Ok x) e is = absurd (cc is)
err_of (Err f) e is = cc is

ok_of : (r : Result LanguageIdentifier ParseError) (x : LanguageIdentifier) → as_locale r ≡ Ok (bare x) → r ≡ Ok x
ok_of (Ok y) x is = ap Ok (ap (λ o. elim o [ Ok z ↦ z.locale.id | Err e ↦ y ]) is)
ok_of (Err f) x is = absurd (cc is)

module _ (derived : (ps : List (List ℕ)) (x : LocaleIdentifier) → IsLocaleId ps x ↔ (read ps ≡ Ok x))
    (sound : (ps : List (List ℕ)) (x : LanguageIdentifier) → read_pieces ps ≡ Ok x
    → IsIdentifier x × ((t : List ℕ) × ((pieces t ≡ ps) × core.Spells t x)))
    (complete : (t : List ℕ) (x : LanguageIdentifier) → IsIdentifier x → core.Spells t x → read_pieces (pieces t) ≡ Ok x) where
  spells : (t : List ℕ) (x : LanguageIdentifier) → read_pieces (pieces t) ≡ Ok x → core.Spells t x
  spells t x is =
      let of = sound (pieces t) x is in
      record { order = of.1.1.1.order; lists = of.1.1.1.lists; same = ap (map lowercase) (sym of.1.1.0) ∙ of.1.1.1.same }

  module _ (t : List ℕ) (plain : list_any is_singleton (pieces t) ≡ false) where
    whole_read : (x : LanguageIdentifier) → IsIdentifier x → core.Spells t x → read (pieces t) ≡ Ok (bare x)
    whole_read x is s = plain_read (pieces t) plain ∙ ap as_locale (complete t x is s)

    refused : (r : Result LanguageIdentifier ParseError) → ReadsIdentifier t r → (q : Result LanguageIdentifier ParseError) → read_pieces (pieces t) ≡ q
        → r ≡ Err InvalidSubtag → q ≡ Err InvalidSubtag
    refused r reads (Ok y) e is = absurd (reads.subtag is y (sound (pieces t) y e).0 (spells t y e))
    refused r reads (Err InvalidSubtag) e is = refl
    refused r reads (Err InvalidLanguage) e is =
        absurd (cc (sym is ∙ reads.language.1 (language_told (pieces t) (plain_read (pieces t) plain ∙ ap as_locale e))))
    refused r reads (Err Memory) e is = absurd (memory_never (pieces t) (plain_read (pieces t) plain ∙ ap as_locale e))

    is_read : (r : Result LanguageIdentifier ParseError) → ReadsIdentifier t r → (as_locale r ≡ Err Memory) ⊎ (as_locale r ≡ read (pieces t))
    is_read (Ok x) reads = inr (sym (whole_read x reads.found.0 reads.found.1))
    is_read (Err Memory) reads = inl refl
    is_read (Err InvalidLanguage) reads = inr (sym (language_refused (pieces t) (reads.language.0 refl)))
    is_read (Err InvalidSubtag) reads =
        inr (sym (plain_read (pieces t) plain ∙ ap as_locale (refused (Err InvalidSubtag) reads (read_pieces (pieces t)) refl refl)))

    found_there : (r : Result LanguageIdentifier ParseError) → IfOk r (λ x. IsIdentifier x × core.Spells t x)
        → IfOk (as_locale r) (λ x. IsLocaleIdentifier x × IsLocaleId (pieces t) x)
    found_there (Ok x) h = (bare_is x h.0, (derived (pieces t) (bare x)).1 (whole_read x h.0 h.1))
    found_there (Err e) h = tt

    found_back : (r : Result LanguageIdentifier ParseError) → IfOk (as_locale r) (λ x. IsLocaleIdentifier x × IsLocaleId (pieces t) x)
        → IfOk r (λ x. IsIdentifier x × core.Spells t x)
    found_back (Ok x) h =
        (h.0.id, spells t x (ok_of (read_pieces (pieces t)) x (sym (plain_read (pieces t) plain) ∙ (derived (pieces t) (bare x)).0 h.1)))
    found_back (Err e) h = tt

    there : (r : Result LanguageIdentifier ParseError) → ReadsIdentifier t r → ReadsBy Unicode t (as_locale r)
    there r reads = from_reader derived Unicode t (as_locale r) (record {
      read = is_read r reads;
      found = found_there r reads.found;
      language = (λ e. reads.language.0 (err_of r InvalidLanguage e), λ e. ap as_locale (reads.language.1 e));
      memory = λ e. only_variants t plain ∙ reads.memory (err_of r Memory e);
    })

    back : (r : Result LanguageIdentifier ParseError) → ReadsAs Unicode t (as_locale r) → ReadsIdentifier t r
    back r reads = record {
      found = found_back r reads.found;
      only = λ x is s. elim reads.read [
        | inl refused ↦ inr (err_of r Memory refused)
        | inr same ↦ inl (ok_of r x (same ∙ whole_read x is s))
      ];
      language = (λ e. reads.language.0 (ap as_locale e), λ e. err_of r InvalidLanguage (reads.language.1 e));
      subtag = λ e x is s. elim reads.read [
        | inl refused ↦ absurd (cc (sym e ∙ err_of r Memory refused))
        | inr same ↦ absurd (cc (sym (ap as_locale e) ∙ same ∙ whole_read x is s))
      ];
      memory = λ e. sym (only_variants t plain) ∙ reads.memory (ap as_locale e);
    }

  -- such a text is read as an identifier alone is
  pub plain_alike : (t : List ℕ) (r : Result LanguageIdentifier ParseError) → list_any is_singleton (pieces t) ≡ false
      → ReadsIdentifier t r ↔ ReadsBy Unicode t (as_locale r)
  plain_alike t r plain = (there t plain r, λ reads. back t plain r (to_reader derived Unicode t (as_locale r) reads))

  -- and spells an identifier alone
  pub plain_spelled : (t : List ℕ) (x : LocaleIdentifier) → list_any is_singleton (pieces t) ≡ false → IsLocaleId (pieces t) x
      → (IsIdentifier x.locale.id × core.Spells t x.locale.id) × (x ≡ bare x.locale.id)
  plain_spelled t x plain s = by (read_pieces (pieces t)) refl (sym (plain_read (pieces t) plain) ∙ (derived (pieces t) x).0 s)
    where
      by : (r : Result LanguageIdentifier ParseError) → read_pieces (pieces t) ≡ r → as_locale r ≡ Ok x
          → (IsIdentifier x.locale.id × core.Spells t x.locale.id) × (x ≡ bare x.locale.id)
      by (Ok y) e is =
          let same : bare y ≡ x = ap (λ o. elim o [ Ok z ↦ z | Err f ↦ x ]) is in
          subst (λ z. (IsIdentifier z.locale.id × core.Spells t z.locale.id) × (z ≡ bare z.locale.id)) same
          (((sound (pieces t) y e).0, spells t y e), refl)
      by (Err f) e is = absurd (cc is)
