-- Reading by the grammar is reading as the reader reads.
use Rattle.std.specs.Prelude.{◌≡◌, ◌⊎◌, ◌↔◌, ℕ, Bool, true, false, List, [], Result, Ok, Err, slice_index_or}
use Rattle.std.proofs.Common.{refl, sym, ◌∙◌, inl, inr}
use Rattle.std.proofs.lemmas.Bool.{false≢true}
use Rattle.icu_locale_core.specs.Identifier.{pieces}
use Rattle.icu_locale_core.specs.Subtag.{is_language}
use Rattle.icu_locale_core.specs.declared.parse_error.ParseError.{ParseError}
use Rattle.icu_locale_core.specs.declared.parse_error.ParseError.TheVariants.{InvalidLanguage, InvalidSubtag, Memory}
use Rattle.icu_locale_extensions.specs.Grammar.{IsLocaleId}
use Rattle.icu_locale_extensions.specs.laws.Reader.{read, read_by, ReadsAs}
use Rattle.icu_locale_extensions.specs.Syntaxes.{IsFaultBy, IsOkUnlessMemory, IsRefused, ReadsBy, SpellsBy, base_text, tag_text}
use Rattle.icu_locale_extensions.specs.declared.identifier.LocaleIdentifier.{LocaleIdentifier}
use Rattle.icu_locale_extensions.specs.declared.syntax.Syntax.{Syntax}
use Rattle.icu_locale_extensions.specs.declared.syntax.Syntax.TheVariants.{Unicode, Bcp47, Posix}
use Rattle.icu_locale_extensions.proofs.Faults.{posix_fault, posix_refused, spelled_read}
use Rattle.icu_locale_extensions.proofs.Refused.{language_refused, language_told, memory_never}

-- a tag is read as what it stands for
pub tag_read : (t : List ℕ) (r : Result LocaleIdentifier ParseError) → ReadsAs Unicode (tag_text t) r → ReadsAs Bcp47 t r
tag_read t r reads = record { read = reads.read; found = reads.found; language = reads.language; memory = reads.memory }

module _ (derived : (ps : List (List ℕ)) (x : LocaleIdentifier) → IsLocaleId ps x ↔ (read ps ≡ Ok x)) where
  -- pieces are refused exactly where the reader refuses them
  refused_read : (ps : List (List ℕ)) (e : ParseError) → IsRefused ps e → read ps ≡ Err e
  refused_read ps InvalidLanguage fault = language_refused ps fault
  refused_read ps InvalidSubtag fault = by (read ps) refl
    where
      by : (r : Result LocaleIdentifier ParseError) → read ps ≡ r → r ≡ Err InvalidSubtag
      by (Ok x) is = absurd (fault.1 x ((derived ps x).1 is))
      by (Err InvalidLanguage) is = absurd (false≢true (sym (language_told ps is) ∙ fault.0))
      by (Err InvalidSubtag) is = refl
      by (Err Memory) is = absurd (memory_never ps is)
  refused_read ps Memory fault = absurd fault

  read_refused : (ps : List (List ℕ)) (e : ParseError) → read ps ≡ Err e → IsRefused ps e
  read_refused ps InvalidLanguage is = language_told ps is
  read_refused ps InvalidSubtag is = (begins (is_language (slice_index_or ps 0 [])) refl, λ x spells. cc (sym is ∙ (derived ps x).0 spells))
    where
      begins : (b : Bool) → is_language (slice_index_or ps 0 []) ≡ b → b ≡ true
      begins true e = refl
      begins false e = absurd (cc (sym is ∙ language_refused ps e))
  read_refused ps Memory is = absurd (memory_never ps is)

  pub refusals_read : (ps : List (List ℕ)) (e : ParseError) → IsRefused ps e ↔ (read ps ≡ Err e)
  refusals_read ps e = (refused_read ps e, read_refused ps e)

  pub faults_read : (s : Syntax) (t : List ℕ) (e : ParseError) → IsFaultBy s t e ↔ (read_by s t ≡ Err e)
  faults_read Unicode t e = refusals_read (pieces t) e
  faults_read Bcp47 t e = refusals_read (pieces (tag_text t)) e
  faults_read Posix t e = (
    (λ fault. posix_refused t e (refused_read (pieces (base_text t)) e fault)),
    (λ is. read_refused (pieces (base_text t)) e (posix_fault t e is)),
  )

  module _ (s : Syntax) (t : List ℕ) where
    only : (r : Result LocaleIdentifier ParseError) → (r ≡ Err Memory) ⊎ (r ≡ read_by s t) → (x : LocaleIdentifier) → SpellsBy s t x → IsOkUnlessMemory r x
    only r is x spells = elim is [ inl memory ↦ inr memory | inr same ↦ inl (same ∙ (spelled_read derived s t x).0 spells) ]

    pub from_reader : (r : Result LocaleIdentifier ParseError) → ReadsAs s t r → ReadsBy s t r
    from_reader r reads = record { found = reads.found; only = only r reads.read; language = reads.language; memory = reads.memory }

    is_read : (r : Result LocaleIdentifier ParseError) → ReadsBy s t r → (r ≡ Err Memory) ⊎ (r ≡ read_by s t)
    is_read (Ok x) reads = inr (sym ((spelled_read derived s t x).0 reads.found.1))
    is_read (Err InvalidLanguage) reads = inr (sym ((faults_read s t InvalidLanguage).0 (reads.language.0 refl)))
    is_read (Err InvalidSubtag) reads = by (read_by s t) refl
      where
        none : {x : LocaleIdentifier} → IsOkUnlessMemory (Err InvalidSubtag) x → ⊥
        none (inl is) = cc is
        none (inr is) = cc is

        refusal : (e : ParseError) → read_by s t ≡ Err e → ◌⊎◌ (◌≡◌ {A = Result LocaleIdentifier ParseError} (Err InvalidSubtag) (Err Memory)) (Err InvalidSubtag ≡ read_by s t)
        refusal InvalidLanguage is = absurd (cc (reads.language.1 ((faults_read s t InvalidLanguage).1 is)))
        refusal InvalidSubtag is = inr (sym is)
        refusal Memory is = absurd ((faults_read s t Memory).1 is)

        by : (r : Result LocaleIdentifier ParseError) → read_by s t ≡ r
            → ◌⊎◌ (◌≡◌ {A = Result LocaleIdentifier ParseError} (Err InvalidSubtag) (Err Memory)) (Err InvalidSubtag ≡ read_by s t)
        by (Ok x) is = absurd (none (reads.only x ((spelled_read derived s t x).1 is)))
        by (Err e) is = refusal e is
    is_read (Err Memory) reads = inl refl

    pub to_reader : (r : Result LocaleIdentifier ParseError) → ReadsBy s t r → ReadsAs s t r
    to_reader r reads = record { read = is_read r reads; found = reads.found; language = reads.language; memory = reads.memory }

  -- what a syntax refuses is at fault, memory aside
  pub refusal_fault : (s : Syntax) (t : List ℕ) (e : ParseError) → ReadsBy s t (Err e) → ¬ (e ≡ Memory) → IsFaultBy s t e
  refusal_fault s t e reads other = elim (to_reader s t (Err e) reads).read [
    | inl memory ↦ absurd (other (cc memory))
    | inr same ↦ (faults_read s t e).1 (sym same)
  ]

  -- what is at fault spells nothing
  pub fault_spells : (s : Syntax) (t : List ℕ) (e : ParseError) (x : LocaleIdentifier) → IsFaultBy s t e → ¬ (SpellsBy s t x)
  fault_spells s t e x fault spells = cc (sym ((faults_read s t e).0 fault) ∙ (spelled_read derived s t x).0 spells)
