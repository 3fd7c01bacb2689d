-- A line is read as one thing at most, and a line that is read is not refused.
use Rattle.std.proofs.Common.{◌≡◌, ◌↔◌, ◌⊎◌, ℕ, Bool, true, false, ◌&&◌, List, [], ◌∷◌, ◌++◌, map, Option, Some, None, Ok, Err, refl, ap, sym, subst, ◌∙◌}
use Rattle.std.proofs.Common.{inl, inr, arith}
use Rattle.std.specs.Prelude.{slice_index_or, nat_le}
use Rattle.std.specs.List.{AllZip, list_all}
use Rattle.std.specs.Char.{is_ascii_alphabetic, to_ascii_lowercase}
use Rattle.std.proofs.lemmas.Bool.{false≢true}
use Rattle.std.proofs.lemmas.Bool.Decides.{nat_tests}
use Rattle.std.proofs.lemmas.List.{length-map}
use Rattle.icu_locale_core.specs.Subtag.{has_length, is_language, lowercase}
use Rattle.icu_locale_core.specs.Identifier.{IsIdentifier, Spells, pieces, subtags, starts_with_language, parse_error_name}
use Rattle.icu_locale_core.specs.declared.langid.LanguageIdentifier.{LanguageIdentifier}
use Rattle.icu_locale_core.specs.declared.locale.Locale.{Locale}
use Rattle.icu_locale_core.specs.declared.parse_error.ParseError.{ParseError}
use Rattle.icu_locale_core.specs.declared.parse_error.ParseError.TheVariants.{InvalidLanguage, InvalidSubtag, Memory}
use Rattle.icu_locale_extensions.specs.Syntaxes.{SpellsBy, IsFaultBy}
use Rattle.icu_locale_extensions.specs.laws.Reader.{read_by}
use Rattle.icu_locale_extensions.specs.declared.identifier.LocaleIdentifier.{LocaleIdentifier}
use Rattle.icu_locale_extensions.specs.declared.syntax.Syntax.{Syntax}
use Rattle.icu_locale_extensions.specs.Built.{bare}
use Rattle.icu_locale_lines.specs.Lists.{listed, ids_of, SpellsAll, SpellsIn, SpellsWanted, SpellsWhole, IsFault, IsFaultIn, IsFirstFault}
use Rattle.icu_locale_lines.specs.Locales.{SpellsLocale, SpellsSome, IsLocaleFault, IsValueFault, identifier_text, value_text}
use Rattle.icu_locale_lines.specs.Readings.{IsReadAnswer}
use Rattle.icu_locale_lines.specs.Texts.{refused_line}
use Rattle.icu_locale_lines.specs.inner.Words.{first_of, others_of}
use Rattle.icu_locale_lines.proofs.ListReading.{wanted_spelled}

-- two answers are the same
pub record SameAnswer (one two : List ℕ) (a b : Bool) : Type 0 where
  pub text : one ≡ two
  pub accepted : a ≡ b

-- they are where both are the same text
pub same : {one two s t : List ℕ} {a b c : Bool} → one ≡ s → two ≡ t → s ≡ t → a ≡ c → b ≡ c → SameAnswer one two a b
same is_s is_t e is_c is_c' = record { text = is_s ∙ e ∙ sym is_t; accepted = is_c ∙ sym is_c' }

-- a text is read as one thing at most, or refused for one reason, and not both
pub record ReadsOnce {A : Type 0} (Reads : List ℕ → A → Type 0) (Faults : List ℕ → ParseError → Type 0) : Type 0 where
  pub one : (t : List ℕ) (x y : A) → Reads t x → Reads t y → x ≡ y
  pub apart : (t : List ℕ) (x : A) (e : ParseError) → Reads t x → Faults t e → ⊥
  pub fault : (t : List ℕ) (e f : ParseError) → Faults t e → Faults t f → e ≡ f

module _ {A : Type 0} {Reads : List ℕ → A → Type 0} {Faults : List ℕ → ParseError → Type 0} (once : ReadsOnce Reads Faults) where
  -- the answer to a line is one where its line is
  pub read_one : (one two : List ℕ) (a b : Bool) (IsLine : A → List ℕ → Bool → Type 0)
      → ((x : A) → IsLine x one a → IsLine x two b → SameAnswer one two a b) → (line : List ℕ)
      → IsReadAnswer Reads Faults IsLine line one a → IsReadAnswer Reads Faults IsLine line two b → SameAnswer one two a b
  read_one one two a b IsLine line_one line (inl h) (inl k) =
      line_one k.0 (subst (λ x. IsLine x one a) (once.one line h.0 k.0 h.1 k.1) h.2) k.2
  read_one one two a b IsLine line_one line (inl h) (inr k) = absurd (once.apart line h.0 k.0 h.1 k.1)
  read_one one two a b IsLine line_one line (inr h) (inl k) = absurd (once.apart line k.0 h.0 k.1 h.1)
  read_one one two a b IsLine line_one line (inr h) (inr k) =
      same h.2 k.2 (ap (λ e. refused_line (parse_error_name e)) (once.fault line h.0 k.0 h.1 k.1)) h.3 k.3

  -- where a line is read as x, its answer is the line of x
  pub read_as : (IsLine : A → List ℕ → Bool → Type 0) (line text : List ℕ) (a : Bool) (x : A) → Reads line x
      → IsReadAnswer Reads Faults IsLine line text a ↔ IsLine x text a
  read_as IsLine line text a x reads = (forth, λ is. inl (x, reads, is))
    where
      forth : IsReadAnswer Reads Faults IsLine line text a → IsLine x text a
      forth (inl h) = subst (λ y. IsLine y text a) (once.one line h.0 x h.1 reads) h.2
      forth (inr h) = absurd (once.apart line x h.0 reads h.1)

  -- what texts are read as is one list
  all_one : (texts : List (List ℕ)) (xs ys : List A) → AllZip Reads texts xs → AllZip Reads texts ys → xs ≡ ys
  all_one [] [] [] p q = refl
  all_one [] [] (y ∷ ys) p q = absurd q
  all_one [] (x ∷ xs) ys p q = absurd p
  all_one (t ∷ ts) [] ys p q = absurd p
  all_one (t ∷ ts) (x ∷ xs) [] p q = absurd q
  all_one (t ∷ ts) (x ∷ xs) (y ∷ ys) p q =
      let e = once.one t x y p.0 q.0 in
      let others = all_one ts xs ys p.1 q.1 in
      λ i. e i ∷ others i

  -- texts that are all read have no fault
  no_fault : (earlier : List (List ℕ)) (text : List ℕ) (later : List (List ℕ)) (e : ParseError) (xs : List A)
      → AllZip Reads (earlier ++ text ∷ later) xs → Faults text e → ⊥
  no_fault [] text later e [] p why = p
  no_fault [] text later e (x ∷ xs) p why = once.apart text x e p.0 why
  no_fault (t ∷ ts) text later e [] p why = p
  no_fault (t ∷ ts) text later e (x ∷ xs) p why = no_fault ts text later e xs p.1 why

  -- the first fault is one
  fault_one : (ps : List (List ℕ)) (t : List ℕ) (bs cs : List (List ℕ)) (u : List ℕ) (ds : List (List ℕ))
      (e f : ParseError) (xs ys : List A) → ps ++ t ∷ bs ≡ cs ++ u ∷ ds
      → AllZip Reads ps xs → AllZip Reads cs ys → Faults t e → Faults u f → e ≡ f
  fault_one [] t bs [] u ds e f xs ys is p q r k = once.fault u e f (subst (λ w. Faults w e) (ap first_of is) r) k
  fault_one [] t bs (c ∷ cs) u ds e f xs [] is p q r k = absurd q
  fault_one [] t bs (c ∷ cs) u ds e f xs (y ∷ ys) is p q r k = absurd (once.apart c y e q.0 (subst (λ w. Faults w e) (ap first_of is) r))
  fault_one (g ∷ ps) t bs [] u ds e f [] ys is p q r k = absurd p
  fault_one (g ∷ ps) t bs [] u ds e f (x ∷ xs) ys is p q r k =
      absurd (once.apart g x f p.0 (subst (λ w. Faults w f) (sym (ap first_of is)) k))
  fault_one (g ∷ ps) t bs (c ∷ cs) u ds e f [] ys is p q r k = absurd p
  fault_one (g ∷ ps) t bs (c ∷ cs) u ds e f (x ∷ xs) [] is p q r k = absurd q
  fault_one (g ∷ ps) t bs (c ∷ cs) u ds e f (x ∷ xs) (y ∷ ys) is p q r k = fault_one ps t bs cs u ds e f xs ys (ap others_of is) p.1 q.1 r k

-- ---- two ways of reading

module _ {A B : Type 0} {Reads : List ℕ → A → Type 0} {Faults : List ℕ → ParseError → Type 0} {Others : List ℕ → B → Type 0}
    {OtherFaults : List ℕ → ParseError → Type 0} (once : ReadsOnce Reads Faults) (other : ReadsOnce Others OtherFaults)
    (IsLine : A → List ℕ → Bool → Type 0) (IsOther : B → List ℕ → Bool → Type 0) (line text : List ℕ) (a : Bool) where
  -- a line that is read in both ways is answered alike where what it is read as is
  pub read_alike : (x : A) (y : B) → Reads line x → Others line y → IsLine x text a ↔ IsOther y text a
      → IsReadAnswer Reads Faults IsLine line text a ↔ IsReadAnswer Others OtherFaults IsOther line text a
  read_alike x y reads others both =
      let first = read_as once IsLine line text a x reads in
      let second = read_as other IsOther line text a y others in
      (λ h. second.1 (both.0 (first.0 h)), λ h. first.1 (both.1 (second.0 h)))

  -- a line that is refused in both ways for the same reason, or answered alike where it is read in one, is answered alike
  pub answered_alike : ((x : A) → Reads line x → IsReadAnswer Reads Faults IsLine line text a ↔ IsReadAnswer Others OtherFaults IsOther line text a)
      → ((y : B) → Others line y → IsReadAnswer Reads Faults IsLine line text a ↔ IsReadAnswer Others OtherFaults IsOther line text a)
      → ((e : ParseError) → Faults line e ↔ OtherFaults line e)
      → IsReadAnswer Reads Faults IsLine line text a ↔ IsReadAnswer Others OtherFaults IsOther line text a
  answered_alike reads others faults = (forth, back)
    where
      forth : IsReadAnswer Reads Faults IsLine line text a → IsReadAnswer Others OtherFaults IsOther line text a
      forth (inl h) = (reads h.0 h.1).0 (inl h)
      forth (inr h) = inr (h.0, (faults h.0).0 h.1, h.2, h.3)

      back : IsReadAnswer Others OtherFaults IsOther line text a → IsReadAnswer Reads Faults IsLine line text a
      back (inl h) = (others h.0 h.1).1 (inl h)
      back (inr h) = inr (h.0, (faults h.0).1 h.1, h.2, h.3)

-- ---- a text that spells an identifier begins with a language

-- whether a text is a language does not depend on its case
alphabetic_lower : (c : ℕ) → is_ascii_alphabetic (to_ascii_lowercase c) ≡ is_ascii_alphabetic c
alphabetic_lower c = grind (arith, nat_tests)

all_alphabetic_lower : (t : List ℕ) → list_all is_ascii_alphabetic (lowercase t) ≡ list_all is_ascii_alphabetic t
all_alphabetic_lower [] = refl
all_alphabetic_lower (c ∷ t) = λ i. alphabetic_lower c i && all_alphabetic_lower t i

is_language_lower : (t : List ℕ) → is_language (lowercase t) ≡ is_language t
is_language_lower t = λ i. has_long i && all_alphabetic_lower t i
  where
    has_long : has_length 2 3 (lowercase t) ≡ has_length 2 3 t
    has_long = λ i. nat_le 2 (length-map t to_ascii_lowercase i) && nat_le (length-map t to_ascii_lowercase i) 3

abbrev is_empty : List (List ℕ) → Type 0
is_empty [] = Unit {0}
is_empty (p ∷ ps) = ⊥

begins : (t : List ℕ) (x : LanguageIdentifier) → IsIdentifier x → Spells t x → starts_with_language t ≡ true
begins t x is_x spells = by (pieces t) spells.same
  where
    by : (ps : List (List ℕ)) → map lowercase ps ≡ map lowercase (subtags x spells.order) → is_language (slice_index_or ps 0 []) ≡ true
    by [] is = absurd (subst is_empty is tt)
    by (p ∷ ps) is =
        sym (is_language_lower p) ∙ ap is_language (ap first_of is ∙ is_x.language.written) ∙ is_x.language.member

-- ---- each way of reading

-- why a text is refused, by whether it begins with a language
abbrev reason : Bool → ParseError
reason true = InvalidSubtag
reason false = InvalidLanguage

reason_alone : (t : List ℕ) (e : ParseError) → IsFault t e → reason (starts_with_language t) ≡ e
reason_alone t InvalidLanguage fault = ap reason fault
reason_alone t InvalidSubtag fault = ap reason fault.0
reason_alone t Memory fault = absurd fault

-- a text that spells an identifier is not refused
not_refused : (t : List ℕ) (x : LanguageIdentifier) (e : ParseError) → SpellsIn None t x → IsFault t e → ⊥
not_refused t x InvalidLanguage spells fault = false≢true (sym fault ∙ begins t x spells.0 spells.1)
not_refused t x InvalidSubtag spells fault = fault.1 x spells.0 spells.1
not_refused t x Memory spells fault = fault

-- the facts of spelling that are cited
pub record SpellingFacts : Type 0 where
  pub alone : (t : List ℕ) (x y : LanguageIdentifier) → IsIdentifier x → IsIdentifier y → Spells t x → Spells t y → x ≡ y
  pub read : (s : Syntax) (t : List ℕ) (x : LocaleIdentifier) → SpellsBy s t x ↔ (read_by s t ≡ Ok x)
  pub faults : (s : Syntax) (t : List ℕ) (e : ParseError) → IsFaultBy s t e ↔ (read_by s t ≡ Err e)

module _ (facts : SpellingFacts) where
  pub alone_once : ReadsOnce (SpellsIn None) IsFault
  alone_once = record {
    one = λ t x y p q. facts.alone t x y p.0 q.0 p.1 q.1;
    apart = not_refused;
    fault = λ t e f p q. sym (reason_alone t e p) ∙ reason_alone t f q;
  }

  pub whole_once : (s : Syntax) → ReadsOnce (SpellsWhole s) (IsFaultBy s)
  whole_once s = record {
    one = λ t x y p q. cc (sym ((facts.read s t x).0 p.1) ∙ (facts.read s t y).0 q.1);
    apart = λ t x e p fault. cc (sym ((facts.read s t x).0 p.1) ∙ (facts.faults s t e).0 fault);
    fault = λ t e f p q. cc (sym ((facts.faults s t e).0 p) ∙ (facts.faults s t f).0 q);
  }

  -- an identifier, alone or in a syntax
  once_in : (syntax : Option Syntax) → ReadsOnce (SpellsIn syntax) (IsFaultIn syntax)
  once_in None = alone_once
  once_in (Some s) = record {
    one = λ t x y p q. sym p.3 ∙ ap (λ w. w.locale.id) ((whole_once s).one t p.0 q.0 (p.1, p.2) (q.1, q.2)) ∙ q.3;
    apart = λ t x e p fault. (whole_once s).apart t p.0 e (p.1, p.2) fault;
    fault = (whole_once s).fault;
  }

  -- a list of identifiers
  pub listed_once : (syntax : Option Syntax) → ReadsOnce (λ t xs. SpellsAll syntax (listed t) xs) (λ t e. IsFirstFault syntax (listed t) e)
  listed_once syntax = let once = once_in syntax in record {
    one = λ t xs ys p q. all_one once (listed t) xs ys p q;
    apart = λ t xs e p f. no_fault once f.earlier f.text f.later e xs (subst (λ ts. SpellsAll syntax ts xs) f.parted p) f.refused;
    fault = λ t e f p q. fault_one once p.earlier p.text p.later q.earlier q.text q.later e f p.identifiers q.identifiers
        (sym p.parted ∙ q.parted) p.spelled q.spelled p.refused q.refused;
  }

  -- what a reader wants, and a list of that
  wanted_one : (syntax : Option Syntax) → ReadsOnce (SpellsWanted syntax) (IsFaultIn syntax)
  wanted_one None = record {
    one = λ t x y p q. p.1 ∙ ap bare (alone_once.one t x.locale.id y.locale.id p.0 q.0) ∙ sym q.1;
    apart = λ t x e p fault. alone_once.apart t x.locale.id e p.0 fault;
    fault = alone_once.fault;
  }
  wanted_one (Some s) = record {
    one = (whole_once s).one;
    apart = (whole_once s).apart;
    fault = (whole_once s).fault;
  }

  pub wanted_once : (syntax : Option Syntax) → ReadsOnce (λ t xs. AllZip (SpellsWanted syntax) (listed t) xs) (λ t e. IsFirstFault syntax (listed t) e)
  wanted_once syntax = let once = wanted_one syntax in record {
    one = λ t xs ys p q. all_one once (listed t) xs ys p q;
    apart = λ t xs e p f. (listed_once syntax).apart t (ids_of xs) e (wanted_spelled syntax (listed t) xs p) f;
    fault = (listed_once syntax).fault;
  }

  -- a locale
  locale_one : (t : List ℕ) (x y : Locale) → SpellsLocale t x → SpellsLocale t y → x ≡ y
  locale_one t x y p q =
      let ids = facts.alone (identifier_text t) x.id y.id p.known q.known p.id q.id in
      let keywords = p.keywords ∙ sym q.keywords in
      let lang = p.transform ∙ sym q.transform in
      λ i. record { id = ids i; extensions = record { unicode = record { keywords = keywords i }; transform = record { lang = lang i } } }

  locale_apart : (t : List ℕ) (x : Locale) (e : ParseError) → SpellsLocale t x → IsLocaleFault t e → ⊥
  locale_apart t x e p f = by f.fault
    where
      by : IsFault (identifier_text t) e ⊎ (SpellsSome (identifier_text t) × IsValueFault (value_text t) e) → ⊥
      by (inl r) = not_refused (identifier_text t) x.id e (p.known, p.id) r
      by (inr r) = false≢true (sym r.1.0 ∙ p.readable)

  locale_fault_one : (t : List ℕ) (e f : ParseError) → IsLocaleFault t e → IsLocaleFault t f → e ≡ f
  locale_fault_one t e f p q = by p.fault q.fault
    where
      Fault : ParseError → Type 0
      Fault e = IsFault (identifier_text t) e ⊎ (SpellsSome (identifier_text t) × IsValueFault (value_text t) e)

      by : Fault e → Fault f → e ≡ f
      by (inl r) (inl s) = alone_once.fault (identifier_text t) e f r s
      by (inl r) (inr s) = absurd (not_refused (identifier_text t) s.0.0 e (s.0.1, s.0.2) r)
      by (inr r) (inl s) = absurd (not_refused (identifier_text t) r.0.0 f (r.0.1, r.0.2) s)
      by (inr r) (inr s) = r.1.1 ∙ sym s.1.1

  pub locale_once : ReadsOnce SpellsLocale IsLocaleFault
  locale_once = record { one = locale_one; apart = locale_apart; fault = locale_fault_one }
