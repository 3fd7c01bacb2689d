-- What one word names.
use Rattle.std.proofs.Common.{◌≡◌, ℕ, ◌<◌, ◌^◌, ◌==◌, Bool, true, false, List, [], ◌∷◌, map, Option, Some, None, IfSome, length, Result, Ok, Err, inl, inr, IsTrue, refl, ap, sym, subst, ◌∙◌, arith}
use Rattle.std.specs.Bool.{Decides}
use Rattle.std.specs.Result.{OkIff, result_ok}
use Rattle.std.specs.Str.{all_ascii_digits, bytes_eq}
use Rattle.std.specs.Str.Parse.{AllDigits, IsNumeral, digits_value}
use Rattle.std.proofs.lemmas.Str.Parse.{numerals_by_value, tells_all_ascii_digits}
use Rattle.std.proofs.lemmas.Bool.{false≢true}
use Rattle.std.proofs.lemmas.Bool.Decides.{nat_tests, Decides-and, Decides-ltb}
use Rattle.std.proofs.lemmas.Slice.Eq.{bytes_eq-Decides}
use Rattle.icu_locale_core.specs.Identifier.{pieces, IsIdentifier, Spells, ReadsIdentifier, has_variant}
use Rattle.icu_locale_core.specs.Readings.{read_pieces}
use Rattle.icu_locale_core.specs.Subtag.{lowercase}
use Rattle.icu_locale_core.specs.TextSet.{TextSet, empty, from_list, len, rising}
use Rattle.icu_locale_core.specs.laws.TextSets.{from_list-rising, length-rising_empty}
use Rattle.icu_locale_core.specs.declared.langid.LanguageIdentifier.{LanguageIdentifier}
use Rattle.icu_locale_core.specs.declared.parse_error.ParseError.{ParseError}
use Rattle.icu_locale_names.specs.LanguageChains.{chain_word}
use Rattle.icu_locale_names.specs.declared.name_chain.NameChain.{NameChain}
use Rattle.icu_locale_lines.specs.laws.Grammar.{chain_found}
use Rattle.icu_locale_lines.specs.CommandWords.{named, chains, chain_at, is_number, number_of, preferences_of, preferences_at}

-- a word that is that of nothing names nothing
module _ {X : Type 0} (word_of : X → List ℕ) where
  pub named_none : (xs : List X) (word : List ℕ) → ((x : X) → word ≡ word_of x → ⊥) → named word_of xs word ≡ None
  named_none [] word none = refl
  named_none (x ∷ xs) word none = by (named_none xs word none) (bytes_eq word (word_of x)) refl
    where
      by : named word_of xs word ≡ None → (b : Bool) → bytes_eq word (word_of x) ≡ b → named word_of (x ∷ xs) word ≡ None
      by rest true is = absurd (none x ((bytes_eq-Decides word (word_of x)).0 is))
      by rest false is = rw is rest

pub chain_named : (word : List ℕ) (r : Option NameChain) → IfSome r (λ c. word ≡ chain_word c)
    → ((c : NameChain) → word ≡ chain_word c → r ≡ Some c) → r ≡ chain_at word
chain_named word (Some c) is only = sym (ap chain_at is ∙ chain_found c)
chain_named word None is only = sym (named_none chain_word chains word (λ c same. let found = only c same in absurd (cc)))

-- ---- a number

number_told : (bits : ℕ) (ds : List ℕ) → Decides (is_number bits ds) ((0 < length ds) × (AllDigits 10 ds × (digits_value 10 ds < 2 ^ bits)))
number_told bits ds = Decides-and _ _ (Decides-ltb 0 (length ds)) (Decides-and _ _ (digits ds) (Decides-ltb (digits_value 10 ds) (2 ^ bits)))
  where
    digits : (ds : List ℕ) → Decides (all_ascii_digits ds) (AllDigits 10 ds)
    digits ds = let own = numerals_by_value _ tells_all_ascii_digits in (own.to ds, own.from ds)

pub number_parsed : {E : Type 0} (bits : ℕ) (ds : List ℕ) (r : Result ℕ E)
    → OkIff r (IsNumeral 10 ds × (digits_value 10 ds < 2 ^ bits)) (digits_value 10 ds) → result_ok r ≡ number_of bits ds
number_parsed bits ds (Ok n) h = ap Some h.1 ∙ sym (told ((number_told bits ds).1 (h.0.0.0, (h.0.0.1, h.0.1))))
  where
    told : is_number bits ds ≡ true → number_of bits ds ≡ Some (digits_value 10 ds)
    told is = rw is refl
number_parsed bits ds (Err e) none = by (is_number bits ds) refl
  where
    by : (b : Bool) → is_number bits ds ≡ b → None ≡ number_of bits ds
    by true is = let told = (number_told bits ds).0 is in absurd (none ((told.0, told.1.0), told.1.1))
    by false is = rw is refl

-- ---- preferences

no_variants : (s : TextSet) → s ≡ empty → (len s == 0) ≡ true
no_variants s is = let none : len s ≡ 0 = ap len is ∙ length-rising_empty in grind (arith, nat_tests)

without_any : (s : TextSet) → (len s == 0) ≡ true → s ≡ empty
without_any s none = sym (from_list-rising s) ∙ by (rising s) (grind (arith, nat_tests))
  where
    by : (ts : List (List ℕ)) → length ts ≡ 0 → from_list ts ≡ empty
    by [] none = refl
    by (t ∷ ts) none = absurd (omega (arith, none))

-- reading tells them, whatever memory does
module _ (sound : (ps : List (List ℕ)) (x : LanguageIdentifier) → read_pieces ps ≡ Ok x
    → IsIdentifier x × ((t : List ℕ) × ((pieces t ≡ ps) × Spells t x)))
    (complete : (t : List ℕ) (x : LanguageIdentifier) → IsIdentifier x → Spells t x → read_pieces (pieces t) ≡ Ok x)
    (plain : (t : List ℕ) (x : LanguageIdentifier) → IsIdentifier x → Spells t x → x.variants ≡ empty → has_variant t ≡ false)
    (text : List ℕ) where
  never : (e : ParseError) → ReadsIdentifier text (Err e) → (x : LanguageIdentifier) → read_pieces (pieces text) ≡ Ok x
      → x.variants ≡ empty → ⊥
  never e read x is none =
      let found = sound (pieces text) x is in
      let there = found.1 in
      let spells : Spells text x = record {
        order = there.1.1.order;
        lists = there.1.1.lists;
        same = ap (map lowercase) (sym there.1.0) ∙ there.1.1.same;
      } in
      elim (read.only x found.0 spells) [
        | inl ok ↦ absurd (cc)
        | inr memory ↦ false≢true (subst IsTrue (plain text x found.0 spells none) (read.memory memory))
      ]

  refused : (e : ParseError) → ReadsIdentifier text (Err e) → (r : Result LanguageIdentifier ParseError)
      → read_pieces (pieces text) ≡ r → preferences_of r ≡ None
  refused e read (Err f) is = refl
  refused e read (Ok x) is = by (len x.variants == 0) refl
    where
      by : (b : Bool) → (len x.variants == 0) ≡ b → preferences_of (Ok x) ≡ None
      by true none = absurd (never e read x is (without_any x.variants none))
      by false some = rw some refl

  pub preferences_read : (r : Result LanguageIdentifier ParseError) → ReadsIdentifier text r → preferences_of r ≡ preferences_at text
  preferences_read (Ok x) read = sym (ap preferences_of (complete text x read.found.0 read.found.1))
  preferences_read (Err e) read = sym (refused e read (read_pieces (pieces text)) refl)

pub with_none : (x : LanguageIdentifier) → x.variants ≡ empty → preferences_of (Ok x)
    ≡ Some (record { locale = record { language = x.language; script = x.script; region = x.region } })
with_none x none = rw (no_variants x.variants none) refl

pub with_some : (x : LanguageIdentifier) → (x.variants ≡ empty → ⊥) → preferences_of (Ok x) ≡ None
with_some x some = by (len x.variants == 0) refl
  where
    by : (b : Bool) → (len x.variants == 0) ≡ b → preferences_of (Ok x) ≡ None
    by true is = absurd (some (without_any x.variants is))
    by false is = rw is refl
