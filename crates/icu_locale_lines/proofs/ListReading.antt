-- How a line of identifiers is read, text by text.
use Rattle.std.proofs.Common.{◌≡◌, ◌⊎◌, ℕ, ◌<◌, Bool, true, false, ◌==◌, List, [], ◌∷◌, ◌++◌, length, get_or, take, drop, Option, Result, Ok, Err, IfErr, inl}
use Rattle.std.proofs.Common.{inr, refl, ap, sym, subst, ◌∙◌, arith, map, zero, suc, None, Some}
use Rattle.std.specs.Borrow.{Bor}
use Rattle.std.proofs.lemmas.Bool.{false≢true}
use Rattle.std.proofs.lemmas.List.{map-append}
use Rattle.std.specs.List.{AllZip, slice_split}
use Rattle.icu_locale_core.specs.Identifier.{ReadsIdentifier, pieces, starts_with_language}
use Rattle.icu_locale_core.specs.declared.langid.LanguageIdentifier.{LanguageIdentifier}
use Rattle.icu_locale_core.specs.declared.parse_error.ParseError.{ParseError}
use Rattle.icu_locale_core.specs.declared.parse_error.ParseError.TheVariants.{InvalidLanguage, InvalidSubtag, Memory}
use Rattle.icu_locale_extensions.specs.Grammar.{IsLocaleId}
use Rattle.icu_locale_extensions.specs.Syntaxes.{ReadsBy, SpellsBy, IsFaultBy, meant, modifier_text, starts_by, with_modifier}
use Rattle.icu_locale_extensions.specs.declared.identifier.LocaleIdentifier.{LocaleIdentifier}
use Rattle.icu_locale_extensions.specs.declared.syntax.Syntax.{Syntax}
use Rattle.icu_locale_extensions.specs.declared.syntax.Syntax.TheVariants.{Unicode, Bcp47, Posix}
use Rattle.icu_locale_lines.specs.Lists.{is_space, listed, ids_of, SpellsAll, SpellsIn, SpellsWanted, IsFault, IsFaultAt, IsFaultIn, IsFirstFault}

-- one more at the end of both lists
pub AllZip-push : {A B : Type 0} (P : A → B → Type 0) (xs : List A) (ys : List B) (x : A) (y : B) → AllZip P xs ys → P x y
    → AllZip P (xs ++ x ∷ []) (ys ++ y ∷ [])
AllZip-push P [] [] x y each one = (one, tt)
AllZip-push P [] (b ∷ ys) x y each one = absurd each
AllZip-push P (a ∷ xs) [] x y each one = absurd each
AllZip-push P (a ∷ xs) (b ∷ ys) x y each one = (each.0, AllZip-push P xs ys x y each.1 one)

-- one more text is read
pub SpellsAll-push : (syntax : Option Syntax) (texts : List (Bor (List ℕ))) (old new : List LanguageIdentifier) (text : Bor (List ℕ))
    (x : LanguageIdentifier) → SpellsAll syntax (map (λ t. t.now) texts) old → SpellsIn syntax text.now x → new ≡ old ++ x ∷ []
    → SpellsAll syntax (map (λ t. t.now) (texts ++ text ∷ [])) new
SpellsAll-push syntax texts old new text x each one pushed =
    subst (λ ts. SpellsAll syntax ts new) (sym (map-append (λ (t : Bor (List ℕ)). t.now) texts (text ∷ [])))
    (subst (SpellsAll syntax (map (λ t. t.now) texts ++ text.now ∷ [])) (sym pushed)
    (AllZip-push (SpellsIn syntax) (map (λ t. t.now) texts) old text.now x each one))

-- a line that is not empty is cut at each space
pub listed_some : (line : List ℕ) → false ≡ (length line == 0) → listed line ≡ slice_split is_space line
listed_some [] some = absurd (false≢true some)
listed_some (c ∷ line) some = refl

-- a list around one of its places
around : {A : Type 0} (xs : List A) (n : ℕ) (d : A) → n < length xs → xs ≡ take n xs ++ get_or xs n d ∷ drop (suc n) xs
around [] n d low = absurd (omega (arith, low))
around (x ∷ xs) zero d low = refl
around (x ∷ xs) (suc n) d low = ap (λ l. x ∷ l) (around xs n d (omega (arith, low)))

is_invalid_subtag : Result LanguageIdentifier ParseError → Type 0
is_invalid_subtag (Err InvalidSubtag) = Unit {0}
is_invalid_subtag r = ⊥

-- why reading refuses a text
pub refusal_from_reading : (t : List ℕ) (e : ParseError) → ReadsIdentifier t (Err e) → (e ≡ Memory) ⊎ IsFault t e
unfolding is_invalid_subtag
refusal_from_reading t InvalidLanguage reads = inr (reads.language.0 refl)
refusal_from_reading t InvalidSubtag reads = inr (by (starts_with_language t) refl, reads.subtag refl)
  where
    by : (b : Bool) → starts_with_language t ≡ b → starts_with_language t ≡ true
    by true is = is
    by false is = absurd (subst is_invalid_subtag (reads.language.1 is) tt)
refusal_from_reading t Memory reads = inl refl

-- the same of a locale identifier
pub fault_from_reading : (syntax : Syntax) (t : List ℕ) (e : ParseError) → ReadsBy syntax t (Err e) → (e ≡ Memory) ⊎ IsFaultBy syntax t e
fault_from_reading syntax t InvalidLanguage reads = inr (reads.language.0 refl)
fault_from_reading syntax t InvalidSubtag reads = inr (by (starts_by syntax t) refl, λ x derived. none (spelled syntax x derived))
  where
    by : (b : Bool) → starts_by syntax t ≡ b → starts_by syntax t ≡ true
    by true is = is
    by false is = absurd (cc (reads.language.1 is))

    spelled : (s : Syntax) (x : LocaleIdentifier) → IsLocaleId (pieces (meant s t)) x → (y : LocaleIdentifier) × SpellsBy s t y
    spelled Unicode x derived = (x, derived)
    spelled Bcp47 x derived = (x, derived)
    spelled Posix x derived = (with_modifier (modifier_text t) x, record { base = x; spells = derived; changed = refl })

    none : (y : LocaleIdentifier) × SpellsBy syntax t y → ⊥
    none (y, spells) = elim (reads.only y spells) [ inl read ↦ cc read | inr memory ↦ cc memory ]
fault_from_reading syntax t Memory reads = inl refl

-- the same of what reading gives
pub if_fault_from_reading : (syntax : Syntax) (t : List ℕ) (r : Result LocaleIdentifier ParseError) → ReadsBy syntax t r
    → IfErr r (λ e. (e ≡ Memory) ⊎ IsFaultBy syntax t e)
if_fault_from_reading syntax t (Ok x) reads = tt
if_fault_from_reading syntax t (Err e) reads = fault_from_reading syntax t e reads

-- as many identifiers as texts
spelled_length : (syntax : Option Syntax) (texts : List (List ℕ)) (xs : List LanguageIdentifier) → SpellsAll syntax texts xs → length texts ≡ length xs
spelled_length syntax [] [] each = refl
spelled_length syntax [] (x ∷ xs) each = absurd each
spelled_length syntax (t ∷ ts) [] each = absurd each
spelled_length syntax (t ∷ ts) (x ∷ xs) each = ap suc (spelled_length syntax ts xs each.1)

-- the texts before the one in hand were read, and that one is refused
pub fault_here : (syntax : Option Syntax) (texts : List (List ℕ)) (n : ℕ) (identifiers : List LanguageIdentifier)
    → SpellsAll syntax (take n texts) identifiers → n < length texts → (t : List ℕ) → t ≡ get_or texts n t → (e : ParseError) → (e ≡ Memory)
    ⊎ IsFaultIn syntax t e
    → (e ≡ Memory) ⊎ IsFaultAt syntax texts (length identifiers) e
fault_here syntax texts n identifiers spelled low t here e (inl memory) = inl memory
fault_here syntax texts n identifiers spelled low t here e (inr refusal) = inr (
  record {
    earlier = take n texts;
    text = t;
    later = drop (suc n) texts;
    parted = around texts n t low ∙ ap (λ x. take n texts ++ x ∷ drop (suc n) texts) (sym here);
    identifiers = identifiers;
    spelled = spelled;
    refused = refusal;
  },
  spelled_length syntax (take n texts) identifiers spelled,
)

pub refused_here : (syntax : Option Syntax) (texts : List (List ℕ)) (n : ℕ) (identifiers : List LanguageIdentifier)
    → SpellsAll syntax (take n texts) identifiers → n < length texts → (t : List ℕ) → t ≡ get_or texts n t → (e : ParseError) → (e ≡ Memory)
    ⊎ IsFaultIn syntax t e
    → (e ≡ Memory) ⊎ IsFirstFault syntax texts e
refused_here syntax texts n identifiers spelled low t here e why =
    elim (fault_here syntax texts n identifiers spelled low t here e why) [ inl memory ↦ inl memory | inr at ↦ inr at.0 ]

-- ---- the locale identifiers of texts

-- one more text is read
pub SpellsWanted-push : (syntax : Option Syntax) (texts : List (Bor (List ℕ))) (old new : List LocaleIdentifier) (text : Bor (List ℕ))
    (x : LocaleIdentifier) → AllZip (SpellsWanted syntax) (map (λ t. t.now) texts) old → SpellsWanted syntax text.now x → new ≡ old ++ x ∷ []
    → AllZip (SpellsWanted syntax) (map (λ t. t.now) (texts ++ text ∷ [])) new
SpellsWanted-push syntax texts old new text x each one pushed =
    subst (λ ts. AllZip (SpellsWanted syntax) ts new) (sym (map-append (λ (t : Bor (List ℕ)). t.now) texts (text ∷ [])))
    (subst (AllZip (SpellsWanted syntax) (map (λ t. t.now) texts ++ text.now ∷ [])) (sym pushed)
    (AllZip-push (SpellsWanted syntax) (map (λ t. t.now) texts) old text.now x each one))

-- a text that spells what is wanted spells its identifier
wanted_in : (syntax : Option Syntax) (t : List ℕ) (w : LocaleIdentifier) → SpellsWanted syntax t w → SpellsIn syntax t w.locale.id
wanted_in None t w is = is.0
wanted_in (Some s) t w is = (w, is.0, is.1, refl)

pub wanted_spelled : (syntax : Option Syntax) (texts : List (List ℕ)) (wanted : List LocaleIdentifier) → AllZip (SpellsWanted syntax) texts wanted
    → SpellsAll syntax texts (ids_of wanted)
wanted_spelled syntax [] [] each = tt
wanted_spelled syntax [] (x ∷ xs) each = absurd each
wanted_spelled syntax (t ∷ ts) [] each = absurd each
wanted_spelled syntax (t ∷ ts) (x ∷ xs) each = (wanted_in syntax t x each.0, wanted_spelled syntax ts xs each.1)
