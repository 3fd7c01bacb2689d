-- Why a text is refused, and texts without singletons.
use Rattle.std.proofs.Common.{◌≡◌, ℕ, Bool, true, false, ◌||◌, List, [], ◌∷◌, ◌++◌, Option, None, Some, Result, Ok, Err, if◌then◌else◌, slice_index_or, IfErr, refl, ap, sym, subst, ◌∙◌}
use Rattle.std.specs.List.{list_any}
use Rattle.std.proofs.lemmas.Bool.{false≢true}
use Rattle.icu_locale_core.specs.Readings.{read_variants, with_variants, read_pieces, read_after, read_front, after_head, after_front}
use Rattle.icu_locale_core.specs.Subtag.{is_language, is_script, is_region, is_variant, lowercase, titlecase, uppercase}
use Rattle.icu_locale_core.specs.declared.langid.LanguageIdentifier.{LanguageIdentifier}
use Rattle.icu_locale_core.specs.declared.parse_error.ParseError.{ParseError}
use Rattle.icu_locale_core.specs.declared.parse_error.ParseError.TheVariants.{InvalidLanguage, InvalidSubtag, Memory}
use Rattle.icu_locale_core.specs.Cuts.{front, from, other_than, optional_subtag, after_optional_subtag}
use Rattle.icu_locale_extensions.specs.Extensions.{is_singleton}
use Rattle.icu_locale_extensions.specs.Built.{bare, as_locale}
use Rattle.icu_locale_extensions.specs.declared.identifier.LocaleIdentifier.{LocaleIdentifier}
use Rattle.icu_locale_extensions.specs.laws.Reader.{Part, belongs, begins, added, closed, opened, and_then, with_part, with_read, read, read_on}
use Rattle.icu_locale_extensions.specs.laws.Reader.Part.{whole, attributes, keywords, keyword, language, fields, field, other, private_use, nothing}
use Rattle.icu_locale_extensions.proofs.Languages.{begins_at_mark, singletons_end, front_parts, front_err, front_ok, marked_none}
use Rattle.icu_locale_extensions.proofs.Languages as languages
use Rattle.icu_locale_extensions.proofs.Taking.{end_front}

-- what follows an identifier is refused for a piece alone
abbrev Other : Result LocaleIdentifier ParseError → Type 0
Other r = IfErr r (λ e. e ≡ InvalidSubtag)

read_other : (x : LocaleIdentifier) (r : Result LanguageIdentifier ParseError) → Other (with_read x r)
read_other x (Ok l) = tt
read_other x (Err f) = refl

added_other : (part : Part) (ps : List (List ℕ)) (x : LocaleIdentifier) → Other (added part ps x)
added_other whole ps x = tt
added_other attributes ps x = tt
added_other keywords ps x = tt
added_other (keyword k) ps x = tt
added_other language [] x = tt
added_other language (p ∷ ps) x = read_other x (read_pieces (p ∷ ps))
added_other fields ps x = tt
added_other (field k) ps x = tt
added_other (other s) ps x = tt
added_other private_use ps x = tt
added_other nothing ps x = tt

behind_other : (ps : List (List ℕ)) (part : Part) (read : List (List ℕ)) (x : LocaleIdentifier) → Other (read_on part read x ps)
behind_other [] part read x = added_other part read x
behind_other (p ∷ ps) part read x = by (behind_other ps) (belongs part p) (added part read x) (added_other part read x)
  where
    begun : ((part : Part) (read : List (List ℕ)) (x : LocaleIdentifier) → Other (read_on part read x ps)) → (b : Bool) (part : Part) (y : LocaleIdentifier)
        → Other (if b then read_on part [] y ps else Err InvalidSubtag)
    begun ih true part y = ih part [] y
    begun ih false part y = refl

    on : ((part : Part) (read : List (List ℕ)) (x : LocaleIdentifier) → Other (read_on part read x ps)) → (o : Option Part) (y : LocaleIdentifier)
        → Other (with_part o (λ part. if begins part ps then read_on part [] y ps else Err InvalidSubtag))
    on ih None y = refl
    on ih (Some part) y = begun ih (begins part ps) part y

    by : ((part : Part) (read : List (List ℕ)) (x : LocaleIdentifier) → Other (read_on part read x ps)) → (b : Bool) (r : Result LocaleIdentifier ParseError) → Other r
        → Other (if b then read_on part (read ++ p ∷ []) x ps
        else and_then r (λ y. with_part (opened (closed part) y p) (λ part. if begins part ps then read_on part [] y ps else Err InvalidSubtag)))
    by ih true r o = ih part (read ++ p ∷ []) x
    by ih false (Ok y) o = on ih (opened (closed part) y p) y
    by ih false (Err f) o = o

behind_fault : (ps : List (List ℕ)) (y : LocaleIdentifier) (e : ParseError) → read_on whole [] y ps ≡ Err e → e ≡ InvalidSubtag
behind_fault ps y e is = subst (λ r. Other r) is (behind_other ps whole [] y)

variants_fault : (l : List ℕ) (s r : Option (List ℕ)) (vs : List (List ℕ)) → with_variants l s r (read_variants vs) ≡ Err InvalidLanguage → ⊥
variants_fault l s r vs is = let same : InvalidLanguage ≡ InvalidSubtag = languages.variants_fault l s r vs InvalidLanguage is in cc same

front_fault : (ps : List (List ℕ)) → read_front ps ≡ Err InvalidLanguage → is_language (slice_index_or ps 0 []) ≡ false
front_fault [] is = refl
front_fault (p ∷ ps) is = by (is_language p) is
  where
    by : (l : Bool) → (if l then read_after (lowercase p) ps else Err InvalidLanguage) ≡ Err InvalidLanguage → l ≡ false
    by true e = absurd (variants_fault (lowercase p) (optional_subtag is_script titlecase ps) (optional_subtag is_region uppercase (after_optional_subtag is_script ps))
        (front (other_than is_variant) (after_head ps)) e)
    by false e = refl

pub language_told : (ps : List (List ℕ)) → read ps ≡ Err InvalidLanguage → is_language (slice_index_or ps 0 []) ≡ false
language_told ps is = by (read_front ps) refl is
  where
    by : (r : Result LanguageIdentifier ParseError) → read_front ps ≡ r → and_then r (λ id. read_on whole [] (bare id) (after_front ps)) ≡ Err InvalidLanguage
        → is_language (slice_index_or ps 0 []) ≡ false
    by (Ok l) e is = absurd (cc (behind_fault (after_front ps) (bare l) InvalidLanguage is))
    by (Err f) e is = let same : f ≡ InvalidLanguage = cc is in front_fault ps (e ∙ ap Err same)

pub language_refused : (ps : List (List ℕ)) → is_language (slice_index_or ps 0 []) ≡ false → read ps ≡ Err InvalidLanguage
language_refused [] none = refl
language_refused (p ∷ ps) none = ap (λ b. and_then (if b then read_after (lowercase p) ps else Err InvalidLanguage)
    (λ id. read_on whole [] (bare id) (after_front (p ∷ ps)))) none

-- nor for memory
front_never : (ps : List (List ℕ)) → read_front ps ≡ Err Memory → ⊥
front_never [] is = cc is
front_never (p ∷ ps) is = by (is_language p) is
  where
    by : (l : Bool) → (if l then read_after (lowercase p) ps else Err InvalidLanguage) ≡ Err Memory → ⊥
    by true e = let same : Memory ≡ InvalidSubtag = languages.variants_fault (lowercase p) (optional_subtag is_script titlecase ps)
        (optional_subtag is_region uppercase (after_optional_subtag is_script ps)) (front (other_than is_variant) (after_head ps)) Memory e in cc same
    by false e = cc e

pub memory_never : (ps : List (List ℕ)) → read ps ≡ Err Memory → ⊥
memory_never ps is = by (read_front ps) refl is
  where
    by : (r : Result LanguageIdentifier ParseError) → read_front ps ≡ r → and_then r (λ id. read_on whole [] (bare id) (after_front ps)) ≡ Err Memory → ⊥
    by (Ok l) e is = let same : Memory ≡ InvalidSubtag = behind_fault (after_front ps) (bare l) Memory is in cc same
    by (Err f) e is = let same : f ≡ Memory = cc is in front_never ps (e ∙ ap Err same)

-- ---- without singletons

plain_front : (ps : List (List ℕ)) → list_any is_singleton ps ≡ false → (front is_singleton ps ≡ ps) × (from is_singleton ps ≡ [])
plain_front [] none = (refl, refl)
plain_front (p ∷ ps) none = by (is_singleton p) refl none (plain_front ps)
  where
    by : (b : Bool) → is_singleton p ≡ b → (b || list_any is_singleton ps) ≡ false
        → (list_any is_singleton ps ≡ false → (front is_singleton ps ≡ ps) × (from is_singleton ps ≡ []))
        → (front is_singleton (p ∷ ps) ≡ p ∷ ps) × (from is_singleton (p ∷ ps) ≡ [])
    by true e none ih = absurd (false≢true (sym none))
    by false e none ih = let rest = ih none in (rw e (ap (λ qs. p ∷ qs) rest.0), rw e rest.1)

none_left : (ps : List (List ℕ)) → list_any is_singleton ps ≡ false → begins_at_mark is_singleton ps ≡ true → ps ≡ []
none_left [] none at = refl
none_left (p ∷ ps) none at = absurd (false≢true (sym none ∙ ap (λ b. b || list_any is_singleton ps) at))

none_behind : (ps qs : List (List ℕ)) → list_any is_singleton (ps ++ qs) ≡ false → list_any is_singleton qs ≡ false
none_behind [] qs none = none
none_behind (p ∷ ps) qs none = by (is_singleton p) (none_behind ps qs) none
  where
    by : (b : Bool) → (list_any is_singleton (ps ++ qs) ≡ false → list_any is_singleton qs ≡ false) → (b || list_any is_singleton (ps ++ qs)) ≡ false
        → list_any is_singleton qs ≡ false
    by true ih e = absurd (false≢true (sym e))
    by false ih e = ih e

not_begun : (y : LocaleIdentifier) (ps : List (List ℕ)) → begins_at_mark is_singleton ps ≡ false → read_on whole [] y ps ≡ Err InvalidSubtag
not_begun y [] at = absurd (false≢true (sym at))
not_begun y (p ∷ ps) at = ap (λ o. with_part o (λ part. if begins part ps then read_on part [] y ps else Err InvalidSubtag)) (marked_none y p at)

pub plain_read : (ps : List (List ℕ)) → list_any is_singleton ps ≡ false → read ps ≡ as_locale (read_pieces ps)
plain_read ps none = by (read_front ps) refl (begins_at_mark is_singleton (after_front ps)) refl
  where
    whole_front : front is_singleton ps ≡ ps
    whole_front = (plain_front ps none).0

    behind : list_any is_singleton (after_front ps) ≡ false
    behind = let e = end_front ps in none_behind e.own (after_front ps) (sym (ap (list_any is_singleton) e.parts) ∙ none)

    by : (r : Result LanguageIdentifier ParseError) → read_front ps ≡ r → (h : Bool) → begins_at_mark is_singleton (after_front ps) ≡ h
        → read ps ≡ as_locale (read_pieces ps)
    by (Err f) e h at =
        ap (λ r. and_then r (λ id. read_on whole [] (bare id) (after_front ps))) e
        ∙ ap as_locale (sym (front_err is_singleton singletons_end ps f e) ∙ ap read_pieces whole_front)
    by (Ok l) e true at =
        (λ i. and_then (e i) (λ id. read_on whole [] (bare id) (none_left (after_front ps) behind at i)))
        ∙ ap as_locale (sym (front_parts is_singleton singletons_end ps l at e).0 ∙ ap read_pieces whole_front)
    by (Ok l) e false at =
        ap (λ r. and_then r (λ id. read_on whole [] (bare id) (after_front ps))) e ∙ not_begun (bare l) (after_front ps) at
        ∙ ap as_locale (sym (front_ok is_singleton singletons_end ps l e at) ∙ ap read_pieces whole_front)
