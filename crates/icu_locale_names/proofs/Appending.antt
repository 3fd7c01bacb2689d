-- Text after text: pieces, and what grows.
use Rattle.std.proofs.Common.{◌≡◌, ◌∙◌, refl, ap, sym, ℕ, Bool, true, false, ◌||◌, List, [], ◌∷◌, ◌++◌, length, take, append_assoc, append-nil}
use Rattle.std.proofs.lemmas.List.{take_at}
use Rattle.icu_locale_names.specs.LanguageNames.{joined}
use Rattle.icu_locale_names.specs.Pieces.{Piece, plain, text_of, has_raw}
use Rattle.icu_locale_names.specs.declared.language.appending.Joined.{Joined}
use Rattle.icu_locale_names.specs.inner.Appended.{AddsPieces, IsGrown, Joins, behind, are_some}
use Rattle.icu_locale_names.specs.Walk.{behind_separator}
use Rattle.icu_locale_names.specs.laws.Pieces.{text_of-append}

pub or_assoc : (a b c : Bool) → ((a || b) || c) ≡ (a || (b || c))
or_assoc true b c = refl
or_assoc false b c = refl

pub has_raw-append : (ps qs : List Piece) → has_raw (ps ++ qs) ≡ (has_raw ps || has_raw qs)
has_raw-append [] qs = refl
has_raw-append (p ∷ ps) qs = ap (λ b. p.raw || b) (has_raw-append ps qs) ∙ sym (or_assoc p.raw (has_raw ps) (has_raw qs))

pub adds_none : (t : List ℕ) → AddsPieces [] t t false
adds_none t = record { text = sym (append-nil t); raw = refl }

pub adds_more : (ps qs : List Piece) (old middle new : List ℕ) (r s : Bool) → AddsPieces ps old middle r → AddsPieces qs middle new s
    → AddsPieces (ps ++ qs) old new (r || s)
adds_more ps qs old middle new r s a b = record {
  text = b.text ∙ ap (λ t. t ++ text_of qs) a.text ∙ append_assoc old (text_of ps) (text_of qs) ∙ ap (λ t. old ++ t) (sym (text_of-append ps qs));
  raw = (λ i. a.raw i || b.raw i) ∙ sym (has_raw-append ps qs);
}

pub grown_none : (t : List ℕ) → IsGrown t t
grown_none t = record { more = []; is = sym (append-nil t) }

pub grown_more : (old middle new : List ℕ) → IsGrown old middle → IsGrown middle new → IsGrown old new
grown_more old middle new a b = record { more = a.more ++ b.more; is = b.is ∙ ap (λ t. t ++ b.more) a.is ∙ append_assoc old a.more b.more }

pub grown_by : (old more new : List ℕ) → new ≡ old ++ more → IsGrown old new
grown_by old more new is = record { more = more; is = is }

pub take_grown : (old new : List ℕ) → IsGrown old new → take (length old) new ≡ old
take_grown old new g = ap (take (length old)) g.is ∙ take_at old g.more (length old) refl

-- ---- qualifiers after qualifiers

behind_separator-append : (sep : List ℕ) (ps qs : List Piece) → behind_separator sep (ps ++ qs) ≡ behind_separator sep ps ++ behind_separator sep qs
behind_separator-append sep [] qs = refl
behind_separator-append sep (p ∷ ps) qs = ap (λ t. plain sep ∷ p ∷ t) (behind_separator-append sep ps qs)

joined_cons : (sep : List ℕ) (p : Piece) (ps : List Piece) → joined sep (p ∷ ps) ≡ p ∷ behind_separator sep ps
joined_cons sep p [] = refl
joined_cons sep p (q ∷ ps) = ap (λ t. p ∷ plain sep ∷ t) (joined_cons sep q ps)

behind-append : (is_any : Bool) (sep : List ℕ) (ps qs : List Piece) → behind is_any sep (ps ++ qs) ≡ behind is_any sep ps
    ++ behind (is_any || are_some ps) sep qs
behind-append true sep ps qs = behind_separator-append sep ps qs
behind-append false sep [] qs = refl
behind-append false sep (p ∷ ps) qs = joined_cons sep p (ps ++ qs) ∙ ap (λ t. p ∷ t) (behind_separator-append sep ps qs)
    ∙ ap (λ t. t ++ behind_separator sep qs) (sym (joined_cons sep p ps))

are_some-append : (ps qs : List Piece) → are_some (ps ++ qs) ≡ (are_some ps || are_some qs)
are_some-append [] qs = refl
are_some-append (p ∷ ps) qs = refl

pub joins_none : (sep t : List ℕ) (j : Joined) → Joins sep [] t j t j
joins_none sep t j = none j.is_any j.is_raw
  where
    none : (any raw : Bool) → Joins sep [] t (record { is_any = any; is_raw = raw }) t (record { is_any = any; is_raw = raw })
    none true true = record { text = sym (append-nil t); raw = refl; any = refl }
    none true false = record { text = sym (append-nil t); raw = refl; any = refl }
    none false true = record { text = sym (append-nil t); raw = refl; any = refl }
    none false false = record { text = sym (append-nil t); raw = refl; any = refl }

pub joins_more : (sep : List ℕ) (ps qs : List Piece) (old : List ℕ) (i : Joined) (middle : List ℕ) (j : Joined) (new : List ℕ) (k : Joined)
    → Joins sep ps old i middle j → Joins sep qs middle j new k → Joins sep (ps ++ qs) old i new k
joins_more sep ps qs old i middle j new k a b =
    let first = behind i.is_any sep ps in
    let second = behind (i.is_any || are_some ps) sep qs in
    let next : behind j.is_any sep qs ≡ second = ap (λ any. behind any sep qs) a.any in
    let all : behind i.is_any sep (ps ++ qs) ≡ first ++ second = behind-append i.is_any sep ps qs in
    record {
      text = b.text ∙ (λ n. a.text n ++ text_of (next n)) ∙ append_assoc old (text_of first) (text_of second)
          ∙ ap (λ t. old ++ t) (sym (text_of-append first second)) ∙ ap (λ t. old ++ text_of t) (sym all);
      raw = b.raw ∙ (λ n. a.raw n || has_raw (next n)) ∙ or_assoc i.is_raw (has_raw first) (has_raw second)
          ∙ ap (λ r. i.is_raw || r) (sym (has_raw-append first second)) ∙ ap (λ t. i.is_raw || has_raw t) (sym all);
      any = b.any ∙ ap (λ any. any || are_some qs) a.any ∙ or_assoc i.is_any (are_some ps) (are_some qs)
          ∙ ap (λ some. i.is_any || some) (sym (are_some-append ps qs));
    }

pub grown_by_joins : (sep : List ℕ) (qs : List Piece) (old : List ℕ) (i : Joined) (new : List ℕ) (j : Joined) → Joins sep qs old i new j → IsGrown old new
grown_by_joins sep qs old i new j a = record { more = text_of (behind i.is_any sep qs); is = a.text }

-- qualifiers after a text that has none are joined
pub adds_joined : (sep : List ℕ) (qs : List Piece) (old new : List ℕ) (j : Joined)
    → Joins sep qs old (record { is_any = false; is_raw = false }) new j → AddsPieces (joined sep qs) old new j.is_raw
adds_joined sep qs old new j a = record { text = a.text; raw = a.raw }

pub or_none : (a : Bool) → (a || false) ≡ a
or_none true = refl
or_none false = refl
