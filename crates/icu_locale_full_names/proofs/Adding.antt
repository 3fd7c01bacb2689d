-- Pieces after a text that is being written.
use Rattle.std.proofs.Common.{◌≡◌, ◌∙◌, refl, ap, sym, subst, ℕ, ◌+◌, Bool, true, false, List, [], ◌∷◌, ◌++◌, length, length-append, append_assoc, append-nil, string_bytes}
use Rattle.icu_locale_names.specs.LanguageNames.{joined}
use Rattle.icu_locale_names.specs.Pieces.{Piece, plain, text_of, spans_from}
use Rattle.icu_locale_names.specs.Walk.{behind_separator as behind_each}
use Rattle.icu_locale_names.specs.laws.Pieces.{text_of-append, spans_from-append}
use Rattle.icu_locale_full_names.specs.Squares.{squared, square_piece}
use Rattle.icu_locale_full_names.specs.inner.Drafts.{Adds, pieces_behind}
use Rattle.icu_locale_full_names.specs.declared.draft.Draft.{Draft}

pub squared-append : (ps qs : List Piece) → squared (ps ++ qs) ≡ squared ps ++ squared qs
squared-append [] qs = refl
squared-append (p ∷ ps) qs = ap (λ t. square_piece p ∷ t) (squared-append ps qs)

pub adds_none : (d : Draft) → Adds [] d d
adds_none d = record { text = sym (append-nil (string_bytes d.text)); marks = sym (append-nil d.raw_spans.items) }

pub adds_more : (ps qs : List Piece) (old middle new : Draft) → Adds ps old middle → Adds qs middle new → Adds (ps ++ qs) old new
adds_more ps qs old middle new a b =
    let start = length (string_bytes old.text) in
    let begins : length (string_bytes middle.text) ≡ start + length (text_of ps) = ap length a.text ∙ length-append (string_bytes old.text) (text_of ps) in
    record {
      text = b.text ∙ ap (λ t. t ++ text_of qs) a.text ∙ append_assoc (string_bytes old.text) (text_of ps) (text_of qs)
          ∙ ap (λ t. string_bytes old.text ++ t) (sym (text_of-append ps qs));
      marks = b.marks ∙ (λ i. a.marks i ++ spans_from (begins i) qs)
          ∙ append_assoc old.raw_spans.items (spans_from start ps) (spans_from (start + length (text_of ps)) qs)
          ∙ ap (λ more. old.raw_spans.items ++ more) (sym (spans_from-append start ps qs));
    }

-- the same in square brackets
pub adds_square : (ps qs : List Piece) (old middle new : Draft) → Adds (squared ps) old middle → Adds (squared qs) middle new
    → Adds (squared (ps ++ qs)) old new
adds_square ps qs old middle new a b =
    subst (λ t. Adds t old new) (sym (squared-append ps qs)) (adds_more (squared ps) (squared qs) old middle new a b)

-- a walk: whoever adds what is left adds all
pub adds_left : (ps qs all : List Piece) (old first middle : Draft)
    → ((new : Draft) → Adds (squared (ps ++ qs)) first new → Adds (squared all) old new)
    → Adds (squared ps) first middle
    → (new : Draft) → Adds (squared qs) middle new → Adds (squared all) old new
adds_left ps qs all old first middle rest adds new more = rest new (adds_square ps qs first middle new adds more)

-- ---- codes

joined_cons : (sep : List ℕ) (p : Piece) (ps : List Piece) → joined sep (p ∷ ps) ≡ p ∷ behind_each sep ps
joined_cons sep p [] = refl
joined_cons sep p (q ∷ ps) = ap (λ t. p ∷ plain sep ∷ t) (joined_cons sep q ps)

-- the first of what is left, and the others after it
pub behind_cons : (is_any : Bool) (sep : List ℕ) (p : Piece) (ps : List Piece) → pieces_behind is_any sep (p ∷ ps)
    ≡ pieces_behind is_any sep (p ∷ []) ++ pieces_behind true sep ps
behind_cons true sep p ps = refl
behind_cons false sep p ps = joined_cons sep p ps

pub behind_none : (is_any : Bool) (sep : List ℕ) → pieces_behind is_any sep [] ≡ []
behind_none true sep = refl
behind_none false sep = refl
