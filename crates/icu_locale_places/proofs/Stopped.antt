-- The reader has stopped within pieces that begin nothing, and within no others.
use Rattle.std.proofs.Common.{◌≡◌, ◌↔◌, ℕ, ◌<◌, ◌≤◌, suc, Bool, true, false, List, [], ◌∷◌, ◌++◌, length, take, Err, refl, sym, ◌∙◌, arith}
use Rattle.icu_locale_core.specs.Subtag.{is_language}
use Rattle.icu_locale_core.specs.declared.parse_error.ParseError.{ParseError}
use Rattle.icu_locale_core.specs.declared.parse_error.ParseError.TheVariants.{InvalidLanguage, InvalidSubtag}
use Rattle.icu_locale_extensions.specs.Syntaxes.{IsRefused}
use Rattle.icu_locale_extensions.specs.laws.Reader.{read}
use Rattle.icu_locale_places.specs.Places.{BeginsSome, HasStopped, IsPlace}
use Rattle.icu_locale_places.proofs.Told.{DerivedIsRead, fronts}

begins_none : (ps : List (List ℕ)) → 0 < length ps → ¬ (BeginsSome ps) → HasStopped ps
begins_none [] some none = absurd (omega arith)
begins_none (p ∷ ps) some none = by (is_language p) refl
  where
    by : (b : Bool) → is_language p ≡ b → HasStopped (p ∷ ps)
    by true is = (InvalidSubtag, λ qs. (is, λ x derived. none (qs, (x, derived))))
    by false is = (InvalidLanguage, λ qs. is)

pub stopped_there : (ps : List (List ℕ)) (n : ℕ) → IsPlace ps n → n < length ps → HasStopped (take (suc n) ps)
stopped_there [] n place inside = absurd (omega arith)
stopped_there (p ∷ ps) n place inside = begins_none (take (suc n) (p ∷ ps)) (omega arith) (place.there inside)

pub not_before : DerivedIsRead → ((ps : List (List ℕ)) (e : ParseError) → IsRefused ps e ↔ (read ps ≡ Err e))
    → (ps : List (List ℕ)) (n m : ℕ) → IsPlace ps n → m ≤ n → ¬ (HasStopped (take m ps))
not_before derived refused ps n m place less stopped =
    let some = fronts ps m n less place.before in
    cc (sym ((derived (take m ps ++ some.0) some.1.0).0 some.1.1) ∙ (refused (take m ps ++ some.0) stopped.0).0 (stopped.1 some.0))
