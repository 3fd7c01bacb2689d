-- One line more of a menu, and the first that there is none of.
use Rattle.std.proofs.Common.{◌≡◌, ℕ, ◌+◌, ◌<◌, List, [], ◌∷◌, ◌++◌, length, get_or, take, drop, Ok, Err, inl, inr, sym, ◌∙◌, ap, subst}
use Rattle.std.specs.List.{AllZip}
use Rattle.std.proofs.lemmas.List.{take_more, take-append-drop, drop_more}
use Rattle.icu_locale_core.specs.declared.langid.LanguageIdentifier.{LanguageIdentifier}
use Rattle.icu_locale_names.specs.LanguageNames.{LocaleAnswers}
use Rattle.uses.specs.declared.menu.MenuLine.{MenuLine}
use Rattle.uses.specs.declared.menu.MenuError.{MenuError}
use Rattle.uses.specs.Menu.{IsLineFor, IsFirstRefusal}

all_zip_push : {A B : Type 0} (R : A → B → Type 0) (xs : List A) (ys : List B) (x : A) (y : B) → AllZip R xs ys → R x y → AllZip R (xs ++ x ∷ []) (ys ++ y ∷ [])
all_zip_push R [] [] x y all here = (here, all)
all_zip_push R [] (z ∷ zs) x y all here = absurd all
all_zip_push R (w ∷ ws) [] x y all here = absurd all
all_zip_push R (w ∷ ws) (z ∷ zs) x y all here = (all.0, all_zip_push R ws zs x y all.1 here)

-- R holds of the items so far, and of one more
pub all_zip_further : {A B : Type 0} (R : A → B → Type 0) (xs : List A) (ys longer : List B) (i : ℕ) (x : A) (y : B) → i < length xs
    → x ≡ get_or xs i x → AllZip R (take i xs) ys → R x y → longer ≡ ys ++ y ∷ [] → AllZip R (take (i + 1) xs) longer
all_zip_further R xs ys longer i x y within is all here pushed =
    let taken = take_more xs i x within ∙ ap (λ z. take i xs ++ z ∷ []) (sym is) in
    subst (λ zs. AllZip R zs longer) (sym taken) (subst (λ zs. AllZip R (take i xs ++ x ∷ []) zs) (sym pushed) (all_zip_push R (take i xs) ys x y all here))

refused_behind : (answers : LocaleAnswers) (before behind : List LanguageIdentifier) (lines : List MenuLine) (x : LanguageIdentifier)
    (refusal : MenuError) → AllZip (λ y line. IsLineFor answers y (Ok line)) before lines → IsLineFor answers x (Err refusal)
    → IsFirstRefusal answers (before ++ x ∷ behind) refusal
refused_behind answers [] behind lines x refusal all here = inl here
refused_behind answers (y ∷ ys) behind [] x refusal all here = absurd all
refused_behind answers (y ∷ ys) behind (line ∷ lines) x refusal all here = inr ((line, all.0), refused_behind answers ys behind lines x refusal all.1 here)

-- the identifiers so far have lines, and the next is refused
pub first_refusal : (answers : LocaleAnswers) (xs : List LanguageIdentifier) (lines : List MenuLine) (i : ℕ) (x : LanguageIdentifier)
    (refusal : MenuError) → i < length xs → x ≡ get_or xs i x → AllZip (λ y line. IsLineFor answers y (Ok line)) (take i xs) lines
    → IsLineFor answers x (Err refusal) → IsFirstRefusal answers xs refusal
first_refusal answers xs lines i x refusal within is all here =
    let behind = drop_more xs i x within ∙ ap (λ z. z ∷ drop (i + 1) xs) (sym is) in
    let whole = ap (λ zs. take i xs ++ zs) (sym behind) ∙ take-append-drop i xs in
    subst (λ zs. IsFirstRefusal answers zs refusal) whole (refused_behind answers (take i xs) (drop (i + 1) xs) lines x refusal all here)
