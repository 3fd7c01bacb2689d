use Rattle.std.proofs.Common.{◌≡◌, true, ◌∷◌, [], ℕ, refl, sym, ◌∙◌, get_or}
use Rattle.std.specs.Char.{is_ascii_alphabetic}
use Rattle.icu_locale_core.specs.Subtag.{is_script, titlecase, IsWritten}
use Rattle.icu_locale_core.specs.declared.classes.Class.TheVariants.{Script}
use Rattle.icu_locale_core.proofs.Cases.{written_written}
use Rattle.icu_locale_core.proofs.subtags.Script.try_from_bytes.Goals as goal

-- four letters, written as a script
four_letters : (a b c d : ℕ) → is_ascii_alphabetic a ≡ true → is_ascii_alphabetic b ≡ true
    → is_ascii_alphabetic c ≡ true → is_ascii_alphabetic d ≡ true → IsWritten is_script titlecase (titlecase (a ∷ b ∷ c ∷ d ∷ []))
four_letters a b c d p q r s =
    let member : is_script (a ∷ b ∷ c ∷ d ∷ []) ≡ true = rw (p, q, r, s) refl in
    written_written Script (a ∷ b ∷ c ∷ d ∷ []) member

pub invariant_of-result : goal.invariant_of-result
invariant_of-result c =
    let text = c.args.text.now in
    rw (c.of_four.ensures, c.upper.ensures.upper, c.lower.ensures.lower, c.lower-in-len4.ensures.lower, c.lower-in-len4-2.ensures.lower)
    (four_letters (get_or text 0 0) (get_or text 1 0) (get_or text 2 0) (get_or text 3 0) (sym c.is_letter.ensures ∙ c.if-is_letter.true)
    (sym c.is_letter-then-is_letter.ensures ∙ c.if-is_letter-2.true) (sym c.is_letter-then-is_letter-2.ensures ∙ c.if-is_letter-3.true)
    (sym c.is_letter-then-is_letter-3.ensures ∙ c.if-is_letter-4.true))
