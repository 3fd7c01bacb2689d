use Rattle.std.proofs.Common.{◌≡◌, ℕ, Bool, true, false, List, refl}
use Rattle.std.specs.Str.{IsUtf8, is_utf8}
use Rattle.std.proofs.lemmas.Str.{IsUtf8-from_is_utf8, is_utf8-from_IsUtf8}
use Rattle.icu_locale_lines.proofs.answer.text_of.Goals as goal

none_is : (bs : List ℕ) → (IsUtf8 bs → ⊥) → is_utf8 bs ≡ false
none_is bs none = by (is_utf8 bs) refl
  where
    by : (b : Bool) → is_utf8 bs ≡ b → b ≡ false
    by true is = absurd (none (IsUtf8-from_is_utf8 bs is))
    by false is = refl

pub returns-in-Ok : goal.returns-in-Ok
returns-in-Ok c = (is_utf8-from_IsUtf8 c.args.bytes.now c.in-Ok.ensures.cases.1, c.in-Ok.ensures.cases.0)

pub returns-in-Err : goal.returns-in-Err
returns-in-Err c = none_is c.args.bytes.now c.in-Err.ensures.cases.0
