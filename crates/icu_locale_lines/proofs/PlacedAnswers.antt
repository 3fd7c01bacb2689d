-- Answers with places: a line has one.
use Rattle.std.proofs.Common.{◌≡◌, ℕ, Bool, true, false, List, Option, None, Some, refl, sym, ap, ◌∙◌, subst}
use Rattle.std.proofs.lemmas.Bool.{false≢true}
use Rattle.icu_locale_extensions.specs.Syntaxes.{IsFaultBy}
use Rattle.icu_locale_places.specs.Places.{IsWrongAt}
use Rattle.icu_locale_extensions.specs.declared.syntax.Syntax.{Syntax}
use Rattle.icu_locale_extensions.specs.declared.syntax.Syntax.TheVariants.{Unicode}
use Rattle.icu_locale_lines.specs.Answers.{IsAnswerAt, IsAnswerBy, IsPlaceOf, IsTold, told}
use Rattle.icu_locale_lines.specs.Lists.{SpellsWhole}
use Rattle.icu_locale_lines.specs.declared.work.Tools.{Tools}
use Rattle.icu_locale_lines.specs.declared.work.places.Place.{Place}
use Rattle.icu_locale_lines.proofs.Readings.{ReadsOnce}

same_place : (p q : Place) → p.refusal ≡ q.refusal → p.from ≡ q.from → p.to ≡ q.to → Some p ≡ Some q
same_place p q refusal from to = λ i. Some (record { refusal = refusal i; from = from i; to = to i })

-- a line has one place
module _ (line : List ℕ) (once : ReadsOnce (SpellsWhole Unicode) (IsFaultBy Unicode)) (one : (from to from' to' : ℕ) → IsWrongAt line from to → IsWrongAt line from' to' → (from ≡ from') × (to ≡ to')) where
  place_one : (p q : Option Place) → IsPlaceOf line p → IsPlaceOf line q → p ≡ q
  place_one None None h k = refl
  place_one None (Some q) h k = absurd (once.apart line h.0 q.refusal h.1 k.0)
  place_one (Some p) None h k = absurd (once.apart line k.0 p.refusal k.1 h.0)
  place_one (Some p) (Some q) h k =
      let span = one p.from p.to q.from q.to h.1 k.1 in
      same_place p q (once.fault line p.refusal q.refusal h.0 k.0) span.0 span.1

  told_one : (plain other : List ℕ) (a b : Bool) → plain ≡ other → a ≡ b → (one two : List ℕ) → IsTold line plain a one → IsTold line other b two → one ≡ two
  told_one plain other true true same accepted one two h k = h ∙ same ∙ sym k
  told_one plain other true false same accepted one two h k = absurd (false≢true (sym accepted))
  told_one plain other false true same accepted one two h k = absurd (false≢true accepted)
  told_one plain other false false same accepted one two h k =
      h.2 ∙ (λ i. told (same i) (place_one h.0 k.0 h.1 k.1 i)) ∙ sym k.2

  module _ (syntax : Option Syntax) (tools : Tools) (by_one : (one two : List ℕ) (a b : Bool) → IsAnswerBy syntax tools line one a
      → IsAnswerBy syntax tools line two b → (one ≡ two) × (a ≡ b)) where
    pub answer_at_one : (places : Bool) (one two : List ℕ) (a b : Bool) → IsAnswerAt places syntax tools line one a
        → IsAnswerAt places syntax tools line two b → (one ≡ two) × (a ≡ b)
    answer_at_one false one two a b h k = by_one one two a b h k
    answer_at_one true one two a b (plain, h, tells) (other, k, told) =
        let same = by_one plain other a b h k in
        (told_one plain other a b same.0 same.1 one two tells told, same.1)

-- ---- a refused line with its place

pub placed_answer : (places : Bool) (syntax : Option Syntax) (tools : Tools) (line plain text : List ℕ) (accepted a : Bool) (place : Place)
    → places ≡ true → IsAnswerBy syntax tools line plain accepted → accepted ≡ false → IsPlaceOf line (Some place)
    → text ≡ told plain (Some place) → a ≡ false → IsAnswerAt places syntax tools line text a
placed_answer places syntax tools line plain text accepted a place on by none is same refused =
    subst (λ b. IsAnswerAt b syntax tools line text a) (sym on) (
      plain,
      subst (IsAnswerBy syntax tools line plain) (none ∙ sym refused) by,
      subst (λ b. IsTold line plain b text) (sym refused) (Some place, is, same),
    )
