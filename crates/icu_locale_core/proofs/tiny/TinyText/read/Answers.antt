use Rattle.std.proofs.Common.{◌≡◌, ◌∙◌, ◌++◌, ◌-◌, ◌+◌, ◌<◌, ◌≤◌, ◌∷◌, [], zero, suc, true, Bool, refl, length, take, drop, get_or, replicate, subst}
use Rattle.std.proofs.Common.{sym, ap, arith, List, ℕ}
use Rattle.std.specs.List.{list_all}
use Rattle.std.proofs.lemmas.List.{take_all}
use Rattle.icu_locale_core.specs.inner.Class.{is_member, is_character, written_case}
use Rattle.icu_locale_core.specs.Subtag.{IsWritten}
use Rattle.icu_locale_core.specs.inner.Padded.{padded, IsPadded, unpadded}
use Rattle.icu_locale_core.proofs.Cases.{length-written_case, get_or-written_case, written_plain, written_written}
use Rattle.icu_locale_core.proofs.Padding.{set-next, IsPadded-padded, unpadded-zeros}
use Rattle.icu_locale_core.proofs.tiny.TinyText.read.Given.{Over}
use Rattle.icu_locale_core.proofs.tiny.TinyText.read.Goals as goal

-- a character that is of a kind is not looked at again
past_one : (p : ℕ → Bool) (t : List ℕ) (i : ℕ) → i < length t → p (get_or t i 0) ≡ true → list_all p (drop i t) ≡ list_all p (drop (i + 1) t)
past_one p t i h is =
    let next : suc i ≡ i + 1 = omega arith in
    by t i h is ∙ ap (λ k. list_all p (drop k t)) next
  where
    by : (t : List ℕ) (i : ℕ) → i < length t → p (get_or t i 0) ≡ true → list_all p (drop i t) ≡ list_all p (drop (suc i) t)
    by [] i h is = absurd (omega arith)
    by (c ∷ t) zero h is = rw is refl
    by (c ∷ t) (suc i) h is = by t i (omega arith) is

past_all : (p : ℕ → Bool) (t : List ℕ) (i : ℕ) → length t ≤ i → list_all p (drop i t) ≡ true
past_all p [] zero h = refl
past_all p [] (suc i) h = refl
past_all p (c ∷ t) zero h = absurd (omega arith)
past_all p (c ∷ t) (suc i) h = past_all p t i (omega arith)

-- the next character of the written form goes in place of the first zero
pub loop-place-preserved : goal.loop-place-preserved
loop-place-preserved g c =
    let text = c.args.text.now in
    let long = length-written_case c.args.class text in
    let next = get_or-written_case c.args.class text c.loop-place.place c.loop-place-test.true ∙ sym c.written_byte.ensures in
    record {
      array = rw c.loop-place.invariant.array (set-next (written_case c.args.class text) g.row.N c.loop-place.place c.written_byte.result
          (omega (arith, long)) (omega (arith, c.requires.long, c.in_ok-kind.ensures.short)) next);
      whole = c.loop-place.invariant.whole ∙ past_one (is_character c.in_ok-kind.kind) text c.loop-place.place c.loop-place-test.true
          (sym c.has.ensures ∙ c.if-not-has.false);
    }

-- all of it written is the padded text
all_written : (w bs : List ℕ) (n i : ℕ) → length w ≡ i → bs ≡ take i w ++ replicate (n - i) 0 → bs ≡ padded n w
all_written w bs n i long is =
    is ∙ (λ j. take_all i w (omega arith) j ++ replicate (n - sym long j) 0)

module _ (g : Over) (c : goal.After-loop-place g) where
  array_of_text : c.loop-place.bytes ≡ padded g.row.N (written_case c.args.class c.args.text.now)
  array_of_text =
      let long = length-written_case c.args.class c.args.text.now in
      all_written (written_case c.args.class c.args.text.now) c.loop-place.bytes g.row.N c.loop-place.place (omega (arith, long)) c.loop-place.invariant.array

  member : is_member c.args.class c.args.text.now ≡ true
  member = c.in_ok-kind.ensures.member ∙ c.loop-place.invariant.whole ∙ past_all
      (is_character c.in_ok-kind.kind) c.args.text.now c.loop-place.place c.loop-place-test.false

  text_read : unpadded c.loop-place.bytes ≡ written_case c.args.class c.args.text.now
  text_read =
      let w = written_case c.args.class c.args.text.now in
      ap unpadded array_of_text ∙ unpadded-zeros w (g.row.N - length w) (written_plain c.args.class c.args.text.now member)

pub invariant_of-result : goal.invariant_of-result
invariant_of-result g c =
    let text = c.args.text.now in
    let long = length-written_case c.args.class text in
    subst (IsPadded g.row.N) (sym (array_of_text g c)) (IsPadded-padded g.row.N (written_case c.args.class text) c.requires.small
    (written_plain c.args.class text (member g c)) (omega (arith, long, c.requires.long, c.in_ok-kind.ensures.short)))

pub returns-clause-text : goal.returns-clause-text
returns-clause-text g c = text_read g c

pub returns-clause-known : goal.returns-clause-known
returns-clause-known g c = subst (IsWritten (is_member c.args.class) (written_case c.args.class)) (sym (text_read g c))
    (written_written c.args.class c.args.text.now (member g c))
