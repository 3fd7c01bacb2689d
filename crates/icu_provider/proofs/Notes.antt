-- What notes tell of a key.
use Rattle.std.proofs.Common.{◌≡◌, ◌≢◌, ℕ, ◌<◌, ◌+◌, ◌-◌, ◌⊎◌, List, length, get_or, None, ap, sym, ◌∙◌, arith, ⊎_elim, inr, subst}
use Rattle.std.proofs.Math.Nat.{eq-or-lt_of_le}
use Rattle.std.specs.declared.cmp.Ordering.{Ordering}
use Rattle.std.specs.declared.cmp.Ordering.TheVariants.{Equal}
use Rattle.std.specs.Map.{lookup}
use Rattle.std.specs.BTreeMap.{is_at}
use Rattle.std.proofs.lemmas.Bool.{cases_eq}
use Rattle.std.proofs.lemmas.Map.{lookup-none}
use Rattle.std.proofs.lemmas.List.{get_or_default}
use Rattle.std.proofs.lemmas.List.Elements.{recursion_from_All}
use Rattle.icu_provider.specs.inner.Notes.{bucket, many, AreNoted, IsNoted}
use Rattle.icu_provider.specs.laws.SortedMaps.{not_tied}

-- a note of a place, or of several keys
abbrev Notes : ℕ → ℕ → Type 0
Notes note place = (note ≡ place + 1) ⊎ (note ≡ many)

-- it is never 0
not_zero : (note place : ℕ) → Notes note place → note ≢ 0
not_zero note place notes none = ⊎_elim (λ e. absurd (omega (arith, e, none))) (λ e. absurd (omega (arith, e, none))) notes

module _ {K V : Type 0} (compare : K → K → Ordering) (IsMark : K → ℕ → Type 0) (rows : List (K × V)) (notes : List ℕ) (key : K) (mark at : ℕ)
    (noted : IsNoted compare IsMark rows notes) (is : IsMark key mark) (here : at ≡ bucket mark (length notes)) (in_range : at < length notes) where
  -- a row with the key is noted at its bucket
  noted_at : (k : ℕ) (d : K × V) → k < length rows → compare key (get_or rows k d).0 ≡ Equal → Notes (get_or notes at 0) k
  noted_at k d low tied = subst (λ b. Notes (get_or notes b 0) k) (sym here) (noted k d low key mark tied is (subst (λ b. b < length notes) here in_range))

  -- where nothing is noted at a key's bucket, no row has the key
  pub lookup_unnoted : get_or notes at 0 ≡ 0 → lookup (is_at (compare key)) rows ≡ None
  lookup_unnoted unnoted = lookup-none (is_at (compare key)) rows
      (recursion_from_All _ rows (λ k d low. not_tied (compare key (get_or rows k d).0)
      (λ tied. not_zero _ k (noted_at k d low tied) unnoted)))

  -- where one row is noted, no other has the key
  pub lookup_noted : (row : K × V) → get_or notes at 0 ≢ many → row ≡ get_or rows (get_or notes at 0 - 1) row → compare key row.0 ≢ Equal
      → lookup (is_at (compare key)) rows ≡ None
  lookup_noted row one read other = lookup-none (is_at (compare key)) rows
      (recursion_from_All _ rows (λ k d low. not_tied (compare key (get_or rows k d).0)
      (λ tied. ⊎_elim
      (λ (e : get_or notes at 0 ≡ k + 1).
      let place : k ≡ get_or notes at 0 - 1 = omega (arith, e) in
      let same : get_or rows k d ≡ row = get_or_default rows k d row low ∙ ap (λ n. get_or rows n row) place ∙ sym read in
      other (subst (λ (r : K × V). compare key r.0 ≡ Equal) same tied))
      (λ (e : get_or notes at 0 ≡ many). one e)
      (noted_at k d low tied))))

module _ {K V : Type 0} (compare : K → K → Ordering) (IsMark : K → ℕ → Type 0) (rows : List (K × V)) (notes : List ℕ)
    (shared : (x y : K) (m n : ℕ) → compare x y ≡ Equal → IsMark x m → IsMark y n → m ≡ n) where
  -- a key is tied to that of a row only by the row's mark
  of_row : (place mark k : ℕ) (row d : K × V) (key : K) (other : ℕ) → place < length rows → IsMark (get_or rows place row).0 mark
      → k ≡ place → compare key (get_or rows k d).0 ≡ Equal → IsMark key other → other ≡ mark
  of_row place mark k row d key other in_range is same tied is_other =
      let read : get_or rows place row ≡ get_or rows k d = get_or_default rows place row d in_range ∙ ap (λ n. get_or rows n d) (sym same) in
      shared key _ other mark (ap (λ (r : K × V). compare key r.0) read ∙ tied) is_other is

  -- the next row's key is noted as well
  pub noted_next : (new : List ℕ) (place mark : ℕ) (row : K × V) → AreNoted compare IsMark rows notes place
      → place < length rows → IsMark (get_or rows place row).0 mark → length new ≡ length notes
      → (bucket mark (length notes) < length notes → Notes (get_or new (bucket mark (length notes)) 0) place)
      → (bucket mark (length notes) < length notes → get_or notes (bucket mark (length notes)) 0 ≢ 0
      → get_or new (bucket mark (length notes)) 0 ≡ many)
      → ((at : ℕ) → at ≢ bucket mark (length notes) → get_or new at 0 ≡ get_or notes at 0)
      → AreNoted compare IsMark rows new (place + 1)
  noted_next new place mark row earlier in_range is long noted again others k d low key other tied is_other within =
      let count = length notes in
      let at = bucket other count in
      let inside : at < count = subst (λ n. bucket other n < n) long within in
      let stays : Notes (get_or new at 0) k = ⊎_elim
      (λ (same : k ≡ place).
      let mark_is = of_row place mark k row d key other in_range is same tied is_other in
      subst (λ n. bucket n count < count → Notes (get_or new (bucket n count) 0) k) (sym mark_is)
      (subst (λ p. bucket mark count < count → Notes (get_or new (bucket mark count) 0) p) (sym same) noted) inside)
      (λ (before : k < place).
      let was = earlier k d before key other tied is_other inside in
      ⊎_elim
      (λ (hit : at ≡ bucket mark count).
      inr (ap (λ n. get_or new n 0) hit ∙ again (subst (λ n. n < count) hit inside)
      (subst (λ n. get_or notes n 0 ≢ 0) hit (not_zero _ k was))))
      (λ (missed : at ≢ bucket mark count). subst (λ n. Notes n k) (sym (others at missed)) was)
      (cases_eq at (bucket mark count)))
      (eq-or-lt_of_le (omega (arith, low))) in
      subst (λ n. Notes (get_or new (bucket other n) 0) k) (sym long) stays
