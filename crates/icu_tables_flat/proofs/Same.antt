-- Lists that have the same elements at each place are the same.
use Rattle.std.proofs.Common.{◌≡◌, ℕ, zero, suc, ◌+◌, ◌<◌, List, [], ◌∷◌, ◌++◌, length, get_or, take, slice_get, Some, sym, ap, ◌∙◌, add-one}
use Rattle.std.proofs.lemmas.Option.{none-some, same_Some, slice_get-get_or}

module _ {X : Type 0} where
  take_got : (xs : List X) (i : ℕ) (x : X) → slice_get xs i ≡ Some x → take (suc i) xs ≡ take i xs ++ x ∷ []
  take_got [] i x is = absurd (none-some x is)
  take_got (y ∷ ys) zero x is = ap (λ z. z ∷ []) (same_Some _ _ is)
  take_got (y ∷ ys) (suc i) x is = ap (λ l. y ∷ l) (take_got ys i x is)

  -- one element more is the same
  pub same_more : (xs ys : List X) (i : ℕ) (y : X) → take i xs ≡ take i ys → slice_get xs i ≡ Some y
      → i < length ys → y ≡ get_or ys i y → take (i + 1) xs ≡ take (i + 1) ys
  same_more xs ys i y front here within there =
      let other : slice_get ys i ≡ Some y = slice_get-get_or ys i y within ∙ ap Some (sym there) in
      ap (λ n. take n xs) (add-one i)
      ∙ take_got xs i y here ∙ ap (λ l. l ++ y ∷ []) front ∙ sym (take_got ys i y other)
      ∙ ap (λ n. take n ys) (sym (add-one i))
