-- Where pieces stand in others.
use Rattle.std.proofs.Common.{◌≡◌, ℕ, ◌<◌, ◌+◌, true, ◌&&◌, not, if◌then◌else◌, List, [], ◌∷◌, length, Some, ap, ◌∙◌, add-zero, add-one, arith, count_by}
use Rattle.std.specs.Option.{option_map}
use Rattle.std.proofs.lemmas.List.Splits.{length-slice_split}
use Rattle.icu_locale_core.specs.Identifier.{is_separator, pieces}
use Rattle.icu_locale_extensions.specs.Extensions.{any_piece}
use Rattle.icu_locale_validity.specs.Places.{begins, behind, marks_behind, stand}
use Rattle.icu_locale_validity.specs.declared.part.PartKind.{PartKind}

some_piece : (t : List ℕ) → 0 < length (pieces t)
some_piece t = omega (arith, length-slice_split is_separator t, add-one (count_by is_separator t))

here : (kind : PartKind) (marks wanted ps : List (List ℕ)) → 0 < length ps → (not (any_piece marks) && begins kind wanted ps) ≡ true → stand kind marks wanted ps ≡ Some 0
here kind marks wanted [] some e = absurd (omega arith)
here kind marks wanted (p ∷ ps) some e = ap (λ b. if b then Some 0 else behind p (stand kind (marks_behind p marks) wanted ps)) e

-- pieces that stand at the front of what is left begin where that begins
pub found_here : (kind : PartKind) (marks wanted : List (List ℕ)) (t : List ℕ) (n : ℕ) → (not (any_piece marks) && begins kind wanted (pieces t)) ≡ true
    → option_map (λ k. n + k) (stand kind marks wanted (pieces t)) ≡ Some n
found_here kind marks wanted t n e = ap (option_map (λ k. n + k)) (here kind marks wanted (pieces t) (some_piece t) e) ∙ ap Some (add-zero n)
