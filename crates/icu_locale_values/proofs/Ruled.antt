-- Keys at which the rules speak, and the others.
use Rattle.std.proofs.Common.{◌≡◌, ◌≢◌, ◌⊎◌, inl, inr, ℕ, Bool, true, false, List, [], Option, Some, None, option_and_then, refl, sym, ap, ◌∙◌, subst, if◌then◌else◌}
use Rattle.std.specs.Option.{option_or, IsSome}
use Rattle.std.specs.Str.{bytes_eq}
use Rattle.std.proofs.lemmas.Bool.{cases_Bool, or_cases, false≢true}
use Rattle.std.proofs.lemmas.Slice.Eq.{bytes_eq-Decides}
use Rattle.icu_locale_core.specs.Keywords.{KeywordRows}
use Rattle.icu_locale_core.specs.Maps.{value_at}
use Rattle.icu_locale_core.specs.Subtag.{rg, sd}
use Rattle.icu_locale_core.specs.TextSet.{text_cmp}
use Rattle.icu_locale.specs.Canonical.{next_value}
use Rattle.icu_locale.specs.declared.canonicalizer.rules.Rules.{Rules}
use Rattle.icu_locale_runs.specs.Run.{BecomesEnd, IsLaterEndOf}
use Rattle.icu_locale_runs.specs.laws.LaterEnds.{BecomesEnd-later_end, later_end_none}
use Rattle.icu_locale_values.specs.Aliases.{Pieces, AliasTable, pieces_cmp, preferred, is_ruled, next_field, next_keyword, next_whole}
use Rattle.icu_locale_values.specs.Whole.{BecomeEnds}
use Rattle.icu_locale_values.specs.inner.Walked.{AreLaterEnds, ArePut, AreThere}

pub ruled_cases : (key : List ℕ) → ((key ≡ rg) ⊎ (key ≡ sd)) ⊎ ((is_ruled key ≡ false) × (key ≢ rg) × (key ≢ sd))
ruled_cases key =
    elim (cases_Bool (is_ruled key)) [
      | inl ruled ↦ inl (elim (or_cases (bytes_eq key rg) (bytes_eq key sd) ruled) [
        | inl e ↦ inl ((bytes_eq-Decides key rg).0 e)
        | inr e ↦ inr ((bytes_eq-Decides key sd).0 e)
      ])
      | inr unruled ↦ inr (unruled, λ e. false≢true (sym unruled ∙ ap is_ruled e), λ e. false≢true (sym unruled ∙ ap is_ruled e))
    ]

-- where the rules do not speak, the table does
module _ (rules : Rules) (table : AliasTable) (key : List ℕ) (unruled : is_ruled key ≡ false) where
  pub keyword_is : next_keyword table key ≡ next_field table key
  keyword_is = ap (λ (b : Bool). preferred pieces_cmp (if b then None else value_at text_cmp table key)) unruled

  pub whole_is : next_whole rules table key ≡ next_field table key
  whole_is = ap (λ (b : Bool). (λ (v : Pieces). if b then next_value rules v else next_field table key v)) unruled

-- where they speak, nothing follows by the table
pub none_ruled : (table : AliasTable) (key : List ℕ) → is_ruled key ≡ true → (o : Option Pieces) → option_and_then (next_keyword table key) o ≡ None
none_ruled table key ruled None = refl
none_ruled table key ruled (Some v) =
    ap (λ (b : Bool). preferred pieces_cmp (if b then None else value_at text_cmp table key) v) ruled

module _ (rules : Rules) (table : AliasTable) (old mid new ends : KeywordRows)
    (later : AreLaterEnds text_cmp (next_keyword table) old ends) (put : ArePut text_cmp ends mid new) where
  at_ruled : (key : List ℕ) → is_ruled key ≡ true → value_at text_cmp new key ≡ value_at text_cmp mid key
  at_ruled key ruled =
      put key ∙ ap (λ end. option_or end (value_at text_cmp mid key))
      (later_end_none (next_keyword table key) (value_at text_cmp old key) (value_at text_cmp ends key)
      (none_ruled table key ruled (value_at text_cmp old key)) (later key))

  -- what rules and then ends make of keywords
  pub BecomeEnds-whole : BecomesEnd (next_value rules) (value_at text_cmp old rg) (value_at text_cmp mid rg)
      → BecomesEnd (next_value rules) (value_at text_cmp old sd) (value_at text_cmp mid sd)
      → ((key : List ℕ) → key ≢ rg → key ≢ sd → value_at text_cmp mid key ≡ value_at text_cmp old key)
      → BecomeEnds (next_whole rules table) old new
  BecomeEnds-whole at_rg at_sd others key =
      elim (ruled_cases key) [
        | inl (inl e) ↦ subst (λ q. BecomesEnd (next_whole rules table q) (value_at text_cmp old q) (value_at text_cmp new q)) (sym e)
            (subst (BecomesEnd (next_value rules) (value_at text_cmp old rg)) (sym (at_ruled rg refl)) at_rg)
        | inl (inr e) ↦ subst (λ q. BecomesEnd (next_whole rules table q) (value_at text_cmp old q) (value_at text_cmp new q)) (sym e)
            (subst (BecomesEnd (next_value rules) (value_at text_cmp old sd)) (sym (at_ruled sd refl)) at_sd)
        | inr (unruled, not_rg, not_sd) ↦
            let end = value_at text_cmp ends key in
            let is : value_at text_cmp new key ≡ option_or end (value_at text_cmp old key) = put key ∙ ap (option_or end) (others key not_rg not_sd) in
            let by_field : IsLaterEndOf (next_field table key) (value_at text_cmp old key) end =
            subst (λ n. IsLaterEndOf n (value_at text_cmp old key) end) (keyword_is rules table key unruled) (later key) in
            let becomes = BecomesEnd-later_end (next_field table key) (value_at text_cmp old key) end by_field in
            subst (λ n. BecomesEnd n (value_at text_cmp old key) (value_at text_cmp new key)) (sym (whole_is rules table key unruled))
            (subst (BecomesEnd (next_field table key) (value_at text_cmp old key)) (sym is) becomes)
      ]

-- ---- what has a later end is there

pub there_later : {X : Type 0} (next : X → Option X) (o end : Option X) → IsLaterEndOf next o end → IsSome end → IsSome o
there_later next None end h some = subst IsSome h some
there_later next (Some x) end h some = refl

there_kept : {X : Type 0} (next : X → Option X) (o new : Option X) → IsSome o → BecomesEnd next o new → IsSome new
there_kept next None new some h = absurd (false≢true some)
there_kept next (Some x) None some h = absurd h
there_kept next (Some x) (Some y) some h = refl

-- and stays there under rules
pub AreThere-rules : (rules : Rules) (table : AliasTable) (old mid ends : KeywordRows)
    → AreLaterEnds text_cmp (next_keyword table) old ends
    → BecomesEnd (next_value rules) (value_at text_cmp old rg) (value_at text_cmp mid rg)
    → BecomesEnd (next_value rules) (value_at text_cmp old sd) (value_at text_cmp mid sd)
    → ((key : List ℕ) → key ≢ rg → key ≢ sd → value_at text_cmp mid key ≡ value_at text_cmp old key)
    → AreThere text_cmp ends mid
AreThere-rules rules table old mid ends later at_rg at_sd others key some =
    let was : IsSome (value_at text_cmp old key) =
    there_later (next_keyword table key) (value_at text_cmp old key) (value_at text_cmp ends key) (later key) some in
    elim (ruled_cases key) [
      | inl (inl e) ↦ subst (λ q. IsSome (value_at text_cmp mid q)) (sym e)
          (there_kept (next_value rules) (value_at text_cmp old rg) (value_at text_cmp mid rg) (subst (λ q. IsSome (value_at text_cmp old q)) e was) at_rg)
      | inl (inr e) ↦ subst (λ q. IsSome (value_at text_cmp mid q)) (sym e)
          (there_kept (next_value rules) (value_at text_cmp old sd) (value_at text_cmp mid sd) (subst (λ q. IsSome (value_at text_cmp old q)) e was) at_sd)
      | inr (unruled, not_rg, not_sd) ↦ subst IsSome (sym (others key not_rg not_sd)) was
    ]

-- without rows nothing follows
pub none_without_rows : (table : AliasTable) → table ≡ [] → (key : List ℕ) (v : Pieces) → next_keyword table key v ≡ None
none_without_rows table none key v = ap (λ t. next_keyword t key v) none ∙ either (is_ruled key)
  where
    either : (b : Bool) → preferred pieces_cmp (if b then None else value_at text_cmp [] key) v ≡ None
    either true = refl
    either false = refl
