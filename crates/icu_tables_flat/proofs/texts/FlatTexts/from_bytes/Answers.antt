use Rattle.std.proofs.Common.{◌≡◌, ◌∙◌, ◌&&◌, Bool, true, false, List, ℕ, length, Some, None, refl, sym, ap}
use Rattle.std.specs.Str.{IsUtf8, is_utf8}
use Rattle.std.proofs.Math.Bool.{and-false}
use Rattle.std.proofs.lemmas.Str.{IsUtf8-from_is_utf8, is_utf8-from_IsUtf8}
use Rattle.icu_tables_flat.specs.Form.{FlatParts, flat_parts, well_formed, ends}
use Rattle.icu_tables_flat.specs.inner.Walks.{groups_fit, runs_fit}
use Rattle.icu_tables_flat.proofs.Decides.{decided}
use Rattle.icu_tables_flat.proofs.Forms.{none_without_parts, none_where_ill, some_where_well}
use Rattle.icu_tables_flat.proofs.texts.FlatTexts.from_bytes.Goals as goal

none_is : (bs : List ℕ) → (IsUtf8 bs → ⊥) → is_utf8 bs ≡ false
none_is bs none = by (is_utf8 bs) refl
  where
    by : (b : Bool) → is_utf8 bs ≡ b → b ≡ false
    by true is = absurd (none (IsUtf8-from_is_utf8 bs is))
    by false is = refl

-- parts whose texts are the same
same_texts : (bytes : List ℕ) (p : FlatParts) (texts : List ℕ) → flat_parts bytes ≡ Some p → texts ≡ p.texts
    → flat_parts bytes ≡ Some (record p { texts = texts })
same_texts bytes p texts parts same = parts ∙ (λ i. Some (record p { texts = sym same i }))

ill_groups : (p : FlatParts) → groups_fit (length p.runs) p.texts None p.groups ≡ false → well_formed p ≡ false
ill_groups p ill =
    decided p
    ∙ ap (λ b. (is_utf8 p.texts && b) && runs_fit p.texts p.rows 0 (ends p.runs)) ill
    ∙ ap (λ b. b && runs_fit p.texts p.rows 0 (ends p.runs)) (and-false (is_utf8 p.texts))

ill_runs : (p : FlatParts) → runs_fit p.texts p.rows 0 (ends p.runs) ≡ false → well_formed p ≡ false
ill_runs p ill =
    decided p
    ∙ ap (λ b. (is_utf8 p.texts && groups_fit (length p.runs) p.texts None p.groups) && b) ill
    ∙ and-false (is_utf8 p.texts && groups_fit (length p.runs) p.texts None p.groups)

well : (p : FlatParts) → is_utf8 p.texts ≡ true → groups_fit (length p.runs) p.texts None p.groups ≡ true
    → runs_fit p.texts p.rows 0 (ends p.runs) ≡ true → well_formed p ≡ true
well p utf8 groups runs = decided p ∙ (λ i. (utf8 i && groups i) && runs i)

pub returns-in_default-clause-not_in_form : goal.returns-in_default-clause-not_in_form
returns-in_default-clause-not_in_form c = none_without_parts c.args.bytes.now c.in_default.ensures

pub returns-in_default-from_utf8-clause-not_in_form : goal.returns-in_default-from_utf8-clause-not_in_form
returns-in_default-from_utf8-clause-not_in_form c =
    let p : FlatParts = record {
      groups = c.in-Some.lists.groups.now;
      runs = c.in-Some.lists.runs.now;
      rows = c.in-Some.lists.rows.now;
      texts = c.in-Some.lists.texts.now;
    } in
    none_where_ill c.args.bytes.now p c.in-Some.ensures
    (decided p ∙ ap (λ b. (b && groups_fit (length p.runs) p.texts None p.groups) && runs_fit p.texts p.rows 0 (ends p.runs))
    (none_is p.texts c.in_default-from_utf8.ensures))

pub returns-then-not-groups_fit-clause-not_in_form : goal.returns-then-not-groups_fit-clause-not_in_form
returns-then-not-groups_fit-clause-not_in_form c =
    let p : FlatParts = record {
      groups = c.in-Some.lists.groups.now;
      runs = c.in-Some.lists.runs.now;
      rows = c.in-Some.lists.rows.now;
      texts = c.in-Some.lists.texts.now;
    } in
    none_where_ill c.args.bytes.now (record p { texts = c.in-Ok.texts.now })
    (same_texts c.args.bytes.now p c.in-Ok.texts.now c.in-Some.ensures c.in-Ok.ensures.0)
    (ill_groups (record p { texts = c.in-Ok.texts.now }) (sym c.groups_fit.ensures ∙ c.if-not-groups_fit.true))

pub returns-then-not-runs_fit-clause-not_in_form : goal.returns-then-not-runs_fit-clause-not_in_form
returns-then-not-runs_fit-clause-not_in_form c =
    let p : FlatParts = record {
      groups = c.in-Some.lists.groups.now;
      runs = c.in-Some.lists.runs.now;
      rows = c.in-Some.lists.rows.now;
      texts = c.in-Some.lists.texts.now;
    } in
    none_where_ill c.args.bytes.now (record p { texts = c.in-Ok.texts.now })
    (same_texts c.args.bytes.now p c.in-Ok.texts.now c.in-Some.ensures c.in-Ok.ensures.0)
    (ill_runs (record p { texts = c.in-Ok.texts.now }) (sym c.runs_fit.ensures ∙ c.if-not-runs_fit.true))

pub invariant_of-result : goal.invariant_of-result
invariant_of-result c =
    well (record {
      groups = c.in-Some.lists.groups.now;
      runs = c.in-Some.lists.runs.now;
      rows = c.in-Some.lists.rows.now;
      texts = c.in-Ok.texts.now;
    })
    (ap is_utf8 c.in-Ok.ensures.0 ∙ is_utf8-from_IsUtf8 c.in-Some.lists.texts.now c.in-Ok.ensures.1)
    (sym c.groups_fit.ensures ∙ c.if-not-groups_fit.false) (sym c.runs_fit.ensures ∙ c.if-not-runs_fit.false)

pub returns-clause-read : goal.returns-clause-read
returns-clause-read c =
    let p : FlatParts = record {
      groups = c.in-Some.lists.groups.now;
      runs = c.in-Some.lists.runs.now;
      rows = c.in-Some.lists.rows.now;
      texts = c.in-Some.lists.texts.now;
    } in
    some_where_well c.args.bytes.now (record p { texts = c.in-Ok.texts.now })
    (same_texts c.args.bytes.now p c.in-Ok.texts.now c.in-Some.ensures c.in-Ok.ensures.0)
    (well (record p { texts = c.in-Ok.texts.now })
    (ap is_utf8 c.in-Ok.ensures.0 ∙ is_utf8-from_IsUtf8 c.in-Some.lists.texts.now c.in-Ok.ensures.1)
    (sym c.groups_fit.ensures ∙ c.if-not-groups_fit.false) (sym c.runs_fit.ensures ∙ c.if-not-runs_fit.false))
