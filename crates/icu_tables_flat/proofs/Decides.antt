-- What the walks decide is what the form says.
use Rattle.std.proofs.Common.{◌≡◌, ℕ, ◌+◌, ◌-◌, ◌<◌, ◌≤◌, Bool, true, false, ◌&&◌, nat_lt, nat_le, ◌==◌, List, [], ◌∷◌, ◌++◌, map, length, drop, slice_range, Option, Some, None, refl, sym, ap, ◌∙◌, arith}
use Rattle.std.specs.List.{list_all}
use Rattle.std.specs.Map.{keys_of}
use Rattle.std.specs.Str.{is_utf8}
use Rattle.std.proofs.Math.Bool.{and-false}
use Rattle.std.proofs.lemmas.Bool.{leb-true, leb-false, eqb-true}
use Rattle.std.proofs.lemmas.List.{take-append-drop, drop-drop, drop_all}
use Rattle.std.proofs.lemmas.List.Folds.{list_all-append}
use Rattle.icu_tables_flat.specs.Form.{FlatParts, said, well_formed, group_of, row_of, is_group, is_row, rises, rises_after, ends, ends_at, cut}
use Rattle.icu_tables_flat.specs.inner.Walks.{is_above, groups_fit, rows_fit, runs_fit}

-- texts rise, and the first is above a given one, if any
abbrev rises_from : Option (List ℕ) → List (List ℕ) → Bool
rises_from None ts = rises ts
rises_from (Some before) ts = rises_after before ts

rises_from-more : (before : Option (List ℕ)) (t : List ℕ) (ts : List (List ℕ))
    → rises_from before (t ∷ ts) ≡ (is_above before t && rises_after t ts)
rises_from-more None t ts = refl
rises_from-more (Some before) t ts = refl

rises_from-none : (before : Option (List ℕ)) → rises_from before [] ≡ true
rises_from-none None = refl
rises_from-none (Some before) = refl

-- ---- the walk over names

groups_mix : (g t b x y z : Bool) → (((g && t) && b) && ((x && y) && z)) ≡ (((g && x) && (b && y)) && (t && z))
groups_mix true true true x y z = refl
groups_mix true true false true y z = refl
groups_mix true true false false y z = refl
groups_mix true false b x y z = sym (and-false _)
groups_mix false t b x y z = refl

pub groups_decide : (runs : ℕ) (texts : List ℕ) (before : Option (List ℕ)) (es : List (List ℕ))
    → groups_fit runs texts before es
    ≡ ((list_all (is_group texts) es && rises_from before (keys_of (map (group_of texts) es)))
    && list_all (λ group. nat_lt group.1 runs) (map (group_of texts) es))
groups_decide runs texts before [] = ap (λ b. b && true) (sym (rises_from-none before))
groups_decide runs texts before (e ∷ es) =
    let name = (group_of texts e).0 in
    let names = keys_of (map (group_of texts) es) in
    let there = list_all (λ group. nat_lt group.1 runs) (map (group_of texts) es) in
    let own : Bool = is_group texts e in
    let run : Bool = nat_lt (group_of texts e).1 runs in
    ap (λ b. ((own && run) && is_above before name) && b) (groups_decide runs texts (Some name) es)
    ∙ groups_mix own run (is_above before name) (list_all (is_group texts) es) (rises_after name names) there
    ∙ ap (λ b. ((own && list_all (is_group texts) es) && b) && (run && there)) (sym (rises_from-more before name names))

-- ---- the walk over the rows of a run

rows_mix : (r b x y : Bool) → ((r && b) && (x && y)) ≡ ((r && x) && (b && y))
rows_mix true true x y = refl
rows_mix true false true y = refl
rows_mix true false false y = refl
rows_mix false b x y = refl

pub rows_decide : (texts : List ℕ) (before : Option (List ℕ)) (es : List (List ℕ))
    → rows_fit texts before es
    ≡ (list_all (is_row texts) es && rises_from before (keys_of (map (row_of texts) es)))
rows_decide texts before [] = sym (rises_from-none before)
rows_decide texts before (e ∷ es) =
    let key = (row_of texts e).0 in
    let keys = keys_of (map (row_of texts) es) in
    let own : Bool = is_row texts e in
    ap (λ b. (own && is_above before key) && b) (rows_decide texts (Some key) es)
    ∙ rows_mix own (is_above before key) (list_all (is_row texts) es) (rises_after key keys)
    ∙ ap (λ b. (own && list_all (is_row texts) es) && b) (sym (rises_from-more before key keys))

-- ---- the walk over the runs

-- the rows from one place on are those up to another, and those from there on
drop_cut : (rows : List (List ℕ)) (start end : ℕ) → start ≤ end → slice_range rows start end ++ drop end rows ≡ drop start rows
drop_cut rows start end le =
    let joined : start + (end - start) ≡ end = omega arith in
    ap (λ n. slice_range rows start end ++ drop n rows) (sym joined)
    ∙ ap (λ l. slice_range rows start end ++ l) (sym (drop-drop (end - start) start rows))
    ∙ take-append-drop (end - start) (drop start rows)

not_at : (count start : ℕ) (b : Bool) → (start == count) ≡ b → count < start → b ≡ false
not_at count start true is above = absurd (omega (arith, eqb-true start count is))
not_at count start false is above = refl

not_past : (count start end : ℕ) (b : Bool) (later : List ℕ) → nat_le start end ≡ b
    → (count < end → ends_at count end later ≡ false) → count < start → (b && ends_at count end later) ≡ false
not_past count start end true later is further above = further (omega (arith, leb-true start end is))
not_past count start end false later is further above = refl

-- past the last row, no ends are right
above_last : (count start : ℕ) (later : List ℕ) → count < start → ends_at count start later ≡ false
above_last count start [] above = not_at count start (start == count) refl above
above_last count start (end ∷ later) above =
    not_past count start end (nat_le start end) later refl (λ further. above_last count end later further) above

runs_mix : (x y e r l : Bool) → ((x && r) && ((y && e) && l)) ≡ (((x && y) && e) && (r && l))
runs_mix true true true r l = refl
runs_mix true true false true l = refl
runs_mix true true false false l = refl
runs_mix true false e true l = refl
runs_mix true false e false l = refl
runs_mix false y e r l = refl

module _ (texts : List ℕ) (rows : List (List ℕ)) where
  abbrev keys_rise : List (List (List ℕ)) → Bool
  keys_rise runs = list_all (λ run. rises (keys_of run)) (map (map (row_of texts)) runs)

  abbrev right : ℕ → List ℕ → Bool
  right start ends =
      (list_all (is_row texts) (drop start rows) && ends_at (length rows) start ends)
      && keys_rise (cut start ends rows)

  at_last : (start : ℕ) (b : Bool) → (start == length rows) ≡ b → b ≡ ((list_all (is_row texts) (drop start rows) && b) && true)
  at_last start true is =
      let none : drop start rows ≡ [] = drop_all start rows (omega (arith, eqb-true start (length rows) is)) in
      ap (λ l. (list_all (is_row texts) l && true) && true) (sym none)
  at_last start false is = ap (λ b. b && true) (sym (and-false _))

  one_run : (start end : ℕ) (later : List ℕ) (b c : Bool) → nat_le start end ≡ b → nat_le end (length rows) ≡ c
      → (end ≤ length rows → runs_fit texts rows end later ≡ right end later)
      → (((b && c) && rows_fit texts None (slice_range rows start end)) && runs_fit texts rows end later)
      ≡ ((list_all (is_row texts) (drop start rows) && (b && ends_at (length rows) end later))
      && keys_rise (cut start (end ∷ later) rows))
  one_run start end later false c le fits rest = ap (λ b. b && keys_rise (cut start (end ∷ later) rows)) (sym (and-false _))
  one_run start end later true false le fits rest =
      ap (λ b. b && keys_rise (cut start (end ∷ later) rows))
      (sym (and-false _) ∙ ap (λ b. list_all (is_row texts) (drop start rows) && b)
      (sym (above_last (length rows) end later (leb-false end (length rows) fits))))
  one_run start end later true true le fits rest =
      let mine = slice_range rows start end in
      let whole : list_all (is_row texts) (drop start rows) ≡ (list_all (is_row texts) mine && list_all (is_row texts) (drop end rows)) =
      ap (list_all (is_row texts)) (sym (drop_cut rows start end (leb-true start end le)))
      ∙ list_all-append (is_row texts) mine (drop end rows) in
      let rise : Bool = rises (keys_of (map (row_of texts) mine)) in
      let later_rise : Bool = keys_rise (cut end later rows) in
      let at_end : Bool = ends_at (length rows) end later in
      ap (λ b. b && runs_fit texts rows end later) (rows_decide texts None mine)
      ∙ ap (λ b. (list_all (is_row texts) mine && rise) && b) (rest (leb-true end (length rows) fits))
      ∙ runs_mix (list_all (is_row texts) mine) (list_all (is_row texts) (drop end rows)) at_end rise later_rise
      ∙ ap (λ b. (b && at_end) && (rise && later_rise)) (sym whole)

  pub runs_decide : (start : ℕ) (ends : List ℕ) → start ≤ length rows → runs_fit texts rows start ends ≡ right start ends
  runs_decide start [] within = at_last start (start == length rows) refl
  runs_decide start (end ∷ later) within =
      one_run start end later (nat_le start end) (nat_le end (length rows)) refl refl (λ fits. runs_decide end later fits)

-- ---- all of it

all_mix : (u g r n t e k : Bool) → ((u && ((g && n) && t)) && ((r && e) && k)) ≡ ((((((u && g) && r) && n) && t) && e) && k)
all_mix false g r n t e k = refl
all_mix true false r n t e k = refl
all_mix true true false n t e k = and-false _
all_mix true true true false t e k = refl
all_mix true true true true false e k = refl
all_mix true true true true true e k = refl

-- the parts are in the form exactly where their texts are UTF-8 and both walks come to their ends
pub decided : (p : FlatParts) → well_formed p
    ≡ ((is_utf8 p.texts && groups_fit (length p.runs) p.texts None p.groups) && runs_fit p.texts p.rows 0 (ends p.runs))
unfolding well_formed
decided p = sym (
    (λ i. (is_utf8 p.texts && groups_decide (length p.runs) p.texts None p.groups i)
    && runs_decide p.texts p.rows 0 (ends p.runs) (omega arith) i)
    ∙ all_mix (is_utf8 p.texts) (list_all (is_group p.texts) p.groups) (list_all (is_row p.texts) p.rows)
    (rises (keys_of (said p).groups)) (list_all (λ group. nat_lt group.1 (length p.runs)) (said p).groups)
    (ends_at (length p.rows) 0 (ends p.runs)) (list_all (λ run. rises (keys_of run)) (said p).runs))
