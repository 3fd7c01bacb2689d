-- The run of keys: what its steps, its end and its repeats say of keys.
use Rattle.std.proofs.Common.{◌≡◌, ◌≢◌, ◌⊎◌, ◌+◌, ◌*◌, ◌≤◌, ℕ, zero, suc, Bool, true, false, cond, List, [], ◌∷◌, ◌++◌, Option, Some, None, option_and_then, unwrap_or, refl, ap, sym, ◌∙◌, subst, inl, inr, arith}
use Rattle.std.specs.List.{Contains}
use Rattle.std.specs.Str.{bytes_eq}
use Rattle.std.proofs.lemmas.Bool.{cases_Bool, cases_lt, false≢true}
use Rattle.std.proofs.lemmas.List.Elements.{Contains-append_left, Contains-append_right}
use Rattle.std.proofs.lemmas.Option.{none-some, same_Some, option_and_then_some}
use Rattle.icu_locale_core.specs.Subtag.{und}
use Rattle.icu_locale_core.specs.declared.langid.LanguageIdentifier.{LanguageIdentifier}
use Rattle.icu_locale_core.specs.laws.Identifiers.{same_parts, identifiers_decide}
use Rattle.icu_locale_runs.specs.Run.{at, EndsAt, IsRepeat, IsUniverse, HasDistinct}
use Rattle.icu_locale_runs.specs.laws.Counts.{stays_within}
use Rattle.icu_locale_runs.specs.laws.Lists.{some_or, Contains-flat_map}
use Rattle.icu_locale_runs.specs.laws.Runs.{end_is_unique, end_is_kept, ends_with_no_repeat, EndsOrRepeats-universe}
use Rattle.icu_locale.specs.Kinds.{next}
use Rattle.icu_locale.specs.LikelySubtags.{LikelySubtags, Triple, known_subtag, bare_locale, keys, first_found, filled_from, subtags_of, with_locale, maximal}
use Rattle.icu_locale.specs.LikelySubtags.{unknown_script, unknown_region}
use Rattle.icu_locale.specs.LikelyTable.{likely}
use Rattle.icu_locale.specs.TableKeys.{table_keys}
use Rattle.icu_locale.specs.laws.Locales.{known_subtag-cases}
use Rattle.icu_locale.specs.Minimal.{IsMinimalForm}
use Rattle.icu_locale.specs.declared.expander.Favor.TheVariants.{RegionFirst}
use Rattle.icu_locale.specs.declared.expander.LocaleExpander.{LocaleExpander}
use Rattle.icu_locale.specs.declared.expander.looks.LikelyKey.{LikelyKey}
use Rattle.icu_locale.specs.declared.canonicalizer.CanonicalizeError.{CanonicalizeError}
use Rattle.icu_locale.specs.declared.canonicalizer.CanonicalizeError.TheVariants.{Memory, NoFixedPoint, NoSubdivisionFixedPoint}
use Rattle.icu_locale.specs.declared.canonicalizer.rules.Rules.{Rules}
use Rattle.icu_locale_key.specs.Keys.{IsKey}
use Rattle.icu_locale_key.specs.Stable.{Follows, Leads, IsStableKey, IsStuck, ComesRound, IsStableKeyRefusal, CountsKeys}
use Rattle.icu_locale_key.specs.inner.Universe.{texts_of, rule_texts, triple_texts, table_texts, identifiers_of, key_universe}
use Rattle.icu_locale_key.specs.inner.KeyRun.{canonical_form, minimal_form, other_than, step_from, key_step, IsRepeatOf}
use Rattle.icu_locale_key.proofs.Members.{IsIn, IsIn-none, IsIn-some, IsOf, IsOf-texts, HasAll, has_identifier, is_identifier}
use Rattle.icu_locale_key.proofs.Turns.{IsOf-script, IsOf-region}
use Rattle.icu_locale_key.proofs.Ends.{stays_among, canonical_some, canonical_ends, canonical_none, ends_or_repeats, same_identifier}
use Rattle.icu_locale_key.proofs.MinimalForms.{minimal_form_is}

-- ---- one step

other_cases : (x k z : LanguageIdentifier) (b : Bool) → same_parts k x ≡ b → cond b None (Some k) ≡ Some z → (k ≡ z) × (k ≢ x)
other_cases x k z true e is = absurd (none-some z is)
other_cases x k z false e is = (same_Some k z is, λ same. false≢true (sym e ∙ (identifiers_decide k x).1 same))

none_cases : (x k : LanguageIdentifier) (b : Bool) → same_parts k x ≡ b → cond b None (Some k) ≡ None → k ≡ x
none_cases x k true e is = (identifiers_decide k x).0 e
none_cases x k false e is = absurd (none-some k (sym is))

module _ (likely : LikelySubtags) (rules : Rules) where
  -- an identifier that has a key steps to it, if it is another
  pub step_key : (x k : LanguageIdentifier) → IsKey RegionFirst likely rules x k → key_step likely rules x ≡ other_than x k
  unfolding key_step
  step_key x k is =
      ap (step_from likely x) (canonical_some likely rules x is.canonical is.end)
      ∙ ap (other_than x) (minimal_form_is likely is.canonical k is.minimal)

  pub step_follows : (x k : LanguageIdentifier) → Follows RegionFirst likely rules x k → key_step likely rules x ≡ Some k
  step_follows x k (is, other) =
      step_key x k is ∙ elim (cases_Bool (same_parts k x)) [
        | inl e ↦ absurd (other ((identifiers_decide k x).0 e))
        | inr e ↦ ap (λ b. cond b None (Some k)) e
      ]

  pub step_own : (x : LanguageIdentifier) → IsKey RegionFirst likely rules x x → key_step likely rules x ≡ None
  step_own x is = step_key x x is ∙ ap (λ b. cond b None (Some x)) ((identifiers_decide x x).1 refl)

  -- an identifier that has none steps to itself
  pub step_stuck : (x z : LanguageIdentifier) → IsRepeat (next likely rules) x z → key_step likely rules x ≡ Some x
  unfolding key_step
  step_stuck x z repeats = ap (step_from likely x) (canonical_none likely rules x z repeats)

  pub ends_not_stuck : (x k z : LanguageIdentifier) → IsKey RegionFirst likely rules x k → IsRepeat (next likely rules) x z → ⊥
  ends_not_stuck x k z is repeats = ends_with_no_repeat (next likely rules) x is.canonical z is.end repeats.again

  module _ (form : (c : LanguageIdentifier) → (k : LanguageIdentifier) × IsMinimalForm RegionFirst likely c k) where
    key_or_repeat : (x : LanguageIdentifier) → ((k : LanguageIdentifier) × IsKey RegionFirst likely rules x k)
        ⊎ ((z : LanguageIdentifier) × IsRepeat (next likely rules) x z)
    key_or_repeat x =
        elim (ends_or_repeats likely rules x) [
          | inl (c, ends) ↦ let k = form c in inl (k.0, record { canonical = c; end = ends; minimal = k.1 })
          | inr repeats ↦ inr repeats
        ]

    own_from_step : (x : LanguageIdentifier) → key_step likely rules x ≡ None → IsKey RegionFirst likely rules x x
    own_from_step x none =
        elim (key_or_repeat x) [
          | inl (k, is) ↦ subst (IsKey RegionFirst likely rules x) (none_cases x k (same_parts k x) refl (sym (step_key x k is) ∙ none)) is
          | inr (z, repeats) ↦ absurd (none-some x (sym none ∙ step_stuck x z repeats))
        ]

    from_step : (x k : LanguageIdentifier) → key_step likely rules x ≡ Some k
        → Follows RegionFirst likely rules x k ⊎ (((z : LanguageIdentifier) × IsRepeat (next likely rules) x z) × (x ≡ k))
    from_step x k goes =
        elim (key_or_repeat x) [
          | inl (l, is) ↦
              let other = other_cases x l k (same_parts l x) refl (sym (step_key x l is) ∙ goes) in
              inl (subst (Follows RegionFirst likely rules x) other.0 (is, other.1))
          | inr (z, repeats) ↦ inr ((z, repeats), same_Some x k (sym (step_stuck x z repeats) ∙ goes))
        ]

    -- ---- along the run

    module _ (x : LanguageIdentifier) where
      pub leads_at : (n : ℕ) (y : LanguageIdentifier) → Leads RegionFirst likely rules n x y → at (key_step likely rules) x n ≡ Some y
      leads_at zero y same = ap Some same
      leads_at (suc n) y (k, before, follows) =
          ap (option_and_then (key_step likely rules)) (leads_at n k before) ∙ step_follows k y follows

      -- at each place is what so many turns lead to, or what fewer do and has no key
      pub at_leads : (n : ℕ) (y : LanguageIdentifier) → at (key_step likely rules) x n ≡ Some y → Leads RegionFirst likely rules n x y
          ⊎ ((i : ℕ) × Leads RegionFirst likely rules i x y × ((z : LanguageIdentifier) × IsRepeat (next likely rules) y z))
      at_leads zero y here = inl (same_Some x y here)
      at_leads (suc n) y here =
          option_and_then_some (key_step likely rules) (at (key_step likely rules) x n) y here (λ w was goes.
          elim (from_step w y goes) [
            | inl follows ↦ elim (at_leads n w was) [
              | inl leads ↦ inl (w, leads, follows)
              | inr (i, leads, (z, repeats)) ↦ absurd (ends_not_stuck w y z follows.0 repeats)
            ]
            | inr ((z, repeats), same) ↦
                let P : LanguageIdentifier → Type 0 = λ v. (z : LanguageIdentifier) × IsRepeat (next likely rules) v z in
                let stuck : P y = subst P same (z, repeats) in
                elim (at_leads n w was) [
                  | inl leads ↦ inr (n, subst (Leads RegionFirst likely rules n x) same leads, stuck)
                  | inr (i, leads, other) ↦ inr (i, subst (Leads RegionFirst likely rules i x) same leads, stuck)
                ]
          ])

      pub comes_to : (n : ℕ) (y : LanguageIdentifier) → at (key_step likely rules) x n ≡ Some y → (i : ℕ) × Leads RegionFirst likely rules i x y
      comes_to n y here = elim (at_leads n y here) [ inl leads ↦ (n, leads) | inr (i, leads, stuck) ↦ (i, leads) ]

      -- what has a key stands where so many turns lead to
      leads_if : (n : ℕ) (y k : LanguageIdentifier) → IsKey RegionFirst likely rules y k → at (key_step likely rules) x n ≡ Some y
          → Leads RegionFirst likely rules n x y
      leads_if n y k is here =
          elim (at_leads n y here) [
            | inl leads ↦ leads
            | inr (i, leads, (z, repeats)) ↦ absurd (ends_not_stuck y k z is repeats)
          ]

      -- the run ends at the key that stays
      pub ends_stable : (y : LanguageIdentifier) → IsStableKey RegionFirst likely rules x y → EndsAt (key_step likely rules) x y
      ends_stable y stable = record { stands = (stable.turns, leads_at stable.turns y stable.comes); last = step_own y stable.own }

      pub stable_ends : (y : LanguageIdentifier) → EndsAt (key_step likely rules) x y → IsStableKey RegionFirst likely rules x y
      stable_ends y ends =
          let comes = comes_to ends.stands.0 y ends.stands.1 in
          record { turns = comes.0; comes = comes.1; own = own_from_step y ends.last }

      -- a repeat that has no key is a key on the way
      pub stuck_at : (y z : LanguageIdentifier) → IsRepeat (key_step likely rules) x y → IsRepeat (next likely rules) y z → IsStuck RegionFirst likely rules x z
      stuck_at y z repeats none =
          let comes = comes_to repeats.place y repeats.here in
          record { key = y; turns = comes.0; comes = comes.1; repeats = none }

      -- one that has a key comes round
      pub round_at : (y k : LanguageIdentifier) → IsRepeat (key_step likely rules) x y → IsKey RegionFirst likely rules y k → ComesRound RegionFirst likely rules x y
      round_at y k repeats is =
          elim (cases_lt repeats.again.0 repeats.place) [
            | inl early ↦ absurd (repeats.first repeats.again.0 y early repeats.again.3 repeats.again)
            | inr late ↦ record {
              place = repeats.place;
              here = leads_if repeats.place y k is repeats.here;
              later = repeats.again.1;
              after = omega (arith, late, repeats.again.2);
              again = leads_if repeats.again.1 y k is repeats.again.4;
              first = λ i j w below before one two. repeats.first i w below (leads_at i w one) (i, j, before, leads_at i w one, leads_at j w two);
            }
          ]

-- ---- among finitely many identifiers

-- the texts have those of each triple of the table
abbrev pub HasTriples : LikelySubtags → List (List ℕ) → Type 0
HasTriples likely ts = (key : LikelyKey) (t : Triple) → likely key ≡ Some t → HasAll ts (triple_texts (Some t))

found_key : (likely : LikelySubtags) (ks : List LikelyKey) (t : Triple) → first_found likely ks ≡ Some t → (key : LikelyKey) × (likely key ≡ Some t)
found_key likely [] t e = absurd (none-some t e)
found_key likely (k ∷ ks) t e = elim (some_or (likely k) (first_found likely ks) t e) [ inl here ↦ (k, here) | inr later ↦ found_key likely ks t later ]

module _ (likely : LikelySubtags) (ts : List (List ℕ)) (has : HasTriples likely ts) where
  known_in : (unknown : List ℕ) (o : Option (List ℕ)) → IsIn ts o → IsIn ts (known_subtag unknown o)
  known_in unknown None here = here
  known_in unknown (Some t) here =
      elim (known_subtag-cases unknown t) [
        | inl none ↦ subst (IsIn ts) (sym none) (IsIn-none ts)
        | inr same ↦ subst (IsIn ts) (sym same) here
      ]

  filled_in : (o : Option (List ℕ)) (t : List ℕ) → IsIn ts o → Contains ts t → IsIn ts (Some (unwrap_or o t))
  filled_in None t of_o here = IsIn-some ts t here
  filled_in (Some u) t of_o here = of_o

  language_in : (test : Bool) (l t : List ℕ) → Contains ts l → Contains ts t → Contains ts (cond test t l)
  language_in true l t of_l of_t = of_t
  language_in false l t of_l of_t = of_l

  filled_of : (c : LanguageIdentifier) → IsOf ts c → (o : Option Triple) → ((t : Triple) → o ≡ Some t → HasAll ts (triple_texts (Some t)))
      → IsOf ts (with_locale c (filled_from (bare_locale (subtags_of c)) o))
  filled_of c of_c None texts = record {
    language = of_c.language;
    script = known_in unknown_script c.script of_c.script;
    region = known_in unknown_region c.region of_c.region;
    variants = of_c.variants;
  }
  filled_of c of_c (Some t) texts =
      let inside = texts t refl in
      record {
        language = language_in (bytes_eq c.language und) c.language t.0 of_c.language (inside t.0 (0, omega arith, refl));
        script = filled_in (known_subtag unknown_script c.script) t.1 (known_in unknown_script c.script of_c.script) (inside t.1 (1, omega arith, refl));
        region = filled_in (known_subtag unknown_region c.region) t.2 (known_in unknown_region c.region of_c.region) (inside t.2 (2, omega arith, refl));
        variants = of_c.variants;
      }

  maximal_of : (c : LanguageIdentifier) → IsOf ts c → IsOf ts (maximal likely c)
  maximal_of c of_c =
      let ks = keys (bare_locale (subtags_of c)) in
      filled_of c of_c (first_found likely ks) (λ t found. let key = found_key likely ks t found in has key.0 t key.1)

  first_in : (m t z : LanguageIdentifier) (b : Bool) → IsOf ts t → IsOf ts z → IsOf ts (cond b t z)
  first_in m t z true of_t of_z = of_t
  first_in m t z false of_t of_z = of_z

  minimal_of : (c : LanguageIdentifier) → IsOf ts c → IsOf ts (minimal_form likely c)
  unfolding minimal_form
  minimal_of c of_c =
      let m : LanguageIdentifier = maximal likely c in
      let of_m = maximal_of c of_c in
      let no_script = IsOf-script ts m None of_m (IsIn-none ts) in
      first_in m _ _ (same_parts (maximal likely (record m { script = None; region = None })) m) (IsOf-region ts (record m { script = None }) None no_script (IsIn-none ts))
      (first_in m _ _ (same_parts (maximal likely (record m { script = None })) m) no_script
      (first_in m _ _ (same_parts (maximal likely (record m { region = None })) m) (IsOf-region ts m None of_m (IsIn-none ts)) of_m))

  step_from_in : (rules : Rules) → HasAll ts (rule_texts rules) → (x z : LanguageIdentifier) → IsOf ts x → (o : Option LanguageIdentifier)
      → canonical_form likely rules x ≡ o → step_from likely x o ≡ Some z → IsOf ts z
  step_from_in rules texts x z of_x None e goes = subst (IsOf ts) (same_Some x z goes) of_x
  step_from_in rules texts x z of_x (Some c) e goes =
      let ends = canonical_ends likely rules x c e in
      let of_c = is_identifier ts c (stays_within (next likely rules) x (identifiers_of ts) (stays_among likely rules ts texts x of_x) ends.stands.0 c ends.stands.1) in
      let is = other_cases x (minimal_form likely c) z (same_parts (minimal_form likely c) x) refl goes in
      subst (IsOf ts) is.0 (minimal_of c of_c)

  step_in : (rules : Rules) → HasAll ts (rule_texts rules) → (x z : LanguageIdentifier) → IsOf ts x → key_step likely rules x ≡ Some z → IsOf ts z
  unfolding key_step
  step_in rules texts x z of_x goes = step_from_in rules texts x z of_x (canonical_form likely rules x) refl goes

-- the universe of x has x, and what follows each of its members
pub keys_stay_among : (e : LocaleExpander) (rules : Rules) → ((k : LikelyKey) (t : Triple) → likely e k ≡ Some t → Contains (table_keys e) k)
    → (x : LanguageIdentifier) → IsUniverse (key_step (likely e) rules) x (key_universe e rules x)
keys_stay_among e rules finite x =
    let table = table_texts (likely e) (table_keys e) in
    let ts = texts_of x ++ (rule_texts rules ++ table) in
    let later : HasAll ts (rule_texts rules ++ table) = λ t here. Contains-append_right (texts_of x) (rule_texts rules ++ table) t here in
    let of_rules : HasAll ts (rule_texts rules) = λ t here. later t (Contains-append_left (rule_texts rules) table t here) in
    let of_table : HasTriples (likely e) ts = λ key t is u here. later u (Contains-append_right (rule_texts rules) table u
    (Contains-flat_map (λ k. triple_texts (likely e k)) (table_keys e) key u (finite key t is) (subst (λ o. Contains (triple_texts o) u) (sym is) here))) in
    record {
      has_start = has_identifier ts x (IsOf-texts ts x (λ t here. Contains-append_left (texts_of x) (rule_texts rules ++ table) t here));
      leads = λ y z here goes. has_identifier ts z (step_in (likely e) ts of_table rules of_rules y z (is_identifier ts y here) goes);
    }

-- ---- the whole run

module _ (likely : LikelySubtags) (rules : Rules) (form : (c : LanguageIdentifier) → (k : LanguageIdentifier) × IsMinimalForm RegionFirst likely c k) where
  -- why the run has no end
  pub refusal_of : (x y : LanguageIdentifier) (e : CanonicalizeError) → IsRepeat (key_step likely rules) x y → IsRepeatOf likely rules y e
      → IsStableKeyRefusal RegionFirst likely rules x e
  refusal_of x y Memory repeats why = tt
  refusal_of x y (NoFixedPoint z) repeats (inl none) = inl (stuck_at likely rules form x y z repeats none)
  refusal_of x y (NoFixedPoint z) repeats (inr (same, (k, is))) =
      inr (subst (ComesRound RegionFirst likely rules x) (sym same) (round_at likely rules form x y k repeats is))
  refusal_of x y (NoSubdivisionFixedPoint v) repeats why = absurd why

  pub stable_is_one : (x k l : LanguageIdentifier) → IsStableKey RegionFirst likely rules x k → IsStableKey RegionFirst likely rules x l → k ≡ l
  stable_is_one x k l one other =
      end_is_unique (key_step likely rules) x k l (ends_stable likely rules form x k one) (ends_stable likely rules form x l other)

  stable_from : (x k l : LanguageIdentifier) → EndsAt (key_step likely rules) x l → IsKey RegionFirst likely rules x k → (b : Bool) → same_parts k x ≡ b
      → EndsAt (key_step likely rules) k l
  stable_from x k l ends is true e = subst (λ w. EndsAt (key_step likely rules) w l) (sym ((identifiers_decide k x).0 e)) ends
  stable_from x k l ends is false e =
      let other : k ≢ x = λ same. false≢true (sym e ∙ (identifiers_decide k x).1 same) in
      (end_is_kept (key_step likely rules) x l ends).1 k (1, step_follows likely rules x k (is, other))

  pub stable_is_kept : (x k l : LanguageIdentifier) → IsStableKey RegionFirst likely rules x l → IsKey RegionFirst likely rules x k
      → IsStableKey RegionFirst likely rules k l
  stable_is_kept x k l stable is =
      stable_ends likely rules form k l (stable_from x k l (ends_stable likely rules form x l stable) is (same_parts k x) refl)

  -- identifiers with one key have one that stays
  pub stable_of_equal : (x y j k l : LanguageIdentifier) → IsKey RegionFirst likely rules x j → IsKey RegionFirst likely rules y j
      → IsStableKey RegionFirst likely rules x k → IsStableKey RegionFirst likely rules y l → k ≡ l
  stable_of_equal x y j k l of_x of_y one other = stable_is_one j k l (stable_is_kept x j k one of_x) (stable_is_kept y j l other of_y)

-- the different states of the run are those that turns lead to
pub keys_counted : (likely : LikelySubtags) (rules : Rules) → ((c : LanguageIdentifier) → (k : LanguageIdentifier) × IsMinimalForm RegionFirst likely c k)
    → (x : LanguageIdentifier) (before after n : ℕ) → HasDistinct (key_step likely rules) x n → before ≤ after → after ≤ before + 6 * n + 1
    → CountsKeys RegionFirst likely rules x before after
keys_counted likely rules form x before after n (states, has, long) forward most = (
  states,
  record {
    each = λ i y leads. has.each y (i, leads_at likely rules form x i y leads);
    no_other = λ y here. let stands = has.no_other y here in comes_to likely rules form x stands.0 y stands.1;
    once = has.once;
  },
  forward,
  omega (arith, long, most),
)

-- each identifier has a key that stays, or its keys come to one that has none, or come round
pub stable_or_not : (e : LocaleExpander) (rules : Rules) → ((k : LikelyKey) (t : Triple) → likely e k ≡ Some t → Contains (table_keys e) k)
    → ((c : LanguageIdentifier) → (k : LanguageIdentifier) × IsMinimalForm RegionFirst (likely e) c k) → (x : LanguageIdentifier)
    → ((k : LanguageIdentifier) × IsStableKey RegionFirst (likely e) rules x k)
    ⊎ ((z : LanguageIdentifier) × (IsStuck RegionFirst (likely e) rules x z ⊎ ComesRound RegionFirst (likely e) rules x z))
stable_or_not e rules finite form x =
    elim (EndsOrRepeats-universe (key_step (likely e) rules) x same_identifier (key_universe e rules x) (keys_stay_among e rules finite x)) [
      | inl (k, ends) ↦ inl (k, stable_ends (likely e) rules form x k ends)
      | inr (y, repeats) ↦ elim (key_or_repeat (likely e) rules form y) [
        | inl (k, is) ↦ inr (y, inr (round_at (likely e) rules form x y k repeats is))
        | inr (z, none) ↦ inr (z, inl (stuck_at (likely e) rules form x y z repeats none))
      ]
    ]
