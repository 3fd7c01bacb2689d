-- What a turn makes of an identifier has no texts but its own and those that rules put in.
use Rattle.std.proofs.Common.{◌≡◌, ◌==◌, ℕ, Bool, true, false, cond, not, ◌&&◌, ◌||◌, List, [], ◌∷◌, length, map, Option, Some, None, is_some, inl, inr, unwrap_or}
use Rattle.std.proofs.Common.{codes, refl, sym, ◌∙◌, subst, arith, Vec, Global}
use Rattle.std.specs.Str.{bytes_eq}
use Rattle.std.specs.List.{Contains, find, list_any, flat_map}
use Rattle.std.specs.Option.{option_and_then, option_or}
use Rattle.std.specs.Ordering.{eq_by_cmp}
use Rattle.std.proofs.lemmas.Bool.{false≢true, or_cases, and_parts}
use Rattle.std.proofs.lemmas.Map.Views.{Contains-from_lookup}
use Rattle.std.proofs.lemmas.Option.{none-some, same_Some, option_and_then_some}
use Rattle.std.proofs.lemmas.Slice.Eq.{bytes_eq-Decides}
use Rattle.icu_locale_core.specs.Subtag.{is_alphabetic}
use Rattle.icu_locale_core.specs.TextSet.{text_cmp, empty, len, contains, rising, image}
use Rattle.icu_locale_core.specs.declared.langid.LanguageIdentifier.{LanguageIdentifier}
use Rattle.icu_locale_core.specs.laws.TextSets.{same_from_tied, contains-rising, contains-from_list, contains-replaced, contains-empty}
use Rattle.icu_locale_core.specs.laws.TextSets.{Contains-is_among, is_among-Contains}
use Rattle.icu_locale_core.specs.Maps.{value_at}
use Rattle.icu_locale.specs.LikelySubtags.{LikelySubtags}
use Rattle.icu_locale.specs.Rules.{is_known, matches, part, replaced, of_language}
use Rattle.icu_locale.specs.Kinds.{rules_for, by_rule, sign_language, by_sign_region, language_alias, by_language_alias, by_script, region_alias}
use Rattle.icu_locale.specs.Kinds.{by_region, chosen, likely_region, complex_region, by_complex_region, variant_alias, by_variant, next}
use Rattle.icu_locale.specs.declared.canonicalizer.rules.Rule.{Rule}
use Rattle.icu_locale.specs.declared.canonicalizer.rules.Rules.{Rules}
use Rattle.icu_locale_runs.specs.laws.Lists.{some_map, some_or, Contains-here, Contains-there, Contains-map, Contains-from_map, Contains-flat_map, Contains-find}
use Rattle.icu_locale_key.specs.inner.Universe.{texts_of, texts_by_kind, rule_texts}
use Rattle.icu_locale_key.proofs.Members.{IsIn, IsIn-none, IsIn-some, IsOf, IsOf-texts, HasAll}

has_row : {V : Type 0} (rows : List (List ℕ × V)) (k : List ℕ) (v : V) → value_at text_cmp rows k ≡ Some v → Contains rows (k, v)
has_row rows k v found = Contains-from_lookup {eq = eq_by_cmp text_cmp} same_from_tied k v rows found

has_value : (rows : List (List ℕ × List ℕ)) (k v : List ℕ) → value_at text_cmp rows k ≡ Some v → Contains (map (λ row. row.1) rows) v
has_value rows k v found = Contains-map (λ row. row.1) rows (k, v) (has_row rows k v found)

-- the texts have what rules put in
pub record HasRules (rules : Rules) (ts : List (List ℕ)) : Type 0 where
  rule : (r : Rule) → Contains rules.language r → IsOf ts r.replacement
  variant_rule : (r : Rule) → Contains rules.language_variants r → IsOf ts r.replacement
  sign : (k l : List ℕ) → value_at text_cmp rules.aliases.sgn_region k ≡ Some l → Contains ts l
  len2 : (k : List ℕ) (b : LanguageIdentifier) → value_at text_cmp rules.language_len2 k ≡ Some b → IsOf ts b
  len3 : (k : List ℕ) (b : LanguageIdentifier) → value_at text_cmp rules.language_len3 k ≡ Some b → IsOf ts b
  script : (k s : List ℕ) → value_at text_cmp rules.aliases.script k ≡ Some s → Contains ts s
  alpha : (k r : List ℕ) → value_at text_cmp rules.aliases.region_alpha k ≡ Some r → Contains ts r
  num : (k r : List ℕ) → value_at text_cmp rules.aliases.region_num k ≡ Some r → Contains ts r
  complex : (r : List ℕ) (row : List ℕ × Vec (List ℕ) Global) → Contains rules.aliases.complex_region row → Contains row.1.items r → Contains ts r
  variant : (k w : List ℕ) → value_at text_cmp rules.aliases.variant k ≡ Some w → Contains ts w

module _ (rules : Rules) (ts : List (List ℕ)) (has : HasAll ts (rule_texts rules)) where
  -- a text of one kind is one of all
  of_kind : (us : List (List ℕ)) → Contains (texts_by_kind rules) us → HasAll ts us
  unfolding rule_texts
  of_kind us kind t here = has t (Contains-flat_map (λ vs. vs) (texts_by_kind rules) us t kind here)

  replacement_of : {T : Type 0} (f : T → LanguageIdentifier) (rows : List T) → Contains (texts_by_kind rules) (flat_map (λ row. texts_of (f row)) rows)
      → (row : T) → Contains rows row → IsOf ts (f row)
  replacement_of f rows kind row here =
      IsOf-texts ts (f row) (λ t inside. of_kind (flat_map (λ w. texts_of (f w)) rows) kind t (Contains-flat_map (λ w. texts_of (f w)) rows row t here inside))

  pub HasRules-from : HasRules rules ts
  HasRules-from = record {
    rule = replacement_of (λ r. r.replacement) rules.language (0, omega arith, refl);
    variant_rule = replacement_of (λ r. r.replacement) rules.language_variants (1, omega arith, refl);
    sign = λ k l found. of_kind (map (λ row. row.1) rules.aliases.sgn_region) (2, omega arith, refl) l (has_value rules.aliases.sgn_region k l found);
    len2 = λ k b found. replacement_of (λ row. row.1) rules.language_len2 (3, omega arith, refl) (k, b) (has_row rules.language_len2 k b found);
    len3 = λ k b found. replacement_of (λ row. row.1) rules.language_len3 (4, omega arith, refl) (k, b) (has_row rules.language_len3 k b found);
    script = λ k s found. of_kind (map (λ row. row.1) rules.aliases.script) (5, omega arith, refl) s (has_value rules.aliases.script k s found);
    alpha = λ k r found. of_kind (map (λ row. row.1) rules.aliases.region_alpha) (6, omega arith, refl) r (has_value rules.aliases.region_alpha k r found);
    num = λ k r found. of_kind (map (λ row. row.1) rules.aliases.region_num) (7, omega arith, refl) r (has_value rules.aliases.region_num k r found);
    complex = λ r row here inside. of_kind (flat_map (λ w. w.1.items) rules.aliases.complex_region) (8, omega arith, refl) r
        (Contains-flat_map (λ w. w.1.items) rules.aliases.complex_region row r here inside);
    variant = λ k w found. of_kind (map (λ row. row.1) rules.aliases.variant) (9, omega arith, refl) w (has_value rules.aliases.variant k w found);
  }

-- ---- what one replacement makes

any_text : (l : List ℕ) (rs : List (List ℕ)) → list_any (λ s. bytes_eq s l) rs ≡ true → Contains rs l
any_text l [] e = absurd (false≢true e)
any_text l (r ∷ rs) e =
    elim (or_cases (bytes_eq r l) (list_any (λ s. bytes_eq s l) rs) e) [
      | inl here ↦ subst (λ t. Contains (r ∷ rs) t) ((bytes_eq-Decides r l).0 here) (Contains-here r rs)
      | inr later ↦ Contains-there r l rs (any_text l rs later)
    ]

chosen_test : (l r z : List ℕ) (rs : List (List ℕ)) (test : Bool) → list_any (λ s. bytes_eq s l) (r ∷ rs) ≡ test
    → cond test (Some l) (Some r) ≡ Some z → Contains (r ∷ rs) z
chosen_test l r z rs true any e = subst (Contains (r ∷ rs)) (same_Some l z e) (any_text l (r ∷ rs) any)
chosen_test l r z rs false any e = subst (Contains (r ∷ rs)) (same_Some r z e) (Contains-here r rs)

-- the chosen region is one of the list
chosen_among : (likely : Option (List ℕ)) (rs : List (List ℕ)) (z : List ℕ) → chosen likely rs ≡ Some z → Contains rs z
chosen_among likely [] z e = absurd (none-some z e)
chosen_among None (r ∷ rs) z e = subst (Contains (r ∷ rs)) (same_Some r z e) (Contains-here r rs)
chosen_among (Some l) (r ∷ rs) z e = chosen_test l r z rs (list_any (λ s. bytes_eq s l) (r ∷ rs)) refl e

guarded : {T : Type 0} (test : Bool) (o : Option T) (x : T) → cond test o None ≡ Some x → o ≡ Some x
guarded true o x e = e
guarded false o x e = absurd (none-some x e)

module _ (ts : List (List ℕ)) where
  either_text : (test : Bool) (l m : List ℕ) → Contains ts l → Contains ts m → Contains ts (cond test l m)
  either_text true l m of_l of_m = of_l
  either_text false l m of_l of_m = of_m

  part_in : (s a b : Option (List ℕ)) → IsIn ts s → IsIn ts b → IsIn ts (part s a b)
  part_in s (Some t) b of_s of_b = of_b
  part_in (Some u) None b of_s of_b = of_s
  part_in None None b of_s of_b = of_b

  IsOf-replaced : (s a b : LanguageIdentifier) → IsOf ts s → IsOf ts b → IsOf ts (replaced s a b)
  IsOf-replaced s a b of_s of_b = record {
    language = either_text (is_known a.language || (not (is_known s.language) && is_known b.language)) b.language s.language of_b.language of_s.language;
    script = part_in s.script a.script b.script of_s.script of_b.script;
    region = part_in s.region a.region b.region of_s.region of_b.region;
    variants = λ q here.
        elim (or_cases (not (contains a.variants q) && contains s.variants q) (contains b.variants q)
        (sym (contains-replaced s.variants a.variants b.variants q) ∙ here)) [
          | inl old ↦ of_s.variants q (and_parts (not (contains a.variants q)) (contains s.variants q) old).1
          | inr added ↦ of_b.variants q added
        ];
  }

  none_in : (q : List ℕ) → contains empty q ≡ true → Contains ts q
  none_in q here = absurd (false≢true (sym (contains-empty q) ∙ here))

  IsOf-language : (l : List ℕ) → Contains ts l → IsOf ts (of_language l)
  IsOf-language l here = record { language = here; script = IsIn-none ts; region = IsIn-none ts; variants = none_in }

  IsOf-bare : (b : LanguageIdentifier) → IsOf ts b → IsOf ts (record b { variants = empty })
  IsOf-bare b of_b = record { language = of_b.language; script = of_b.script; region = of_b.region; variants = none_in }

  pub IsOf-script : (y : LanguageIdentifier) (s : Option (List ℕ)) → IsOf ts y → IsIn ts s → IsOf ts (record y { script = s })
  IsOf-script y s of_y here = record { language = of_y.language; script = here; region = of_y.region; variants = of_y.variants }

  pub IsOf-region : (y : LanguageIdentifier) (r : Option (List ℕ)) → IsOf ts y → IsIn ts r → IsOf ts (record y { region = r })
  IsOf-region y r of_y here = record { language = of_y.language; script = of_y.script; region = here; variants = of_y.variants }

  image_variant : (alias : List ℕ → Option (List ℕ)) (v q : List ℕ) (o : Option (List ℕ)) → Contains ts v
      → ((w : List ℕ) → alias v ≡ Some w → Contains ts w) → alias v ≡ o → unwrap_or o v ≡ q → Contains ts q
  image_variant alias v q (Some w) here aliases is same = subst (Contains ts) same (aliases w is)
  image_variant alias v q None here aliases is same = subst (Contains ts) same here

  IsOf-image : (alias : List ℕ → Option (List ℕ)) (y : LanguageIdentifier) → IsOf ts y → ((v w : List ℕ) → alias v ≡ Some w → Contains ts w)
      → IsOf ts (record y { variants = image (λ v. unwrap_or (alias v) v) y.variants })
  IsOf-image alias y of_y aliases = record {
    language = of_y.language;
    script = of_y.script;
    region = of_y.region;
    variants = λ q here.
        let image_of : List ℕ → List ℕ = λ v. unwrap_or (alias v) v in
        let among = Contains-is_among q (map image_of (rising y.variants)) (sym (contains-from_list (map image_of (rising y.variants)) q) ∙ here) in
        let from = Contains-from_map image_of (rising y.variants) q among in
        let old = of_y.variants from.0 (contains-rising y.variants from.0 ∙ is_among-Contains from.0 (rising y.variants) from.1) in
        image_variant alias from.0 q (alias from.0) old (aliases from.0) refl from.2;
  }

-- ---- one turn

module _ (likely : LikelySubtags) (rules : Rules) (ts : List (List ℕ)) (has : HasRules rules ts) (y z : LanguageIdentifier) (of_y : IsOf ts y) where
  rule_in : (test : Bool) (r : Rule) → Contains (cond test rules.language rules.language_variants) r → IsOf ts r.replacement
  rule_in true r here = has.rule r here
  rule_in false r here = has.variant_rule r here

  of_rule : by_rule rules y ≡ Some z → IsOf ts z
  of_rule e =
      let found = some_map (λ r. replaced y r.source r.replacement) (find (λ r. matches y r.source) (rules_for rules y)) z e in
      let here = rule_in (len y.variants == 0) found.0 (Contains-find (λ r. matches y r.source) (rules_for rules y) found.0 found.1) in
      subst (IsOf ts) found.2 (IsOf-replaced ts y found.0.source found.0.replacement of_y here)

  of_sign_region : by_sign_region rules y ≡ Some z → IsOf ts z
  of_sign_region e =
      let source : LanguageIdentifier = record { language = codes "sgn"; script = None; region = y.region; variants = empty } in
      let found = some_map (λ l. replaced y source (of_language l)) (sign_language rules y) z e in
      let looked = guarded (bytes_eq y.language (codes "sgn")) (option_and_then (value_at text_cmp rules.aliases.sgn_region) y.region) found.0 found.1 in
      let here = option_and_then_some (value_at text_cmp rules.aliases.sgn_region) y.region found.0 looked (λ k is at. has.sign k found.0 at) in
      subst (IsOf ts) found.2 (IsOf-replaced ts y source (of_language found.0) of_y (IsOf-language ts found.0 here))

  alias_in : (test : Bool) (k : List ℕ) (b : LanguageIdentifier) → value_at text_cmp (cond test rules.language_len2 rules.language_len3) k ≡ Some b → IsOf ts b
  alias_in true k b e = has.len2 k b e
  alias_in false k b e = has.len3 k b e

  of_language_alias : by_language_alias rules y ≡ Some z → IsOf ts z
  of_language_alias e =
      let found = some_map (λ b. replaced y (of_language y.language) (record b { variants = empty })) (language_alias rules y.language) z e in
      let looked = guarded (is_known y.language) (value_at text_cmp (cond
      (length y.language == 2) rules.language_len2 rules.language_len3) y.language) found.0 found.1 in
      subst (IsOf ts) found.2 (IsOf-replaced ts y (of_language y.language) (record found.0 { variants = empty }) of_y
      (IsOf-bare ts found.0 (alias_in (length y.language == 2) y.language found.0 looked)))

  of_script : by_script rules y ≡ Some z → IsOf ts z
  of_script e =
      let found = some_map (λ s. record y { script = Some s }) (option_and_then (value_at text_cmp rules.aliases.script) y.script) z e in
      let here = option_and_then_some (value_at text_cmp rules.aliases.script) y.script found.0 found.1 (λ k is at. has.script k found.0 at) in
      subst (IsOf ts) found.2 (IsOf-script ts y (Some found.0) of_y (IsIn-some ts found.0 here))

  region_in : (test : Bool) (k r : List ℕ) → value_at text_cmp (cond test rules.aliases.region_alpha rules.aliases.region_num) k ≡ Some r → Contains ts r
  region_in true k r e = has.alpha k r e
  region_in false k r e = has.num k r e

  of_region : by_region rules y ≡ Some z → IsOf ts z
  of_region e =
      let found = some_map (λ r. record y { region = Some r }) (option_and_then (region_alias rules) y.region) z e in
      let here = option_and_then_some (region_alias rules) y.region found.0 found.1 (λ k is at. region_in (is_alphabetic k) k found.0 at) in
      subst (IsOf ts) found.2 (IsOf-region ts y (Some found.0) of_y (IsIn-some ts found.0 here))

  of_complex_region : by_complex_region likely rules y ≡ Some z → IsOf ts z
  of_complex_region e =
      let found = some_map (λ r. record y { region = Some r }) (complex_region likely rules y) z e in
      let here : Contains ts found.0 = option_and_then_some (λ (rs : Vec (List ℕ) Global). chosen
      (likely_region likely y) rs.items) (option_and_then (value_at text_cmp rules.aliases.complex_region) y.region) found.0 found.1 (λ rs looked chose.
      option_and_then_some (value_at text_cmp rules.aliases.complex_region) y.region rs looked (λ k is at.
      has.complex found.0 (k, rs) (has_row rules.aliases.complex_region k rs at) (chosen_among (likely_region likely y) rs.items found.0 chose))) in
      subst (IsOf ts) found.2 (IsOf-region ts y (Some found.0) of_y (IsIn-some ts found.0 here))

  of_variant : by_variant rules y ≡ Some z → IsOf ts z
  of_variant e =
      let new : LanguageIdentifier = record y { variants = image (λ v. unwrap_or (variant_alias rules v) v) y.variants } in
      let is = guarded (list_any (λ v. is_some (variant_alias rules v)) (rising y.variants)) (Some new) z e in
      subst (IsOf ts) (same_Some new z is) (IsOf-image ts (variant_alias rules) y of_y (λ v w at. has.variant v w at))

  pub turn_in : next likely rules y ≡ Some z → IsOf ts z
  turn_in e =
      by (by_rule rules y) _ e of_rule (λ e.
      by (by_sign_region rules y) _ e of_sign_region (λ e.
      by (by_language_alias rules y) _ e of_language_alias (λ e.
      by (by_script rules y) _ e of_script (λ e.
      by (by_region rules y) _ e of_region (λ e.
      by (by_complex_region likely rules y) (by_variant rules y) e of_complex_region of_variant)))))
    where
      by : (a b : Option LanguageIdentifier) → option_or a b ≡ Some z → (a ≡ Some z → IsOf ts z) → (b ≡ Some z → IsOf ts z) → IsOf ts z
      by a b e first later = elim (some_or a b z e) [ inl here ↦ first here | inr there ↦ later there ]
