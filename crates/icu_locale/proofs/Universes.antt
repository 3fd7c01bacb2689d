-- A run stays among the identifiers of its universe.
use Rattle.std.proofs.Common.{◌≡◌, ◌==◌, ℕ, Bool, true, false, cond, List, [], ◌∷◌, length, map, Option, Some, None, is_some, inl, inr, unwrap_or}
use Rattle.std.proofs.Common.{codes, refl, subst, arith, Vec, Global}
use Rattle.std.specs.Str.{bytes_eq}
use Rattle.std.specs.List.{Contains, find, list_any, flat_map}
use Rattle.std.specs.Option.{option_and_then, option_or}
use Rattle.std.specs.Ordering.{eq_by_cmp}
use Rattle.std.proofs.lemmas.Bool.{false≢true, or_cases}
use Rattle.std.proofs.lemmas.Map.Views.{Contains-from_lookup}
use Rattle.std.proofs.lemmas.Option.{none-some, same_Some, option_and_then_some}
use Rattle.icu_locale_core.specs.Subtag.{is_alphabetic}
use Rattle.icu_locale_core.specs.TextSet.{text_cmp, empty, len, rising, image}
use Rattle.icu_locale_core.specs.declared.langid.LanguageIdentifier.{LanguageIdentifier}
use Rattle.icu_locale_core.specs.laws.TextSets.{same_from_tied}
use Rattle.icu_locale_core.specs.Maps.{value_at}
use Rattle.icu_locale.specs.LikelySubtags.{LikelySubtags}
use Rattle.icu_locale.specs.Rules.{is_known, matches, replaced, of_language}
use Rattle.icu_locale.specs.Kinds.{rules_for, by_rule, sign_language, by_sign_region, language_alias, by_language_alias, by_script, region_alias}
use Rattle.icu_locale.specs.Kinds.{by_region, chosen, likely_region, complex_region, by_complex_region, variant_alias, by_variant, next, next_of}
use Rattle.icu_locale_runs.specs.Run.{IsUniverse}
use Rattle.icu_locale.specs.inner.Universe.{parts_by_kind, parts, universe, of_script, of_region, of_variant}
use Rattle.icu_locale.specs.declared.canonicalizer.rules.Rule.{Rule}
use Rattle.icu_locale.specs.declared.canonicalizer.rules.Rules.{Rules}
use Rattle.std.proofs.lemmas.Slice.Eq.{bytes_eq-Decides}
use Rattle.icu_locale_runs.specs.laws.Lists.{some_map, some_or, Contains-here, Contains-there, Contains-map, Contains-flat_map, Contains-find}
use Rattle.icu_locale.proofs.Parts.{IsMadeOf, IsMadeOf-itself, made_of-has, IsMadeOf-from, IsMadeOf-replaced, IsMadeOf-bare, IsMadeOf-script}
use Rattle.icu_locale.proofs.Parts.{IsMadeOf-region, IsMadeOf-image}
use Rattle.icu_locale.proofs.WithoutVariants.{guarded}

pub has_row : {V : Type 0} (rows : List (List ℕ × V)) (k : List ℕ) (v : V) → value_at text_cmp rows k ≡ Some v → Contains rows (k, v)
has_row rows k v found = Contains-from_lookup {eq = eq_by_cmp text_cmp} same_from_tied k v rows found

has_value : {V W : Type 0} (f : V → W) (rows : List (List ℕ × V)) (k : List ℕ) (v : V) → value_at text_cmp rows k ≡ Some v
    → Contains (map (λ row. f row.1) rows) (f v)
has_value f rows k v found = Contains-map (λ row. f row.1) rows (k, v) (has_row rows k v found)

-- ps has what the rules put in the place of parts
record HasParts (rules : Rules) (ps : List LanguageIdentifier) : Type 0 where
  rule : (r : Rule) → Contains rules.language r → Contains ps r.replacement
  variant_rule : (r : Rule) → Contains rules.language_variants r → Contains ps r.replacement
  sign : (k l : List ℕ) → value_at text_cmp rules.aliases.sgn_region k ≡ Some l → Contains ps (of_language l)
  len2 : (k : List ℕ) (b : LanguageIdentifier) → value_at text_cmp rules.language_len2 k ≡ Some b → Contains ps b
  len3 : (k : List ℕ) (b : LanguageIdentifier) → value_at text_cmp rules.language_len3 k ≡ Some b → Contains ps b
  script : (k s : List ℕ) → value_at text_cmp rules.aliases.script k ≡ Some s → Contains ps (of_script s)
  alpha : (k r : List ℕ) → value_at text_cmp rules.aliases.region_alpha k ≡ Some r → Contains ps (of_region r)
  num : (k r : List ℕ) → value_at text_cmp rules.aliases.region_num k ≡ Some r → Contains ps (of_region r)
  complex : (k r : List ℕ) (row : List ℕ × Vec (List ℕ) Global) → Contains rules.aliases.complex_region row → Contains row.1.items r → Contains ps (of_region r)
  variant : (k w : List ℕ) → value_at text_cmp rules.aliases.variant k ≡ Some w → Contains ps (of_variant w)

-- a part of one kind is one of all
part_of : (rules : Rules) (x : LanguageIdentifier) (ps : List LanguageIdentifier) (y : LanguageIdentifier)
    → Contains (parts_by_kind rules x) ps → Contains ps y → Contains (parts rules x) y
unfolding parts
part_of rules x ps y kind here = Contains-flat_map (λ qs. qs) (parts_by_kind rules x) ps y kind here

parts-start : (rules : Rules) (x : LanguageIdentifier) → Contains (parts rules x) x
parts-start rules x = part_of rules x (x ∷ []) x (0, omega arith, refl) (Contains-here x [])

parts-HasParts : (rules : Rules) (x : LanguageIdentifier) → HasParts rules (parts rules x)
parts-HasParts rules x = record {
  rule = λ r here. part_of rules x (map (λ r. r.replacement) rules.language) (r.replacement) (1, omega arith, refl)
      (Contains-map (λ r. r.replacement) rules.language r here);
  variant_rule = λ r here. part_of rules x (map (λ r. r.replacement) rules.language_variants) (r.replacement) (2, omega arith, refl)
      (Contains-map (λ r. r.replacement) rules.language_variants r here);
  sign = λ k l found. part_of rules x (map (λ row. of_language row.1) rules.aliases.sgn_region) (of_language l) (3, omega arith, refl)
      (has_value of_language rules.aliases.sgn_region k l found);
  len2 = λ k b found. part_of rules x (map (λ row. row.1) rules.language_len2) (b) (4, omega arith, refl) (has_value (λ b. b) rules.language_len2 k b found);
  len3 = λ k b found. part_of rules x (map (λ row. row.1) rules.language_len3) (b) (5, omega arith, refl) (has_value (λ b. b) rules.language_len3 k b found);
  script = λ k s found. part_of rules x (map (λ row. of_script row.1) rules.aliases.script) (of_script s) (6, omega arith, refl)
      (has_value of_script rules.aliases.script k s found);
  alpha = λ k r found. part_of rules x (map (λ row. of_region row.1) rules.aliases.region_alpha) (of_region r) (7, omega arith, refl)
      (has_value of_region rules.aliases.region_alpha k r found);
  num = λ k r found. part_of rules x (map (λ row. of_region row.1) rules.aliases.region_num) (of_region r) (8, omega arith, refl)
      (has_value of_region rules.aliases.region_num k r found);
  complex = λ k r row here inside. part_of rules x (flat_map (λ row. map of_region row.1.items) rules.aliases.complex_region) (of_region r)
      (9, omega arith, refl) (Contains-flat_map (λ row. map of_region row.1.items) rules.aliases.complex_region row (of_region r) here
      (Contains-map of_region row.1.items r inside));
  variant = λ k w found. part_of rules x (map (λ row. of_variant row.1) rules.aliases.variant) (of_variant w) (10, omega arith, refl)
      (has_value of_variant rules.aliases.variant k w found);
}

-- ---- one turn

any_text : (l : List ℕ) (rs : List (List ℕ)) → list_any (λ s. bytes_eq s l) rs ≡ true → Contains rs l
any_text l [] e = absurd (false≢true e)
any_text l (r ∷ rs) e =
    elim (or_cases (bytes_eq r l) (list_any (λ s. bytes_eq s l) rs) e) [
      | inl here ↦ subst (λ t. Contains (r ∷ rs) t) ((bytes_eq-Decides r l).0 here) (Contains-here r rs)
      | inr later ↦ Contains-there r l rs (any_text l rs later)
    ]

chosen_test : (l r z : List ℕ) (rs : List (List ℕ)) (test : Bool) → list_any (λ s. bytes_eq s l) (r ∷ rs) ≡ test
    → cond test (Some l) (Some r) ≡ Some z → Contains (r ∷ rs) z
chosen_test l r z rs true any e = subst (Contains (r ∷ rs)) (same_Some l z e) (any_text l (r ∷ rs) any)
chosen_test l r z rs false any e = subst (Contains (r ∷ rs)) (same_Some r z e) (Contains-here r rs)

-- the chosen region is one of the list
chosen_among : (likely : Option (List ℕ)) (rs : List (List ℕ)) (z : List ℕ) → chosen likely rs ≡ Some z → Contains rs z
chosen_among likely [] z e = absurd (none-some z e)
chosen_among None (r ∷ rs) z e = subst (Contains (r ∷ rs)) (same_Some r z e) (Contains-here r rs)
chosen_among (Some l) (r ∷ rs) z e = chosen_test l r z rs (list_any (λ s. bytes_eq s l) (r ∷ rs)) refl e

module _ (likely : LikelySubtags) (rules : Rules) (ps : List LanguageIdentifier) (has : HasParts rules ps) where
  rule_among : (test : Bool) (r : Rule) → Contains (cond test rules.language rules.language_variants) r → Contains ps r.replacement
  rule_among true r here = has.rule r here
  rule_among false r here = has.variant_rule r here

  made_by_rule : (y z : LanguageIdentifier) → IsMadeOf ps y → by_rule rules y ≡ Some z → IsMadeOf ps z
  made_by_rule y z made e =
      let found = some_map (λ r. replaced y r.source r.replacement) (find (λ r. matches y r.source) (rules_for rules y)) z e in
      let here = rule_among (len y.variants == 0) found.0 (Contains-find (λ r. matches y r.source) (rules_for rules y) found.0 found.1) in
      subst (IsMadeOf ps) found.2 (IsMadeOf-replaced ps y found.0.source found.0.replacement made (IsMadeOf-itself ps found.0.replacement here))

  made_by_sign_region : (y z : LanguageIdentifier) → IsMadeOf ps y → by_sign_region rules y ≡ Some z → IsMadeOf ps z
  made_by_sign_region y z made e =
      let source : LanguageIdentifier = record { language = codes "sgn"; script = None; region = y.region; variants = empty } in
      let found = some_map (λ l. replaced y source (of_language l)) (sign_language rules y) z e in
      let looked = (guarded (bytes_eq y.language (codes "sgn")) (option_and_then (value_at text_cmp rules.aliases.sgn_region) y.region) found.0 found.1).1 in
      let here : Contains ps (of_language found.0) = option_and_then_some (value_at text_cmp rules.aliases.sgn_region) y.region found.0
      looked (λ k is at. has.sign k found.0 at) in
      subst (IsMadeOf ps) found.2 (IsMadeOf-replaced ps y source (of_language found.0) made (IsMadeOf-itself ps (of_language found.0) here))

  alias_among : (test : Bool) (k : List ℕ) (b : LanguageIdentifier) → value_at text_cmp
      (cond test rules.language_len2 rules.language_len3) k ≡ Some b → Contains ps b
  alias_among true k b e = has.len2 k b e
  alias_among false k b e = has.len3 k b e

  made_by_language_alias : (y z : LanguageIdentifier) → IsMadeOf ps y → by_language_alias rules y ≡ Some z → IsMadeOf ps z
  made_by_language_alias y z made e =
      let found = some_map (λ b. replaced y (of_language y.language) (record b { variants = empty })) (language_alias rules y.language) z e in
      let looked = (guarded (is_known y.language) (value_at text_cmp (cond
      (length y.language == 2) rules.language_len2 rules.language_len3) y.language) found.0 found.1).1 in
      let here = alias_among (length y.language == 2) y.language found.0 looked in
      subst (IsMadeOf ps) found.2 (IsMadeOf-replaced ps y (of_language y.language) (record found.0 { variants = empty }) made
      (IsMadeOf-bare ps found.0 (IsMadeOf-itself ps found.0 here)))

  made_by_script : (y z : LanguageIdentifier) → IsMadeOf ps y → by_script rules y ≡ Some z → IsMadeOf ps z
  made_by_script y z made e =
      let found = some_map (λ s. record y { script = Some s }) (option_and_then (value_at text_cmp rules.aliases.script) y.script) z e in
      let here : Contains ps (of_script found.0) = option_and_then_some (value_at text_cmp rules.aliases.script) y.script found.0 found.1
      (λ k is at. has.script k found.0 at) in
      subst (IsMadeOf ps) found.2 (IsMadeOf-script ps y found.0 made here)

  region_among : (test : Bool) (k r : List ℕ) → value_at text_cmp (cond test rules.aliases.region_alpha rules.aliases.region_num) k ≡ Some r
      → Contains ps (of_region r)
  region_among true k r e = has.alpha k r e
  region_among false k r e = has.num k r e

  made_by_region : (y z : LanguageIdentifier) → IsMadeOf ps y → by_region rules y ≡ Some z → IsMadeOf ps z
  made_by_region y z made e =
      let found = some_map (λ r. record y { region = Some r }) (option_and_then (region_alias rules) y.region) z e in
      let here : Contains ps (of_region found.0) = option_and_then_some (region_alias rules) y.region found.0 found.1
      (λ k is at. region_among (is_alphabetic k) k found.0 at) in
      subst (IsMadeOf ps) found.2 (IsMadeOf-region ps y found.0 made here)

  made_by_complex_region : (y z : LanguageIdentifier) → IsMadeOf ps y → by_complex_region likely rules y ≡ Some z → IsMadeOf ps z
  made_by_complex_region y z made e =
      let found = some_map (λ r. record y { region = Some r }) (complex_region likely rules y) z e in
      let here : Contains ps (of_region found.0) = option_and_then_some (λ (rs : Vec (List ℕ) Global). chosen
      (likely_region likely y) rs.items) (option_and_then (value_at text_cmp rules.aliases.complex_region) y.region) found.0 found.1 (λ rs looked chose.
      option_and_then_some (value_at text_cmp rules.aliases.complex_region) y.region rs looked (λ k is at.
      has.complex k found.0 (k, rs) (has_row rules.aliases.complex_region k rs at) (chosen_among (likely_region likely y) rs.items found.0 chose))) in
      subst (IsMadeOf ps) found.2 (IsMadeOf-region ps y found.0 made here)

  made_by_variant_test : (y z : LanguageIdentifier) (test : Bool) → IsMadeOf ps y
      → cond test (Some (record y { variants = image (λ v. unwrap_or (variant_alias rules v) v) y.variants })) None ≡ Some z → IsMadeOf ps z
  made_by_variant_test y z true made e =
      subst (IsMadeOf ps) (same_Some (record y { variants = image (λ v. unwrap_or (variant_alias rules v) v) y.variants }) z e)
      (IsMadeOf-image ps (variant_alias rules) y made (λ v w at. has.variant v w at))
  made_by_variant_test y z false made e = absurd (none-some z e)

  made_by_variant : (y z : LanguageIdentifier) → IsMadeOf ps y → by_variant rules y ≡ Some z → IsMadeOf ps z
  made_by_variant y z made e = made_by_variant_test y z (list_any (λ v. is_some (variant_alias rules v)) (rising y.variants)) made e

  made_next : (y z : LanguageIdentifier) → IsMadeOf ps y → next likely rules y ≡ Some z → IsMadeOf ps z
  made_next y z made e =
      by (by_rule rules y) _ e (made_by_rule y z made) (λ e.
      by (by_sign_region rules y) _ e (made_by_sign_region y z made) (λ e.
      by (by_language_alias rules y) _ e (made_by_language_alias y z made) (λ e.
      by (by_script rules y) _ e (made_by_script y z made) (λ e.
      by (by_region rules y) _ e (made_by_region y z made) (λ e.
      by (by_complex_region likely rules y) (by_variant rules y) e (made_by_complex_region y z made) (made_by_variant y z made))))))
    where
      by : (a b : Option LanguageIdentifier) → option_or a b ≡ Some z → (a ≡ Some z → IsMadeOf ps z) → (b ≡ Some z → IsMadeOf ps z) → IsMadeOf ps z
      by a b e first later = elim (some_or a b z e) [ inl here ↦ first here | inr there ↦ later there ]

made_next_of : (likely : LikelySubtags) (rules : Rules) (transform : Bool) (ps : List LanguageIdentifier) → HasParts rules ps
    → (y z : LanguageIdentifier) → IsMadeOf ps y → next_of likely rules transform y ≡ Some z → IsMadeOf ps z
made_next_of likely rules true ps has y z made e = made_by_language_alias likely rules ps has y z made e
made_next_of likely rules false ps has y z made e = made_next likely rules ps has y z made e

-- the universe of x has x, and what a turn makes of each of its members
pub IsUniverse-universe : (likely : LikelySubtags) (rules : Rules) (transform : Bool) (x : LanguageIdentifier)
    → IsUniverse (next_of likely rules transform) x (universe rules x)
IsUniverse-universe likely rules transform x =
    let ps = parts rules x in
    record {
      has_start = made_of-has ps x (IsMadeOf-itself ps x (parts-start rules x));
      leads = λ y z here e. made_of-has ps z (made_next_of likely rules transform ps (parts-HasParts rules x) y z (IsMadeOf-from ps y here) e);
    }
