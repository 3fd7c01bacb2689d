-- What the rows of a known language say of its three trials.
use Rattle.std.proofs.Common.{◌≡◌, ◌↔◌, IsTrue, ℕ, List, Bool, true, false, ◌&&◌, Option, Some, None, if◌then◌else◌, refl, ap, sym, ◌∙◌}
use Rattle.std.specs.Option.{option_or}
use Rattle.std.specs.Str.{bytes_eq}
use Rattle.std.proofs.Math.Bool.{and-true, and_comm}
use Rattle.std.proofs.lemmas.Bool.{false_from_ne_true, false≢true}
use Rattle.std.proofs.lemmas.Bool.Decides.{same_from_decides}
use Rattle.std.proofs.lemmas.Slice.Eq.{bytes_eq-Decides}
use Rattle.icu_locale_core.specs.Subtag.{und}
use Rattle.icu_provider.specs.declared.data_locale.DataLocale.{DataLocale}
use Rattle.icu_locale.specs.declared.expander.Favor.{Favor}
use Rattle.icu_locale.specs.declared.expander.Favor.TheVariants.{RegionFirst, ScriptFirst}
use Rattle.icu_locale.specs.declared.expander.looks.LikelyKey.TheVariants.{LanguageRegion, LanguageScript, LanguageAlone}
use Rattle.icu_locale.specs.LikelySubtags.{LikelySubtags, Triple, known_subtag, unknown_script, unknown_region, maximal_of_bare, maximal_locale}
use Rattle.icu_locale.specs.Locales.{locale_with, same_locale}
use Rattle.icu_locale.specs.inner.Trials.{alone, with_favored, with_other, trials, first_trial, IsTried, gives}
use Rattle.icu_locale.specs.inner.Trials.{gives_script, gives_region, drops_region, drops_script}
use Rattle.icu_locale.specs.laws.Locales.{same_locale-Decides, text_itself}
use Rattle.icu_locale.proofs.Settling.{fill_by, maximal-told}

-- how the trials end over a maximal form
module _ (likely : LikelySubtags) (favor : Favor) (m : DataLocale) where
  -- whether a trial leads to the maximal form
  abbrev leads : DataLocale → Bool
  leads t = same_locale (maximal_locale likely t) m

  leads-from : (t : DataLocale) → maximal_locale likely t ≡ m → leads t ≡ true
  leads-from t e = (same_locale-Decides _ _).1 e

  abbrev answer : Bool → Bool → Bool → DataLocale
  answer a b c = if a then alone m else (if b then with_favored favor m else (if c then with_other favor m else m))

  pub tried_first : leads (alone m) ≡ true → IsTried likely favor m (alone m)
  tried_first a = sym (λ i. answer (a i) (leads (with_favored favor m)) (leads (with_other favor m)))

  pub tried_second : leads (alone m) ≡ false → leads (with_favored favor m) ≡ true → IsTried likely favor m (with_favored favor m)
  tried_second a b = sym (λ i. answer (a i) (b i) (leads (with_other favor m)))

  pub tried_third : leads (alone m) ≡ false → leads (with_favored favor m) ≡ false → leads (with_other favor m) ≡ true
      → IsTried likely favor m (with_other favor m)
  tried_third a b c = sym (λ i. answer (a i) (b i) (c i))

  pub tried_none : leads (alone m) ≡ false → leads (with_favored favor m) ≡ false → leads (with_other favor m) ≡ false → IsTried likely favor m m
  tried_none a b c = sym (λ i. answer (a i) (b i) (c i))

-- the trials over the same maximal form
pub moved : (likely : LikelySubtags) (favor : Favor) (m n y : DataLocale) → m ≡ n → IsTried likely favor n y → IsTried likely favor m y
moved likely favor m n y e tried = tried ∙ ap (λ x. first_trial likely x (trials favor x)) (sym e)

-- a subtag that is there and does not stand for none is bare
pub bare_from_test : (unknown t : List ℕ) (test : Bool) → (IsTrue test ↔ (t ≡ unknown)) → test ≡ false → known_subtag unknown (Some t) ≡ Some t
bare_from_test unknown t test told fails =
    let apart : bytes_eq t unknown ≡ false = false_from_ne_true (bytes_eq t unknown)
    (λ same. false≢true (sym fails ∙ told.1 ((bytes_eq-Decides t unknown).0 same))) in
    ap (λ b. if b then None else Some t) apart

pub gone_from_test : (unknown t : List ℕ) (test : Bool) → (IsTrue test ↔ (t ≡ unknown)) → test ≡ true → known_subtag unknown (Some t) ≡ None
gone_from_test unknown t test told holds =
    let same : bytes_eq t unknown ≡ true = (bytes_eq-Decides t unknown).1 (told.0 holds) in
    ap (λ b. if b then None else Some t) same

or-none : (x y : Option Triple) → option_or x (option_or y None) ≡ option_or x y
or-none None None = refl
or-none None (Some t) = refl
or-none (Some t) y = refl

test_swap : (x y : List ℕ) → bytes_eq x y ≡ bytes_eq y x
test_swap x y = same_from_decides _ _ (bytes_eq-Decides x y) (λ t. sym ((bytes_eq-Decides y x).0 t), λ e. (bytes_eq-Decides y x).1 (sym e))

module _ (likely : LikelySubtags) (l : List ℕ) (known : bytes_eq l und ≡ false) where
  -- a text with the language as a part of the test
  with_language : (b : Bool) → bytes_eq l l && b ≡ b
  with_language b = ap (λ x. x && b) (text_itself l)

  -- the maximal form of the language alone
  alone_max : (p : Option Triple) → likely (LanguageAlone l) ≡ p → maximal_locale likely (locale_with l None None) ≡ fill_by false (locale_with l None None) p
  alone_max p e = maximal-told likely false l None None known ∙ ap (λ o. fill_by false (locale_with l None None) o)
      (or-none None (likely (LanguageAlone l)) ∙ e)

  -- of the language with a region
  region_max : (r : List ℕ) (own p : Option Triple) → likely (LanguageRegion l r) ≡ own → likely (LanguageAlone l) ≡ p
      → maximal_of_bare likely (locale_with l None (Some r)) ≡ fill_by false (locale_with l None (Some r)) (option_or own p)
  region_max r own p e f = maximal-told likely false l None (Some r) known ∙ ap (λ o. fill_by false (locale_with l None (Some r)) o)
      (or-none (likely (LanguageRegion l r)) (likely (LanguageAlone l)) ∙ (λ i. option_or (e i) (f i)))

  -- of the language with a script
  script_max : (s : List ℕ) (own p : Option Triple) → likely (LanguageScript l s) ≡ own → likely (LanguageAlone l) ≡ p
      → maximal_of_bare likely (locale_with l (Some s) None) ≡ fill_by false (locale_with l (Some s) None) (option_or own p)
  script_max s own p e f = maximal-told likely false l (Some s) None known ∙ ap (λ o. fill_by false (locale_with l (Some s) None) o)
      (or-none (likely (LanguageScript l s)) (likely (LanguageAlone l)) ∙ (λ i. option_or (e i) (f i)))

  -- the test of the language alone
  alone_test : (p : Option Triple) (s r : List ℕ) → same_locale (fill_by false (locale_with l None None) p) (locale_with l (Some s) (Some r)) ≡ gives p s r
  alone_test None s r = with_language false
  alone_test (Some t) s r = with_language (bytes_eq t.1 s && bytes_eq t.2 r)

  pub alone_told : (p : Option Triple) (s r : List ℕ) → likely (LanguageAlone l) ≡ p
      → leads likely RegionFirst (locale_with l (Some s) (Some r)) (locale_with l None None) ≡ gives p s r
  alone_told p s r e = ap (λ x. same_locale x (locale_with l (Some s) (Some r))) (alone_max p e) ∙ alone_test p s r

  -- the test of the language with a region
  region_test : (o : Option Triple) (s r : List ℕ) → same_locale (fill_by false (locale_with l None (Some r)) o)
      (locale_with l (Some s) (Some r)) ≡ gives_script o s
  region_test None s r = with_language false
  region_test (Some t) s r = with_language (bytes_eq t.1 s && bytes_eq r r) ∙ ap (λ x. bytes_eq t.1 s && x) (text_itself r) ∙ and-true (bytes_eq t.1 s)

  -- a region that is bare stays
  region_bare : (r : List ℕ) → known_subtag unknown_region (Some r) ≡ Some r
      → maximal_locale likely (locale_with l None (Some r)) ≡ maximal_of_bare likely (locale_with l None (Some r))
  region_bare r bare = ap (λ x. maximal_of_bare likely (locale_with l None x)) bare

  pub region_told : (p : Option Triple) (s r : List ℕ) → likely (LanguageAlone l) ≡ p → known_subtag unknown_region (Some r) ≡ Some r
      → leads likely RegionFirst (locale_with l (Some s) (Some r)) (locale_with l None (Some r)) ≡ gives_script (option_or (likely (LanguageRegion l r)) p) s
  region_told p s r f bare = ap (λ x. same_locale x (locale_with l (Some s) (Some r))) (region_bare r bare ∙ region_max r _ p refl f) ∙ region_test _ s r

  -- the test of the language with a script
  script_test : (o : Option Triple) (s r : List ℕ) → same_locale (fill_by false (locale_with l (Some s) None) o)
      (locale_with l (Some s) (Some r)) ≡ gives_region o r
  script_test None s r = with_language (bytes_eq s s && false) ∙ ap (λ x. x && false) (text_itself s)
  script_test (Some t) s r = with_language (bytes_eq s s && bytes_eq t.2 r) ∙ ap (λ x. x && bytes_eq t.2 r) (text_itself s)

  -- a script that is bare stays
  script_bare : (s : List ℕ) → known_subtag unknown_script (Some s) ≡ Some s
      → maximal_locale likely (locale_with l (Some s) None) ≡ maximal_of_bare likely (locale_with l (Some s) None)
  script_bare s bare = ap (λ x. maximal_of_bare likely (locale_with l x None)) bare

  pub script_told : (p : Option Triple) (s r : List ℕ) → likely (LanguageAlone l) ≡ p → known_subtag unknown_script (Some s) ≡ Some s
      → leads likely RegionFirst (locale_with l (Some s) (Some r)) (locale_with l (Some s) None) ≡ gives_region (option_or (likely (LanguageScript l s)) p) r
  script_told p s r f bare = ap (λ x. same_locale x (locale_with l (Some s) (Some r))) (script_bare s bare ∙ script_max s _ p refl f) ∙ script_test _ s r

  -- over a region that is given
  module _ (r : List ℕ) (bare_r : known_subtag unknown_region (Some r) ≡ Some r) where
    abbrev with_region : Option Triple → DataLocale
    with_region row = fill_by false (locale_with l None (Some r)) row

    alone_of_region : (row : Option Triple) → alone (with_region row) ≡ locale_with l None None
    alone_of_region None = refl
    alone_of_region (Some t) = refl

    region_of_region : (row : Option Triple) → with_favored RegionFirst (with_region row) ≡ locale_with l None (Some r)
    region_of_region None = refl
    region_of_region (Some t) = refl

    drops_region_test : (p own : Option Triple) → same_locale (fill_by false (locale_with l None None) p) (with_region (option_or own p))
        ≡ drops_region p own r
    drops_region_test None None = with_language false
    drops_region_test None (Some o) = with_language false
    drops_region_test (Some t) None = with_language (bytes_eq t.1 t.1 && bytes_eq t.2 r) ∙ ap (λ x. x && bytes_eq t.2 r) (text_itself t.1)
    drops_region_test (Some t) (Some o) = with_language (bytes_eq t.1 o.1 && bytes_eq t.2 r) ∙ and_comm (bytes_eq t.1 o.1) (bytes_eq t.2 r)
        ∙ ap (λ x. bytes_eq t.2 r && x) (test_swap t.1 o.1)

    abbrev row_of_region : Option Triple
    row_of_region = option_or (likely (LanguageRegion l r)) (likely (LanguageAlone l))

    drops_region_told : leads likely RegionFirst (with_region row_of_region) (alone (with_region row_of_region))
        ≡ drops_region (likely (LanguageAlone l)) (likely (LanguageRegion l r)) r
    drops_region_told = ap (leads likely RegionFirst (with_region row_of_region)) (alone_of_region row_of_region)
        ∙ ap (λ x. same_locale x (with_region row_of_region)) (alone_max _ refl) ∙ drops_region_test _ _

    pub region_drops : drops_region (likely (LanguageAlone l)) (likely (LanguageRegion l r)) r ≡ true
        → IsTried likely RegionFirst (maximal_of_bare likely (locale_with l None (Some r))) (locale_with l None None)
    region_drops e = moved likely RegionFirst _ (with_region row_of_region) _ (region_max r _ _ refl refl)
        (sym (alone_of_region row_of_region) ∙ tried_first likely RegionFirst (with_region row_of_region) (drops_region_told ∙ e))

    pub region_stays : drops_region (likely (LanguageAlone l)) (likely (LanguageRegion l r)) r ≡ false
        → IsTried likely RegionFirst (maximal_of_bare likely (locale_with l None (Some r))) (locale_with l None (Some r))
    region_stays e =
        let itself = ap (leads likely RegionFirst (with_region row_of_region)) (region_of_region row_of_region)
        ∙ leads-from likely RegionFirst (with_region row_of_region) (locale_with l None (Some r)) (region_bare r bare_r ∙ region_max r _ _ refl refl) in
        moved likely RegionFirst _ (with_region row_of_region) _ (region_max r _ _ refl refl)
        (sym (region_of_region row_of_region) ∙ tried_second likely RegionFirst (with_region row_of_region) (drops_region_told ∙ e) itself)

  -- over a script that is given
  module _ (s : List ℕ) (bare_s : known_subtag unknown_script (Some s) ≡ Some s) where
    abbrev with_script : Option Triple → DataLocale
    with_script row = fill_by false (locale_with l (Some s) None) row

    alone_of_script : (row : Option Triple) → alone (with_script row) ≡ locale_with l None None
    alone_of_script None = refl
    alone_of_script (Some t) = refl

    script_of_script : (row : Option Triple) → with_favored ScriptFirst (with_script row) ≡ locale_with l (Some s) None
    script_of_script None = refl
    script_of_script (Some t) = refl

    drops_script_test : (p own : Option Triple) → same_locale (fill_by false (locale_with l None None) p) (with_script (option_or own p))
        ≡ drops_script p own s
    drops_script_test None None = with_language false
    drops_script_test None (Some o) = with_language false
    drops_script_test (Some t) None = with_language (bytes_eq t.1 s && bytes_eq t.2 t.2) ∙ ap (λ x. bytes_eq t.1 s && x) (text_itself t.2)
        ∙ and-true (bytes_eq t.1 s)
    drops_script_test (Some t) (Some o) = with_language (bytes_eq t.1 s && bytes_eq t.2 o.2) ∙ ap (λ x. bytes_eq t.1 s && x) (test_swap t.2 o.2)

    abbrev row_of_script : Option Triple
    row_of_script = option_or (likely (LanguageScript l s)) (likely (LanguageAlone l))

    drops_script_told : leads likely ScriptFirst (with_script row_of_script) (alone (with_script row_of_script))
        ≡ drops_script (likely (LanguageAlone l)) (likely (LanguageScript l s)) s
    drops_script_told = ap (leads likely ScriptFirst (with_script row_of_script)) (alone_of_script row_of_script)
        ∙ ap (λ x. same_locale x (with_script row_of_script)) (alone_max _ refl) ∙ drops_script_test _ _

    pub script_drops : drops_script (likely (LanguageAlone l)) (likely (LanguageScript l s)) s ≡ true
        → IsTried likely ScriptFirst (maximal_of_bare likely (locale_with l (Some s) None)) (locale_with l None None)
    script_drops e = moved likely ScriptFirst _ (with_script row_of_script) _ (script_max s _ _ refl refl)
        (sym (alone_of_script row_of_script) ∙ tried_first likely ScriptFirst (with_script row_of_script) (drops_script_told ∙ e))

    pub script_stays : drops_script (likely (LanguageAlone l)) (likely (LanguageScript l s)) s ≡ false
        → IsTried likely ScriptFirst (maximal_of_bare likely (locale_with l (Some s) None)) (locale_with l (Some s) None)
    script_stays e =
        let itself = ap (leads likely ScriptFirst (with_script row_of_script)) (script_of_script row_of_script)
        ∙ leads-from likely ScriptFirst (with_script row_of_script) (locale_with l (Some s) None) (script_bare s bare_s ∙ script_max s _ _ refl refl) in
        moved likely ScriptFirst _ (with_script row_of_script) _ (script_max s _ _ refl refl)
        (sym (script_of_script row_of_script) ∙ tried_second likely ScriptFirst (with_script row_of_script) (drops_script_told ∙ e) itself)

  -- over a script and a region that the row of the language alone does not give
  module _ (p : Option Triple) (is_plain : likely (LanguageAlone l) ≡ p) (s r : List ℕ) (not_alone : gives p s r ≡ false) where
    abbrev full : DataLocale
    full = locale_with l (Some s) (Some r)

    abbrev region_row : Option Triple
    region_row = option_or (likely (LanguageRegion l r)) p

    abbrev script_row : Option Triple
    script_row = option_or (likely (LanguageScript l s)) p

    alone_fails : leads likely RegionFirst full (locale_with l None None) ≡ false
    alone_fails = alone_told p s r is_plain ∙ not_alone

    module _ (bare_r : known_subtag unknown_region (Some r) ≡ Some r) where
      pub region_second : gives_script region_row s ≡ true → IsTried likely RegionFirst full (locale_with l None (Some r))
      region_second e = tried_second likely RegionFirst full alone_fails (region_told p s r is_plain bare_r ∙ e)

    module _ (bare_s : known_subtag unknown_script (Some s) ≡ Some s) where
      pub script_second : gives_region script_row r ≡ true → IsTried likely ScriptFirst full (locale_with l (Some s) None)
      script_second e = tried_second likely ScriptFirst full alone_fails (script_told p s r is_plain bare_s ∙ e)

    module _ (bare_s : known_subtag unknown_script (Some s) ≡ Some s) (bare_r : known_subtag unknown_region (Some r) ≡ Some r) where
      pub script_third : gives_script region_row s ≡ false → gives_region script_row r ≡ true → IsTried likely RegionFirst full (locale_with l (Some s) None)
      script_third e f = tried_third likely RegionFirst full alone_fails (region_told p s r is_plain bare_r ∙ e) (script_told p s r is_plain bare_s ∙ f)

      pub region_third : gives_region script_row r ≡ false → gives_script region_row s ≡ true → IsTried likely ScriptFirst full (locale_with l None (Some r))
      region_third e f = tried_third likely ScriptFirst full alone_fails (script_told p s r is_plain bare_s ∙ e) (region_told p s r is_plain bare_r ∙ f)

      pub none_of_region_first : gives_script region_row s ≡ false → gives_region script_row r ≡ false → IsTried likely RegionFirst full full
      none_of_region_first e f = tried_none likely RegionFirst full alone_fails (region_told p s r is_plain bare_r ∙ e) (script_told p s r is_plain bare_s ∙ f)

      pub none_of_script_first : gives_region script_row r ≡ false → gives_script region_row s ≡ false → IsTried likely ScriptFirst full full
      none_of_script_first e f = tried_none likely ScriptFirst full alone_fails (script_told p s r is_plain bare_s ∙ e) (region_told p s r is_plain bare_r ∙ f)

    -- where the region was given, the script is that of the row
    module _ (bare_r : known_subtag unknown_region (Some r) ≡ Some r) (t : Triple) (found : region_row ≡ Some t) (is : t.1 ≡ s) where
      filled_script : maximal_of_bare likely (locale_with l None (Some r)) ≡ full
      filled_script = region_max r _ p refl is_plain ∙ ap (fill_by false (locale_with l None (Some r))) found ∙ (λ i. locale_with l (Some (is i)) (Some r))

      given_region : leads likely RegionFirst full (locale_with l None (Some r)) ≡ true
      given_region = leads-from likely RegionFirst full (locale_with l None (Some r)) (region_bare r bare_r ∙ filled_script)

      pub script_taken : known_subtag unknown_script (Some s) ≡ Some s → gives_region script_row r ≡ true
          → IsTried likely ScriptFirst (maximal_of_bare likely (locale_with l None (Some r))) (locale_with l (Some s) None)
      script_taken bare_s e = moved likely ScriptFirst _ full _ filled_script (script_second bare_s e)

      pub script_fails : known_subtag unknown_script (Some s) ≡ Some s → gives_region script_row r ≡ false
          → IsTried likely ScriptFirst (maximal_of_bare likely (locale_with l None (Some r))) (locale_with l None (Some r))
      script_fails bare_s e = moved likely ScriptFirst _ full _ filled_script
          (tried_third likely ScriptFirst full alone_fails (script_told p s r is_plain bare_s ∙ e) given_region)

    -- where the script was given, the region is that of the row
    module _ (bare_s : known_subtag unknown_script (Some s) ≡ Some s) (t : Triple) (found : script_row ≡ Some t) (is : t.2 ≡ r) where
      filled_region : maximal_of_bare likely (locale_with l (Some s) None) ≡ full
      filled_region = script_max s _ p refl is_plain ∙ ap (fill_by false (locale_with l (Some s) None)) found ∙ (λ i. locale_with l (Some s) (Some (is i)))

      given_script : leads likely RegionFirst full (locale_with l (Some s) None) ≡ true
      given_script = leads-from likely RegionFirst full (locale_with l (Some s) None) (script_bare s bare_s ∙ filled_region)

      pub region_taken : known_subtag unknown_region (Some r) ≡ Some r → gives_script region_row s ≡ true
          → IsTried likely RegionFirst (maximal_of_bare likely (locale_with l (Some s) None)) (locale_with l None (Some r))
      region_taken bare_r e = moved likely RegionFirst _ full _ filled_region (region_second bare_r e)

      pub region_fails : known_subtag unknown_region (Some r) ≡ Some r → gives_script region_row s ≡ false
          → IsTried likely RegionFirst (maximal_of_bare likely (locale_with l (Some s) None)) (locale_with l (Some s) None)
      region_fails bare_r e = moved likely RegionFirst _ full _ filled_region
          (tried_third likely RegionFirst full alone_fails (region_told p s r is_plain bare_r ∙ e) given_script)

      -- a region that stands for none makes the trial that of the language alone
      pub region_unknown : known_subtag unknown_region (Some r) ≡ None → IsTried likely RegionFirst
          (maximal_of_bare likely (locale_with l (Some s) None)) (locale_with l (Some s) None)
      region_unknown unknown = moved likely RegionFirst _ full _ filled_region
          (tried_third likely RegionFirst full alone_fails (ap (λ x. same_locale (maximal_of_bare likely (locale_with l None x)) full)
          unknown ∙ alone_fails) given_script)
