-- A table whose rows' keys settle is settled, and a key that does not settle is an identifier that does not.
use Rattle.std.proofs.Common.{◌≡◌, ℕ, List, Bool, true, false, Option, Some, None, is_some, MatchBool, if◌then◌else◌, refl, ap, subst, sym, ◌∙◌}
use Rattle.std.specs.Option.{unwrap_or, option_or}
use Rattle.std.specs.Str.{bytes_eq}
use Rattle.std.specs.FinMap as fin
use Rattle.std.proofs.lemmas.Bool.{and_parts, and_from, false≢true}
use Rattle.icu_locale_core.specs.Subtag.{und}
use Rattle.icu_locale_core.specs.TextSet.{text_cmp, empty}
use Rattle.icu_locale_core.specs.Identifier.{IsIdentifier}
use Rattle.icu_locale_core.specs.declared.langid.LanguageIdentifier.{LanguageIdentifier}
use Rattle.icu_provider.specs.declared.data_locale.DataLocale.{DataLocale}
use Rattle.icu_locale.specs.declared.expander.looks.LikelyKey.{LikelyKey}
use Rattle.icu_locale.specs.declared.expander.looks.LikelyKey.TheVariants.{LanguageRegion, LanguageScript, LanguageAlone, ScriptAlone, RegionAlone}
use Rattle.icu_locale.specs.LikelySubtags.{LikelySubtags, Triple, known_subtag, unknown_script, unknown_region, bare_locale, known_keys, und_keys}
use Rattle.icu_locale.specs.LikelySubtags.{first_found, maximal_of_bare, maximal_locale, subtags_of, with_locale, AreSettled}
use Rattle.icu_locale.specs.inner.SettledRows.{key_locale, IsLocale, is_settled_locale, settles, HasUnsettled}
use Rattle.icu_locale.specs.Locales.{same_locale}
use Rattle.icu_locale.specs.laws.Locales.{same_locale-Decides, same_text, known_subtag-again}

-- a locale that is bare and its own maximal form
record Stays (likely : LikelySubtags) (y : DataLocale) : Type 0 where
  bare : bare_locale y ≡ y
  fixed : maximal_locale likely y ≡ y

Stays-from_test : (likely : LikelySubtags) (y : DataLocale) → is_settled_locale likely y ≡ true → Stays likely y
Stays-from_test likely y e =
    let parts = and_parts (same_locale (bare_locale y) y) (same_locale (maximal_locale likely y) y) e in
    record { bare = (same_locale-Decides _ _).0 parts.0; fixed = (same_locale-Decides _ _).0 parts.1 }

test-from_Stays : (likely : LikelySubtags) (y : DataLocale) → bare_locale y ≡ y → maximal_locale likely y ≡ y → is_settled_locale likely y ≡ true
test-from_Stays likely y bare fixed = and_from (same_locale (bare_locale y) y) (same_locale (maximal_locale likely y) y)
    ((same_locale-Decides _ _).1 bare) ((same_locale-Decides _ _).1 fixed)

-- the identifier with the key's own subtags
abbrev identifier_of : DataLocale → LanguageIdentifier
identifier_of x = record { language = x.language; script = x.script; region = x.region; variants = empty }

is_identifier : (x : DataLocale) → IsLocale x → IsIdentifier (identifier_of x)
is_identifier x known = record {
  language = known.language;
  script = known.script;
  region = known.region;
  variants = λ v e. absurd (false≢true (sym (ap is_some (fin.get-empty text_cmp v)) ∙ e));
}

-- a key that does not settle
unsettled : (likely : LikelySubtags) (x : DataLocale) → IsLocale x → is_settled_locale likely (maximal_locale likely x) ≡ false → HasUnsettled likely
unsettled likely x known fails = record {
  identifier = identifier_of x;
  is_identifier = is_identifier x known;
  unsettled = λ settled. false≢true (sym fails ∙ test-from_Stays likely (maximal_locale likely x) (ap subtags_of settled.bare) (ap subtags_of settled.fixed));
}

-- what the test of a key's maximal form tells
pub told : (likely : LikelySubtags) (k : LikelyKey) (m : DataLocale) → IsLocale (key_locale k) → m ≡ maximal_locale likely (key_locale k)
    → (b : Bool) → b ≡ is_settled_locale likely m → MatchBool b (settles likely k ≡ true) (HasUnsettled likely)
unfolding settles
told likely k m known is true e = ap (is_settled_locale likely) (sym is) ∙ sym e
told likely k m known is false e = unsettled likely (key_locale k) known (ap (is_settled_locale likely) (sym is) ∙ sym e)

-- ---- from the rows to every identifier

-- what is missing filled in, with the test of the language told
abbrev pub fill_by : Bool → DataLocale → Option Triple → DataLocale
fill_by b x None = x
fill_by b x (Some t) = record { language = (if b then t.0 else x.language); script = Some (unwrap_or x.script t.1); region = Some (unwrap_or x.region t.2) }

abbrev pub locale : List ℕ → Option (List ℕ) → Option (List ℕ) → DataLocale
locale l s r = record { language = l; script = s; region = r }

abbrev pub maximal_by : LikelySubtags → Bool → List ℕ → Option (List ℕ) → Option (List ℕ) → DataLocale
maximal_by likely b l s r = fill_by b (locale l s r) (first_found likely (if b then und_keys s r else known_keys l s r))

pub maximal-told : (likely : LikelySubtags) (b : Bool) (l : List ℕ) (s r : Option (List ℕ)) → bytes_eq l und ≡ b
    → maximal_of_bare likely (locale l s r) ≡ maximal_by likely b l s r
maximal-told likely b l s r e = ap (λ t. maximal_by likely t l s r) e

pub fill-full : (l s r : List ℕ) (found : Option Triple) → fill_by false (locale l (Some s) (Some r)) found ≡ locale l (Some s) (Some r)
fill-full l s r None = refl
fill-full l s r (Some t) = refl

module _ (likely : LikelySubtags) where
  stays : (y : DataLocale) → bare_locale y ≡ y → maximal_of_bare likely y ≡ y → Stays likely y
  stays y bare fixed = record { bare = bare; fixed = ap (maximal_of_bare likely) bare ∙ fixed }

  -- a bare locale into which nothing is filled
  same : (x : DataLocale) → bare_locale x ≡ x → maximal_of_bare likely x ≡ x → Stays likely (maximal_of_bare likely x)
  same x bare fixed = subst (Stays likely) (sym fixed) (stays x bare fixed)

  -- a known language with script and region
  full : (l s r : List ℕ) → bytes_eq l und ≡ false → bare_locale (locale l (Some s) (Some r)) ≡ locale l (Some s) (Some r)
      → Stays likely (locale l (Some s) (Some r))
  full l s r known bare = stays _ bare (maximal-told likely false l (Some s) (Some r) known ∙ fill-full l s r _)

  module _ (rows : (k : LikelyKey) (t : Triple) → likely k ≡ Some t → settles likely k ≡ true) where
    -- a bare locale with the subtags of a key that the table has
    own : (k : LikelyKey) (t : Triple) (x : DataLocale) → likely k ≡ Some t → key_locale k ≡ x → bare_locale x ≡ x → Stays likely (maximal_of_bare likely x)
    unfolding settles
    own k t x found is bare =
        let kept : Stays likely (maximal_locale likely (key_locale k)) = Stays-from_test likely _ (rows k t found) in
        subst (λ w. Stays likely (maximal_of_bare likely w)) bare (subst (λ w. Stays likely (maximal_locale likely w)) is kept)

    -- the shapes of a bare locale with a known language
    module _ (l : List ℕ) (known : bytes_eq l und ≡ false) where
      abbrev alone : DataLocale
      alone = locale l None None

      shape_alone : (found : Option Triple) → likely (LanguageAlone l) ≡ found → Stays likely (maximal_of_bare likely alone)
      shape_alone None e = same alone refl (maximal-told likely false l None None known ∙ ap (λ o. fill_by false alone (option_or o None)) e)
      shape_alone (Some t) e = own (LanguageAlone l) t alone e refl refl

      -- what the row of the language fills in is bare
      row_is_bare : (t : Triple) → likely (LanguageAlone l) ≡ Some t → Stays likely (locale l (Some t.1) (Some t.2))
      row_is_bare t e = subst (Stays likely) (maximal-told likely false l None None known
          ∙ ap (λ o. fill_by false alone (option_or o None)) e) (own (LanguageAlone l) t alone e refl refl)

      filled_region : (r : List ℕ) → known_subtag unknown_region (Some r) ≡ Some r → (found : Option Triple)
          → likely (LanguageAlone l) ≡ found → maximal_of_bare likely (locale l None (Some r)) ≡ fill_by false (locale l None (Some r))
          (option_or found None) → Stays likely (maximal_of_bare likely (locale l None (Some r)))
      filled_region r bare None f is = same _ (λ i. locale l None (bare i)) is
      filled_region r bare (Some t) f is =
          let script : known_subtag unknown_script (Some t.1) ≡ Some t.1 = ap (λ (w : DataLocale). w.script) (row_is_bare t f).bare in
          subst (Stays likely) (sym is) (full l t.1 r known (λ i. locale l (script i) (bare i)))

      shape_region : (r : List ℕ) → known_subtag unknown_region (Some r) ≡ Some r → (first second : Option Triple)
          → likely (LanguageRegion l r) ≡ first → likely (LanguageAlone l) ≡ second → Stays likely (maximal_of_bare likely (locale l None (Some r)))
      shape_region r bare (Some t) second e f = own (LanguageRegion l r) t _ e refl (λ i. locale l None (bare i))
      shape_region r bare None second e f = filled_region r bare second f (maximal-told likely false l None (Some r) known
          ∙ (λ i. fill_by false (locale l None (Some r)) (option_or (e i) (option_or (f i) None))))

      filled_script : (s : List ℕ) → known_subtag unknown_script (Some s) ≡ Some s → (found : Option Triple)
          → likely (LanguageAlone l) ≡ found → maximal_of_bare likely (locale l (Some s) None) ≡ fill_by false (locale l (Some s) None)
          (option_or found None) → Stays likely (maximal_of_bare likely (locale l (Some s) None))
      filled_script s bare None f is = same _ (λ i. locale l (bare i) None) is
      filled_script s bare (Some t) f is =
          let region : known_subtag unknown_region (Some t.2) ≡ Some t.2 = ap (λ (w : DataLocale). w.region) (row_is_bare t f).bare in
          subst (Stays likely) (sym is) (full l s t.2 known (λ i. locale l (bare i) (region i)))

      shape_script : (s : List ℕ) → known_subtag unknown_script (Some s) ≡ Some s → (first second : Option Triple)
          → likely (LanguageScript l s) ≡ first → likely (LanguageAlone l) ≡ second → Stays likely (maximal_of_bare likely (locale l (Some s) None))
      shape_script s bare (Some t) second e f = own (LanguageScript l s) t _ e refl (λ i. locale l (bare i) None)
      shape_script s bare None second e f = filled_script s bare second f (maximal-told likely false l (Some s) None known
          ∙ (λ i. fill_by false (locale l (Some s) None) (option_or (e i) (option_or (f i) None))))

      shape_full : (s r : List ℕ) → known_subtag unknown_script (Some s) ≡ Some s → known_subtag unknown_region (Some r) ≡ Some r
          → Stays likely (maximal_of_bare likely (locale l (Some s) (Some r)))
      shape_full s r bare_s bare_r = same _ (λ i. locale l (bare_s i) (bare_r i)) (maximal-told likely false l (Some s) (Some r) known ∙ fill-full l s r _)

    -- the shapes of a bare locale with the language `und`
    module _ (l : List ℕ) (unknown : bytes_eq l und ≡ true) where
      is_und : und ≡ l
      is_und = sym (same_text l und unknown)

      und_none : Stays likely (maximal_of_bare likely (locale l None None))
      und_none = same _ refl (maximal-told likely true l None None unknown)

      und_script : (s : List ℕ) → known_subtag unknown_script (Some s) ≡ Some s → (found : Option Triple) → likely (ScriptAlone s) ≡ found
          → Stays likely (maximal_of_bare likely (locale l (Some s) None))
      und_script s bare (Some t) e = own (ScriptAlone s) t _ e (λ i. locale (is_und i) (Some s) None) (λ i. locale l (bare i) None)
      und_script s bare None e = same _ (λ i. locale l (bare i) None) (maximal-told likely true l (Some s) None unknown
          ∙ ap (λ o. fill_by true (locale l (Some s) None) (option_or o None)) e)

      und_region : (r : List ℕ) → known_subtag unknown_region (Some r) ≡ Some r → (found : Option Triple) → likely (RegionAlone r) ≡ found
          → Stays likely (maximal_of_bare likely (locale l None (Some r)))
      und_region r bare (Some t) e = own (RegionAlone r) t _ e (λ i. locale (is_und i) None (Some r)) (λ i. locale l None (bare i))
      und_region r bare None e = same _ (λ i. locale l None (bare i)) (maximal-told likely true l None (Some r) unknown
          ∙ ap (λ o. fill_by true (locale l None (Some r)) (option_or o None)) e)

      -- script and region are there: the row gives at most a known language
      und_filled : (s r : List ℕ) → bare_locale (locale l (Some s) (Some r)) ≡ locale l (Some s) (Some r) → (t : Triple)
          → maximal_of_bare likely (locale l (Some s) (Some r)) ≡ locale t.0 (Some s) (Some r) → (b : Bool) → bytes_eq t.0 und ≡ b
          → Stays likely (maximal_of_bare likely (locale l (Some s) (Some r)))
      und_filled s r bare t is true e = same _ bare (is ∙ (λ i. locale ((same_text t.0 und e ∙ is_und) i) (Some s) (Some r)))
      und_filled s r bare t is false e = subst (Stays likely) (sym is) (full t.0 s r e
          (λ i. locale t.0 ((ap (λ (w : DataLocale). w.script) bare) i) ((ap (λ (w : DataLocale). w.region) bare) i)))

      und_full : (s r : List ℕ) → bare_locale (locale l (Some s) (Some r)) ≡ locale l (Some s) (Some r) → (found : Option Triple)
          → first_found likely (und_keys (Some s) (Some r)) ≡ found → Stays likely (maximal_of_bare likely (locale l (Some s) (Some r)))
      und_full s r bare None e = same _ bare (maximal-told likely true l (Some s) (Some r) unknown ∙ ap (fill_by true (locale l (Some s) (Some r))) e)
      und_full s r bare (Some t) e = und_filled s r bare t (maximal-told likely true l (Some s) (Some r) unknown
          ∙ ap (fill_by true (locale l (Some s) (Some r))) e) (bytes_eq t.0 und) refl

    by_shape : (l : List ℕ) (s r : Option (List ℕ)) → known_subtag unknown_script s ≡ s → known_subtag unknown_region r ≡ r → (b : Bool)
        → bytes_eq l und ≡ b → Stays likely (maximal_of_bare likely (locale l s r))
    by_shape l None None bs br false e = shape_alone l e _ refl
    by_shape l None (Some r) bs br false e = shape_region l e r br _ _ refl refl
    by_shape l (Some s) None bs br false e = shape_script l e s bs _ _ refl refl
    by_shape l (Some s) (Some r) bs br false e = shape_full l e s r bs br
    by_shape l None None bs br true e = und_none l e
    by_shape l None (Some r) bs br true e = und_region l e r br _ refl
    by_shape l (Some s) None bs br true e = und_script l e s bs _ refl
    by_shape l (Some s) (Some r) bs br true e = und_full l e s r (λ i. locale l (bs i) (br i)) _ refl

    every : (x : DataLocale) → Stays likely (maximal_locale likely x)
    every x = by_shape x.language (bare_locale x).script (bare_locale x).region (known_subtag-again unknown_script x.script)
        (known_subtag-again unknown_region x.region) (bytes_eq x.language und) refl

    -- a table whose rows' keys settle is settled
    pub AreSettled-from_rows : AreSettled likely
    AreSettled-from_rows x known =
        let kept = every (subtags_of x) in
        record { bare = ap (with_locale x) kept.bare; fixed = ap (with_locale x) kept.fixed }
