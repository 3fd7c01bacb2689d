-- Rules with the same rows bring identifiers and values to the same ends.
use Rattle.std.proofs.Common.{◌≡◌, ◌⊎◌, ℕ, Bool, true, false, List, [], ◌∷◌, Option, Some, None, IsSomeAnd, refl, ap, sym, subst, ◌∙◌, is_some, ◌||◌, option_map, zero, suc}
use Rattle.std.specs.Option.{option_and_then, option_or}
use Rattle.std.specs.Global.{Global}
use Rattle.std.specs.Prelude.{Vec}
use Rattle.std.proofs.lemmas.Map.Made.{lookup-map_values}
use Rattle.std.specs.BTreeMap.{is_at}
use Rattle.icu_locale_core.specs.Keywords.{KeywordRows}
use Rattle.icu_locale_core.specs.Maps.{value_at}
use Rattle.icu_locale_core.specs.TextSet.{text_cmp}
use Rattle.icu_locale_core.specs.declared.langid.LanguageIdentifier.{LanguageIdentifier}
use Rattle.icu_locale_core.specs.declared.locale.Locale.{Locale}
use Rattle.icu_locale.specs.Canonical.{IsCanonical, is_applied, next_value, rg, sd}
use Rattle.icu_locale.specs.Kinds.{by_complex_region, by_language_alias, by_region, by_rule, by_script, by_sign_region, by_variant, chosen, likely_region, next}
use Rattle.icu_locale.specs.LikelySubtags.{LikelySubtags}
use Rattle.icu_locale.specs.Refusals.{ComesAgainFirst, IdentifiersEnd, ValueComesAgainFirst, ValueRepeats}
use Rattle.icu_locale.specs.declared.canonicalizer.rules.Rules.{Rules}
use Rattle.icu_locale.specs.declared.expander.Favor.{Favor}
use Rattle.icu_locale_key.specs.Keys.{IsKey}
use Rattle.icu_locale_key.specs.Stable.{ComesRound, IsStableKey, IsStuck, Leads}
use Rattle.icu_locale_matching.specs.Header.{Wish}
use Rattle.icu_locale_matching.specs.Requests.{AreAsked, AreCanonical, AreRefusals, AreRequests, Asks, IsBrought, IsCanonicalOf, IsOnly, IsRefusal, IsRequest}
use Rattle.icu_locale_runs.specs.Run.{BecomesEnd, EndsAt, EndsIfAny, IsLaterEndOf, IsRepeat}
use Rattle.icu_tables.specs.Rows.{seen_rows}
use Rattle.icu_locale_lines.proofs.RulesRead.{SameRules}

-- rules make the same turns over a likely table
pub record TurnAlike (table : LikelySubtags) (r s : Rules) : Type 0 where
  pub turn : next table r ≡ next table s
  pub alias : by_language_alias r ≡ by_language_alias s
  pub value : next_value r ≡ next_value s

pub turned : (table : LikelySubtags) (r s : Rules) → TurnAlike table r s → TurnAlike table s r
turned table r s same = record { turn = sym same.turn; alias = sym same.alias; value = sym same.value }

-- ---- from the same rows

abbrev pub Regions : Type 0
Regions = Vec (List ℕ) Global

chosen_of : (likely : Option (List ℕ)) (o : Option Regions) → option_and_then (λ rs. chosen likely rs.items) o
    ≡ option_and_then (chosen likely) (option_map (λ (rs : Regions). rs.items) o)
chosen_of likely None = refl
chosen_of likely (Some rs) = refl

chosen_alike : (rows others : List (List ℕ × Regions)) → seen_rows (λ (rs : Regions). rs.items) rows ≡ seen_rows (λ (rs : Regions). rs.items) others
    → (likely : Option (List ℕ)) (region : Option (List ℕ))
    → option_and_then (λ rs. chosen likely rs.items) (option_and_then (value_at text_cmp rows) region)
    ≡ option_and_then (λ rs. chosen likely rs.items) (option_and_then (value_at text_cmp others) region)
chosen_alike rows others same likely None = refl
chosen_alike rows others same likely (Some r) =
    chosen_of likely (value_at text_cmp rows r)
    ∙ ap (option_and_then (chosen likely)) (sym (lookup-map_values (λ (rs : Regions). rs.items) (is_at (text_cmp r)) rows)
    ∙ ap (λ seen. value_at text_cmp seen r) same ∙ lookup-map_values (λ (rs : Regions). rs.items) (is_at (text_cmp r)) others)
    ∙ sym (chosen_of likely (value_at text_cmp others r))

module _ (table : LikelySubtags) (r s : Rules) (same : SameRules r s) where
  -- s, with the regions and the texts of r
  abbrev pub between : Rules
  between = record s {
    aliases = record s.aliases {
      language_variants = r.aliases.language_variants;
      language = r.aliases.language;
      language_len2 = r.aliases.language_len2;
      language_len3 = r.aliases.language_len3;
      complex_region = r.aliases.complex_region;
      subdivision = r.aliases.subdivision;
    };
  }

  moves : r ≡ between
  moves = λ i. record {
    language = same.language i;
    language_variants = same.language_variants i;
    language_len2 = same.language_len2 i;
    language_len3 = same.language_len3 i;
    subdivision = same.subdivision i;
    aliases = record {
      language_variants = r.aliases.language_variants;
      language = r.aliases.language;
      sgn_region = (same.aliases i).sgn_region;
      language_len2 = r.aliases.language_len2;
      language_len3 = r.aliases.language_len3;
      script = (same.aliases i).script;
      region_alpha = (same.aliases i).region_alpha;
      region_num = (same.aliases i).region_num;
      complex_region = r.aliases.complex_region;
      variant = (same.aliases i).variant;
      subdivision = r.aliases.subdivision;
    };
  }

  by_regions_alike : (x : LanguageIdentifier) → by_complex_region table between x ≡ by_complex_region table s x
  by_regions_alike x = ap (option_map (λ c. record x { region = Some c }))
      (chosen_alike r.aliases.complex_region s.aliases.complex_region (λ i. (same.aliases i).complex_region) (likely_region table x) x.region)

  pub turn_alike : TurnAlike table r s
  turn_alike = record {
    turn = ap (next table) moves ∙ (λ i x. option_or (by_rule s x) (option_or (by_sign_region s x)
        (option_or (by_language_alias s x) (option_or (by_script s x) (option_or (by_region s x)
        (option_or (by_regions_alike x i) (by_variant s x)))))));
    alias = ap by_language_alias moves;
    value = ap next_value moves;
  }

-- ---- canonical forms

module _ (table : LikelySubtags) (r s : Rules) (same : TurnAlike table r s) where
  pub ends_alike : (x y : LanguageIdentifier) → EndsAt (next table r) x y → EndsAt (next table s) x y
  ends_alike x y = subst (λ f. EndsAt f x y) same.turn

  pub canonical_alike : (old new : Locale) → IsCanonical table r old new → IsCanonical table s old new
  canonical_alike old new h = record {
    id = ends_alike old.id new.id h.id;
    transform = subst (λ f. BecomesEnd f old.extensions.transform.lang new.extensions.transform.lang) same.alias h.transform;
    keywords = record {
      region_override = h.keywords.region_override;
      subdivision = h.keywords.subdivision;
      region_override_end = subst (λ f. IsLaterEndOf f (value_at text_cmp old.extensions.unicode.keywords rg) h.keywords.region_override) same.value
          h.keywords.region_override_end;
      subdivision_end = subst (λ f. IsLaterEndOf f (value_at text_cmp old.extensions.unicode.keywords sd) h.keywords.subdivision) same.value
          h.keywords.subdivision_end;
      whole = h.keywords.whole;
    };
  }

  identifiers_alike : (old : Locale) → IdentifiersEnd table r old → IdentifiersEnd table s old
  identifiers_alike old h = record {
    id = (h.id.0, ends_alike old.id h.id.0 h.id.1);
    transform = subst (λ f. EndsIfAny f old.extensions.transform.lang) same.alias h.transform;
  }

  pub again_alike : (old : Locale) (z : LanguageIdentifier) → ComesAgainFirst table r old z → ComesAgainFirst table s old z
  again_alike old z = subst (λ (f : (LanguageIdentifier → Option LanguageIdentifier) × (LanguageIdentifier → Option LanguageIdentifier)).
      IsRepeat f.0 old.id z ⊎ (((y : LanguageIdentifier) × EndsAt f.0 old.id y) × IsSomeAnd old.extensions.transform.lang (λ l. IsRepeat f.1 l z)))
      (λ i. (same.turn i, same.alias i))

  repeats_alike : (keywords : KeywordRows) (v : List (List ℕ)) → ValueRepeats r keywords v → ValueRepeats s keywords v
  repeats_alike keywords v = subst (λ (f : List (List ℕ) → Option (List (List ℕ))).
      IsSomeAnd (value_at text_cmp keywords rg) (λ w. IsRepeat f w v)
      ⊎ (EndsIfAny f (value_at text_cmp keywords rg) × IsSomeAnd (value_at text_cmp keywords sd) (λ w. IsRepeat f w v))) same.value

  pub value_again_alike : (old : Locale) (v : List (List ℕ)) → ValueComesAgainFirst table r old v → ValueComesAgainFirst table s old v
  value_again_alike old v (ends, repeats) = (identifiers_alike old ends, repeats_alike old.extensions.unicode.keywords v repeats)

  pub applied_alike : (old : Locale) → is_applied table r old ≡ is_applied table s old
  applied_alike old = λ i. is_some (same.turn i old.id)
      || (is_some (option_and_then (same.alias i) old.extensions.transform.lang)
      || (is_some (option_and_then (same.value i) (value_at text_cmp old.extensions.unicode.keywords rg))
      || is_some (option_and_then (same.value i) (value_at text_cmp old.extensions.unicode.keywords sd))))

-- ---- requests

module _ (table : LikelySubtags) (r s : Rules) (same : TurnAlike table r s) where
  brought_alike : (x y : LanguageIdentifier) (ends : Bool) → IsBrought table r x ends y → IsBrought table s x ends y
  brought_alike x y true h = ends_alike table r s same x y h
  brought_alike x y false (none, is) = (λ z end. none z (ends_alike table s r (turned table r s same) x z end), is)

  form_alike : (x y : LanguageIdentifier) → IsCanonicalOf table r x y → IsCanonicalOf table s x y
  form_alike x y (ends, is) = (ends, brought_alike x y ends is)

  pub forms_alike : (xs ys : List LanguageIdentifier) → AreCanonical table r xs ys → AreCanonical table s xs ys
  forms_alike [] [] h = h
  forms_alike [] (y ∷ ys) h = absurd h
  forms_alike (x ∷ xs) [] h = absurd h
  forms_alike (x ∷ xs) (y ∷ ys) (of, more) = (form_alike x y of, forms_alike xs ys more)

  asks_alike : (bare_alone : Bool) (range : List ℕ) (y : LanguageIdentifier) → Asks bare_alone table r range y → Asks bare_alone table s range y
  asks_alike bare_alone range y h =
      record { tag = h.tag; known = h.known; spells = h.spells; plain = h.plain; canonical = form_alike h.tag.locale.id y h.canonical }

module _ (P Q : List ℕ → LanguageIdentifier → Type 0) (forth : (range : List ℕ) (y : LanguageIdentifier) → P range y → Q range y)
    (back : (range : List ℕ) (y : LanguageIdentifier) → Q range y → P range y) where
  only_alike : (range : List ℕ) (o : Option LanguageIdentifier) → IsOnly (P range) o → IsOnly (Q range) o
  only_alike range None none = λ y is. none y (back range y is)
  only_alike range (Some y) is = forth range y is

  asked_alike : (ws : List Wish) (ys : List LanguageIdentifier) → AreAsked P ws ys → AreAsked Q ws ys
  asked_alike [] ys h = h
  asked_alike (w ∷ ws) ys (o, rest, only, more, is) = (o, rest, only_alike w.0 o only, asked_alike ws rest more, is)

module _ (table : LikelySubtags) (r s : Rules) (same : TurnAlike table r s) (ws : List Wish) (ys : List LanguageIdentifier) where
  pub requests_alike : AreRequests table r ws ys → AreRequests table s ws ys
  requests_alike = asked_alike (IsRequest table r) (IsRequest table s) (asks_alike table r s same false) (asks_alike table s r (turned table r s same) false) ws ys

  pub refusals_alike : AreRefusals table r ws ys → AreRefusals table s ws ys
  refusals_alike = asked_alike (IsRefusal table r) (IsRefusal table s) (asks_alike table r s same true) (asks_alike table s r (turned table r s same) true) ws ys

-- ---- keys

module _ (favor : Favor) (table : LikelySubtags) (r s : Rules) (same : TurnAlike table r s) where
  key_alike : (x k : LanguageIdentifier) → IsKey favor table r x k → IsKey favor table s x k
  key_alike x k h = record { canonical = h.canonical; end = ends_alike table r s same x h.canonical h.end; minimal = h.minimal }

  leads_alike : (n : ℕ) (x y : LanguageIdentifier) → Leads favor table r n x y → Leads favor table s n x y
  leads_alike zero x y h = h
  leads_alike (suc n) x y (k, leads, (is, other)) = (k, leads_alike n x k leads, (key_alike k y is, other))

  pub stable_alike : (x y : LanguageIdentifier) → IsStableKey favor table r x y → IsStableKey favor table s x y
  stable_alike x y h = record { turns = h.turns; comes = leads_alike h.turns x y h.comes; own = key_alike y y h.own }

  pub stuck_alike : (x z : LanguageIdentifier) → IsStuck favor table r x z → IsStuck favor table s x z
  stuck_alike x z h = record {
    key = h.key;
    turns = h.turns;
    comes = leads_alike h.turns x h.key h.comes;
    repeats = subst (λ f. IsRepeat f h.key z) same.turn h.repeats;
  }

module _ (favor : Favor) (table : LikelySubtags) (r s : Rules) (same : TurnAlike table r s) where
  pub round_alike : (x z : LanguageIdentifier) → ComesRound favor table r x z → ComesRound favor table s x z
  round_alike x z h = record {
    place = h.place;
    here = leads_alike favor table r s same h.place x z h.here;
    later = h.later;
    after = h.after;
    again = leads_alike favor table r s same h.later x z h.again;
    first = λ i j y before sooner leads again. let back = turned table r s same in
        h.first i j y before sooner (leads_alike favor table s r back i x y leads) (leads_alike favor table s r back j x y again);
  }
