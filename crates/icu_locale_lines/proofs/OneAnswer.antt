-- A line has one answer at most.
use Rattle.std.proofs.Common.{◌≡◌, ◌≢◌, ◌↔◌, ◌⊎◌, ℕ, ◌<◌, ◌≤◌, Bool, false, List, [], ◌∷◌, Option, Some, None, Result, Ok, Err, refl}
use Rattle.std.proofs.Common.{◌++◌, ap, codes, sym, subst, ◌∙◌, inl, inr, arith, true}
use Rattle.std.proofs.lemmas.Option.{same_Some, none-some}
use Rattle.icu_locale_core.specs.Identifier.{written}
use Rattle.icu_locale_core.specs.declared.langid.LanguageIdentifier.{LanguageIdentifier}
use Rattle.icu_locale_names.specs.Pieces.{Piece}
use Rattle.icu_provider.specs.declared.error.DataError.{DataError}
use Rattle.icu_locale.specs.LikelySubtags.{LikelySubtags}
use Rattle.icu_locale.specs.LikelyTable.{likely}
use Rattle.icu_locale.specs.Minimal.{IsMinimalForm}
use Rattle.icu_locale.specs.declared.expander.Favor.{Favor}
use Rattle.icu_locale.specs.declared.expander.Favor.TheVariants.{RegionFirst, ScriptFirst}
use Rattle.icu_locale.specs.declared.expander.TransformResult.{TransformResult}
use Rattle.icu_locale.specs.declared.expander.TransformResult.TheVariants.{Modified, Unmodified}
use Rattle.icu_locale.specs.Canonical.{IsCanonical}
use Rattle.icu_locale.specs.Negotiation.{Negotiation, IsNegotiated}
use Rattle.icu_locale.specs.Refusals.{ComesAgainFirst, ValueComesAgainFirst, IsMemory, IsRefusal}
use Rattle.icu_locale.specs.declared.canonicalizer.CanonicalizeError.{CanonicalizeError}
use Rattle.icu_locale.specs.declared.canonicalizer.CanonicalizeError.TheVariants.{NoFixedPoint, NoSubdivisionFixedPoint}
use Rattle.icu_locale.specs.declared.canonicalizer.rules.Rules.{Rules}
use Rattle.icu_locale_core.specs.declared.locale.Locale.{Locale}
use Rattle.icu_locale_lines.specs.declared.work.Tools.{Tools}
use Rattle.icu_locale_lines.specs.declared.work.Tools.TheVariants as tools
use Rattle.icu_locale_extensions.specs.Built.{bare}
use Rattle.icu_locale_extensions.specs.Locales as extended
use Rattle.icu_locale_extensions.specs.declared.identifier.LocaleIdentifier.{LocaleIdentifier}
use Rattle.icu_locale_extensions.specs.declared.syntax.Syntax.{Syntax}
use Rattle.icu_locale_matching.specs.Service.{Service, IsServed, IsNearestTo, place_of}
use Rattle.icu_locale_matching.specs.declared.matcher.Match.{Match}
use Rattle.icu_provider.specs.declared.matching.LanguageMatching.{LanguageMatching}
use Rattle.icu_locale.specs.Canonical.{answer_of}
use Rattle.icu_locale_values.specs.Refusals.{IsWholeRefusal, whole_error_name}
use Rattle.icu_locale_values.specs.Refusals as values
use Rattle.icu_locale_values.specs.Whole.{WholeRules, IsWhole, is_whole_applied, whole_rules}
use Rattle.icu_locale_values.specs.declared.error.WholeError.{WholeError}
use Rattle.icu_locale_values.specs.declared.error.WholeError.TheVariants as whole_error
use Rattle.icu_locale_key.specs.Whole.{IsWholeKey, IsWholeKeyRefusal}
use Rattle.icu_locale_lines.specs.Wholes.{IsCanonicalThen, IsKeyed, IsWholeCanonicalized, TellsWholeRefusal, keyed}
use Rattle.icu_locale_lines.specs.Serving.{TellsResolved, TellsServed, IsNearestLine, IsResolvedLine, IsDistanceLine, IsWishAnswerTo, place_or_first}
use Rattle.icu_locale_lines.specs.declared.command.ServeTask.{ServeTask}
use Rattle.icu_locale_lines.specs.declared.command.Wishes.{Wishes}
use Rattle.icu_locale_matching.specs.Resolved.{resolved}
use Rattle.std.specs.List.{slice_get}
use Rattle.icu_locale_lines.specs.declared.command.Wishes.TheVariants.{Header, Requests, Resolved}
use Rattle.icu_locale_lines.specs.Lists.{ids_of, IsNegotiatedLine, TellsMatch, shown_at}
use Rattle.icu_locale_lines.specs.declared.work.form.Form.{Form}
use Rattle.icu_locale_lines.specs.declared.work.form.Form.TheVariants.{Maximize, Minimize, MinimizeScript}
use Rattle.icu_locale_lines.specs.Answers.{IsAnswerBy, IsReported, IsAnswerOf, IsCanonicalAnswer, IsForm, IsFormedLine, IsTransformed, IsDirected, IsNamed, IsParted, IsWholeParted}
use Rattle.icu_locale_lines.specs.Answers.{IsCanonicalized, IsCanonicalizedTo, IsNamedWith, IsWholeNamed, IsWholeTransformed, with_id}
use Rattle.icu_locale_lines.specs.declared.work.name.Naming.{Naming}
use Rattle.icu_locale_values.specs.declared.canonicalizer.WholeCanonicalizer.{WholeCanonicalizer}
use Rattle.icu_locale_lines.specs.Chains.{IsChained}
use Rattle.icu_locale_lines.specs.SubtagLists.{began, markers_of}
use Rattle.icu_locale_parts.specs.Parts.{members}
use Rattle.icu_provider.specs.declared.data_locale.DataLocale.{DataLocale}
use Rattle.icu_provider.specs.declared.names.NameKey.{NameKey}
use Rattle.icu_provider.specs.declared.names.NameMarker.{NameMarker}
use Rattle.icu_tables.specs.LentNames.{all_names}
use Rattle.icu_tables.specs.NamedKeys.{AreNamedKeys}
use Rattle.icu_locale_lines.specs.Names.{IsNamedLine, name_asked, whole_name_asked}
use Rattle.icu_locale_lines.specs.Texts.{changed_line, canonical_line, whole_line, refused_line, matched_line}
use Rattle.icu_locale_fallback.specs.declared.fallbacker.LocaleFallbackerWithConfig.{LocaleFallbackerWithConfig}
use Rattle.icu_locale_lines.proofs.Chains.{chained_one}
use Rattle.icu_locale_lines.proofs.Readings.{SameAnswer, SpellingFacts, same, read_one, alone_once, whole_once, listed_once, locale_once, wanted_once}

-- whether something was changed is told by what that means
result_one : {P : Type 0} (m n : TransformResult) → (m ≡ Modified) ↔ P → (n ≡ Modified) ↔ P → m ≡ n
result_one Modified Modified p q = refl
result_one Modified Unmodified p q = sym (q.1 (p.0 refl))
result_one Unmodified Modified p q = p.1 (q.0 refl)
result_one Unmodified Unmodified p q = refl

module _ (one two : List ℕ) (a b : Bool) where
  named_one : (r : Result (List Piece) DataError) → IsNamedLine r one a → IsNamedLine r two b → SameAnswer one two a b
  named_one (Ok pieces) h k = same h.0 k.0 refl h.1 k.1
  named_one (Err e) h k = same h.0 k.0 refl h.1 k.1

  module _ (minimal_one : (favor : Favor) (table : LikelySubtags) (x y z : LanguageIdentifier) → IsMinimalForm favor table x y
      → IsMinimalForm favor table x z → y ≡ z) where
    minimal_fits : (favor : Favor) (table : LikelySubtags) (x y z : LanguageIdentifier) (m n : TransformResult)
        → IsMinimalForm favor table x y × ((m ≡ Modified) ↔ (y ≢ x)) → IsMinimalForm favor table x z × ((n ≡ Modified) ↔ (z ≢ x)) → (y ≡ z) × (m ≡ n)
    minimal_fits favor table x y z m n p q =
        let e = minimal_one favor table x y z p.0 q.0 in
        (e, result_one m n p.1 (subst (λ w. (n ≡ Modified) ↔ (w ≢ x)) (sym e) q.1))

    form_one : (form : Form) (table : LikelySubtags) (x y z : LanguageIdentifier) (m n : TransformResult) → IsForm form table x y m
        → IsForm form table x z n → (y ≡ z) × (m ≡ n)
    form_one Maximize table x y z m n p q = (p.0 ∙ sym q.0, result_one m n p.1 q.1)
    form_one Minimize table x y z m n p q = minimal_fits RegionFirst table x y z m n p q
    form_one MinimizeScript table x y z m n p q = minimal_fits ScriptFirst table x y z m n p q

    formed_one : {A : Type 0} (id : A → LanguageIdentifier) (written_with : A → LanguageIdentifier → List ℕ) (form : Form) (table : LikelySubtags)
        (x : A) → IsFormedLine id written_with form table x one a → IsFormedLine id written_with form table x two b → SameAnswer one two a b
    formed_one id written_with form table x h k =
        let e = form_one form table (id x) h.0 k.0 h.1 k.1 h.2 k.2 in
        same h.3 k.3 (λ i. changed_line (written_with x (e.0 i)) (e.1 i)) h.4 k.4

-- the facts of canonicalization that are cited
pub record CanonicalFacts (likely : LikelySubtags) (rules : Rules) : Type 0 where
  pub one : (old new other : Locale) → IsCanonical likely rules old new → IsCanonical likely rules old other → new ≡ other
  pub refused : (old new : Locale) (e : CanonicalizeError) → IsCanonical likely rules old new → IsRefusal likely rules old e → IsMemory e
  pub apart : (old : Locale) (z : LanguageIdentifier) (v : List (List ℕ)) → ComesAgainFirst likely rules old z → ValueComesAgainFirst likely rules old v → ⊥

-- the facts of whole canonical forms that are cited
pub record WholeFacts : Type 0 where
  pub one : (by : WholeRules) (old new other : LocaleIdentifier) → IsWhole by old new → IsWhole by old other → new ≡ other
  pub none : (by : WholeRules) (old new : LocaleIdentifier) (e : WholeError) → IsWhole by old new → IsWholeRefusal by old e → values.IsMemory e
  pub once : (by : WholeRules) (old : LocaleIdentifier) (e f : WholeError) → IsWholeRefusal by old e → IsWholeRefusal by old f
      → ¬ (values.IsMemory e) → ¬ (values.IsMemory f) → e ≡ f

-- the facts of keys that are cited
pub record KeyFacts : Type 0 where
  pub one : (by : WholeRules) (x k l : LocaleIdentifier) → IsWholeKey by x k → IsWholeKey by x l → k ≡ l
  pub none : (by : WholeRules) (x k : LocaleIdentifier) (e : WholeError) → IsWholeKey by x k → IsWholeKeyRefusal by x e → values.IsMemory e
  pub once : (by : WholeRules) (x : LocaleIdentifier) (e f : WholeError) → IsWholeKeyRefusal by x e → IsWholeKeyRefusal by x f
      → ¬ (values.IsMemory e) → ¬ (values.IsMemory f) → e ≡ f

module _ (facts : WholeFacts) (by : WholeRules) (x : LocaleIdentifier) (one two : List ℕ) (a b : Bool) where
  no_line : (e : WholeError) (text : List ℕ) (accepted : Bool) → TellsWholeRefusal e text accepted → values.IsMemory e → ⊥
  no_line whole_error.Memory text accepted tells memory = tells
  no_line (whole_error.NoFixedPoint z) text accepted tells memory = memory
  no_line (whole_error.NoSubdivisionFixedPoint v) text accepted tells memory = memory
  no_line (whole_error.NoValueFixedPoint key v) text accepted tells memory = memory
  no_line (whole_error.NoFieldFixedPoint key v) text accepted tells memory = memory

  told : (e : WholeError) (text : List ℕ) (accepted : Bool) → TellsWholeRefusal e text accepted
      → (text ≡ refused_line (whole_error_name e)) × (accepted ≡ false)
  told whole_error.Memory text accepted tells = absurd tells
  told (whole_error.NoFixedPoint z) text accepted tells = tells
  told (whole_error.NoSubdivisionFixedPoint v) text accepted tells = tells
  told (whole_error.NoValueFixedPoint key v) text accepted tells = tells
  told (whole_error.NoFieldFixedPoint key v) text accepted tells = tells

  -- the canonical form has one line where each form has
  module _ (IsLine : LocaleIdentifier → List ℕ → Bool → Type 0)
      (line_one : (new : LocaleIdentifier) → IsLine new one a → IsLine new two b → SameAnswer one two a b) where
    canonical_then_one : IsCanonicalThen IsLine by x one a → IsCanonicalThen IsLine by x two b → SameAnswer one two a b
    canonical_then_one (inl (new, is, line)) (inl (other, is', line')) =
        line_one new line (subst (λ form. IsLine form two b) (sym (facts.one by x new other is is')) line')
    canonical_then_one (inl (new, is, line)) (inr (e, why, tells)) = absurd (no_line e two b tells (facts.none by x new e is why))
    canonical_then_one (inr (e, why, tells)) (inl (new, is, line)) = absurd (no_line e one a tells (facts.none by x new e is why))
    canonical_then_one (inr h) (inr k) =
        let e = facts.once by x h.0 k.0 h.1 k.1 (no_line h.0 one a h.2) (no_line k.0 two b k.2) in
        let first = told h.0 one a h.2 in
        let second = told k.0 two b k.2 in
        same first.0 second.0 (ap (λ e. refused_line (whole_error_name e)) e) first.1 second.1

  whole_canonicalized_one : IsWholeCanonicalized by x one a → IsWholeCanonicalized by x two b → SameAnswer one two a b
  whole_canonicalized_one =
      canonical_then_one (λ new t c. (t ≡ whole_line new (answer_of (is_whole_applied by x))) × (c ≡ true)) (λ new h k. same h.0 k.0 refl h.1 k.1)

  module _ (keys : KeyFacts) where
    keyed_one : IsKeyed by x one a → IsKeyed by x two b → SameAnswer one two a b
    keyed_one (inl (k, m, is, changed, text, accepted)) (inl (l, n, also, other, text', accepted')) =
        let e = keys.one by x k l is also in
        let f = result_one m n changed (subst (λ w. (n ≡ Modified) ↔ (w ≢ x)) (sym e) other) in
        same text text' (λ i. whole_line (e i) (f i)) accepted accepted'
    keyed_one (inl h) (inr k) = absurd (no_line k.0 two b k.2 (keys.none by x h.0 k.0 h.2 k.1))
    keyed_one (inr h) (inl k) = absurd (no_line h.0 one a h.2 (keys.none by x k.0 h.0 k.2 h.1))
    keyed_one (inr h) (inr k) =
        let e = keys.once by x h.0 k.0 h.1 k.1 (no_line h.0 one a h.2) (no_line k.0 two b k.2) in
        let first = told h.0 one a h.2 in
        let second = told k.0 two b k.2 in
        same first.0 second.0 (ap (λ e. refused_line (whole_error_name e)) e) first.1 second.1

module _ (line_of : Locale → TransformResult → List ℕ) (likely : LikelySubtags) (rules : Rules) (facts : CanonicalFacts likely rules) (old : Locale) where
  canonical_line_one : (m : TransformResult) (new other : Locale) → IsCanonical likely rules old new → IsCanonical likely rules old other
      → line_of new m ≡ line_of other m
  canonical_line_one m new other c d = ap (λ l. line_of l m) (facts.one old new other c d)

  canonicalized_one : (one two : List ℕ) (a b : Bool) → IsCanonicalizedTo line_of likely rules old one a
      → IsCanonicalizedTo line_of likely rules old two b → SameAnswer one two a b
  canonicalized_one one two a b (inl h) (inl k) = same h.2 k.2 (canonical_line_one _ h.0 k.0 h.1 k.1) h.3 k.3
  canonicalized_one one two a b (inl h) (inr (inl k)) = absurd (facts.refused old h.0 (NoFixedPoint k.0) h.1 k.1)
  canonicalized_one one two a b (inl h) (inr (inr k)) = absurd (facts.refused old h.0 (NoSubdivisionFixedPoint k.0) h.1 k.1)
  canonicalized_one one two a b (inr (inl h)) (inl k) = absurd (facts.refused old k.0 (NoFixedPoint h.0) k.1 h.1)
  canonicalized_one one two a b (inr (inr h)) (inl k) = absurd (facts.refused old k.0 (NoSubdivisionFixedPoint h.0) k.1 h.1)
  canonicalized_one one two a b (inr (inl h)) (inr (inl k)) = same h.2 k.2 refl h.3 k.3
  canonicalized_one one two a b (inr (inl h)) (inr (inr k)) = absurd (facts.apart old h.0 k.0 h.1 k.1)
  canonicalized_one one two a b (inr (inr h)) (inr (inl k)) = absurd (facts.apart old k.0 h.0 k.1 h.1)
  canonicalized_one one two a b (inr (inr h)) (inr (inr k)) = same h.2 k.2 refl h.3 k.3

first_one : (i j k l : ℕ) → (i < k) ⊎ ((i ≡ k) × (j ≤ l)) → (k < i) ⊎ ((k ≡ i) × (l ≤ j)) → (i ≡ k) × (j ≡ l)
first_one i j k l (inl p) (inl q) = (omega (arith, p, q), omega (arith, p, q))
first_one i j k l (inl p) (inr q) = (omega (arith, p, q.0), omega (arith, p, q.0))
first_one i j k l (inr p) (inl q) = (omega (arith, p.0, q), omega (arith, p.0, q))
first_one i j k l (inr p) (inr q) = (p.0, omega (arith, p.1, q.1))

-- what is served is one
module _ (available : List LanguageIdentifier) (wholes : List LocaleIdentifier) (one two : List ℕ) where
  told_one : (found other : Option ℕ) → found ≡ other → TellsServed available wholes found one → TellsServed available wholes other two → one ≡ two
  told_one None None same h k = h ∙ sym k
  told_one None (Some j) same h k = absurd (none-some j same)
  told_one (Some i) None same h k = absurd (none-some i (sym same))
  told_one (Some i) (Some j) same h k =
      let place = same_Some i j same in
      let e = same_Some h.0 k.0 (sym h.1 ∙ ap (shown_at available wholes) place ∙ k.1) in
      h.2 ∙ (λ n. matched_line (place n) (e n)) ∙ sym k.2

  -- so is what is resolved
  resolved_one : (how : ServeTask) (wanted : List LocaleIdentifier) (found other : Option Match) → found ≡ other
      → TellsResolved how available wholes wanted found one → TellsResolved how available wholes wanted other two → one ≡ two
  resolved_one how wanted None None same h k = told_one (place_or_first how available None) (place_or_first how available None) refl h k
  resolved_one how wanted None (Some n) same h k = absurd (none-some n same)
  resolved_one how wanted (Some m) None same h k = absurd (none-some m (sym same))
  resolved_one how wanted (Some m) (Some n) same h k =
      let found = same_Some m n same in
      let served = same_Some h.0 k.0 (sym h.1 ∙ ap (λ (x : Match). slice_get available x.available) found ∙ k.1) in
      let own = same_Some h.2 k.2 (sym h.3 ∙ ap (λ (x : Match). slice_get wanted x.request) found ∙ k.3) in
      h.4 ∙ (λ i. matched_line (found i).available (extended.written (resolved (served i) (own i)))) ∙ sym k.4

-- what is negotiated is one
module _ (table : LikelySubtags) (requests available : List LanguageIdentifier) (wholes : List LocaleIdentifier) (one two : List ℕ) where
  negotiated_one : (found other : Option (ℕ × ℕ)) → IsNegotiated table requests available found
      → IsNegotiated table requests available other → TellsMatch available wholes found one → TellsMatch available wholes other two → one ≡ two
  negotiated_one None None p q h k = h ∙ sym k
  negotiated_one None (Some n) p q h k = absurd (p n.0 n.1 q.matches)
  negotiated_one (Some m) None p q h k = absurd (q m.0 m.1 p.matches)
  negotiated_one (Some m) (Some n) p q h k =
      let places = first_one m.0 m.1 n.0 n.1 (p.first n.0 n.1 q.matches) (q.first m.0 m.1 p.matches) in
      let e = same_Some h.0 k.0 (sym h.1 ∙ ap (shown_at available wholes) places.1 ∙ k.1) in
      h.2 ∙ (λ i. matched_line (places.0 i) (e i)) ∙ sym k.2

-- the keys that are named are one list
abbrev pub KeysAreOne : Type 0
KeysAreOne = (rows : List ((NameMarker × DataLocale × NameKey) × List ℕ)) (markers : List NameMarker) (locale : DataLocale)
    (keys others : List NameKey) → AreNamedKeys rows markers locale keys → AreNamedKeys rows markers locale others → keys ≡ others

module _ (spelling : SpellingFacts) (minimal_one : (favor : Favor) (table : LikelySubtags) (x y z : LanguageIdentifier)
    → IsMinimalForm favor table x y → IsMinimalForm favor table x z → y ≡ z)
    (facts : (likely : LikelySubtags) (rules : Rules) → CanonicalFacts likely rules) (wholes : WholeFacts) (keys : KeyFacts)
    (served_once : (s : Service) (header : List ℕ) (a b : Option ℕ) → IsServed s header a → IsServed s header b → a ≡ b)
    (nearest_once : (s : Service) (requests : List LanguageIdentifier) (a b : Option Match) → IsNearestTo s requests a
    → IsNearestTo s requests b → a ≡ b) (one_list : KeysAreOne) (line one two : List ℕ) (a b : Bool) where
  same_chain : (f : LocaleFallbackerWithConfig) (x : LanguageIdentifier) → IsChained f x one a → IsChained f x two b → SameAnswer one two a b
  same_chain f x p q = let e = chained_one f x one two a b p q in record { text = e.0; accepted = e.1 }

  negotiated_line_one : (n : Negotiation) (ws : List LocaleIdentifier) (xs : List LanguageIdentifier) → IsNegotiatedLine n ws xs one a
      → IsNegotiatedLine n ws xs two b → SameAnswer one two a b
  negotiated_line_one n ws xs h k =
      record { text = negotiated_one (likely n.expander) xs n.available ws one two h.0 k.0 h.1 k.1 h.2 k.2; accepted = h.3 ∙ sym k.3 }

  nearest_line_one : (how : ServeTask) (s : Service) (ws : List LocaleIdentifier) (xs : List LanguageIdentifier) → IsNearestLine how s ws xs one a
      → IsNearestLine how s ws xs two b → SameAnswer one two a b
  nearest_line_one how s ws xs h k =
      let found = ap (λ m. place_or_first how s.available (place_of m)) (nearest_once s xs h.0 k.0 h.1 k.1) in record {
        text = told_one s.available ws one two (place_or_first how s.available (place_of h.0)) (place_or_first how s.available (place_of k.0)) found h.2 k.2;
        accepted = h.3 ∙ sym k.3;
      }

  resolved_line_one : (how : ServeTask) (s : Service) (ws wanted : List LocaleIdentifier) → IsResolvedLine how s ws wanted one a
      → IsResolvedLine how s ws wanted two b → SameAnswer one two a b
  resolved_line_one how s ws wanted h k = record {
    text = resolved_one s.available ws one two how wanted h.0 k.0 (nearest_once s (ids_of wanted) h.0 k.0 h.1 k.1) h.2 k.2;
    accepted = h.3 ∙ sym k.3;
  }

  distance_line_one : (t : LanguageMatching) (table : LikelySubtags) (xs : List LanguageIdentifier) → IsDistanceLine t table xs one a
      → IsDistanceLine t table xs two b → SameAnswer one two a b
  distance_line_one t table [] h k = same h.0 k.0 refl h.1 k.1
  distance_line_one t table (d ∷ []) h k = same h.0 k.0 refl h.1 k.1
  distance_line_one t table (d ∷ s ∷ []) h k = same h.0 k.0 refl h.1 k.1
  distance_line_one t table (d ∷ s ∷ x ∷ xs) h k = same h.0 k.0 refl h.1 k.1

  wish_one : (wishes : Wishes) (syntax : Option Syntax) (how : ServeTask) (s : Service) (ws : List LocaleIdentifier)
      → IsWishAnswerTo wishes syntax how s ws line one a → IsWishAnswerTo wishes syntax how s ws line two b → SameAnswer one two a b
  wish_one Header syntax how s ws h k =
      let place = ap (place_or_first how s.available) (served_once s line h.0 k.0 h.1 k.1) in record {
        text = told_one s.available ws one two (place_or_first how s.available h.0) (place_or_first how s.available k.0) place h.2 k.2;
        accepted = h.3 ∙ sym k.3;
      }
  wish_one Requests syntax how s ws h k =
      read_one (listed_once spelling syntax) one two a b (IsNearestLine how s ws) (nearest_line_one how s ws) line h k
  wish_one Resolved syntax how s ws h k =
      read_one (wanted_once spelling syntax) one two a b (IsResolvedLine how s ws) (resolved_line_one how s ws) line h k

  -- the answer to an identifier, alone or with extensions, is one where its line is
  answer_of_one : (syntax : Option Syntax) (IsLine : LanguageIdentifier → List ℕ → Bool → Type 0)
      (IsWhole : LocaleIdentifier → List ℕ → Bool → Type 0)
      → ((x : LanguageIdentifier) → IsLine x one a → IsLine x two b → SameAnswer one two a b)
      → ((x : LocaleIdentifier) → IsWhole x one a → IsWhole x two b → SameAnswer one two a b)
      → IsAnswerOf syntax IsLine IsWhole line one a → IsAnswerOf syntax IsLine IsWhole line two b → SameAnswer one two a b
  answer_of_one None IsLine IsWhole line_one whole_one h k = read_one (alone_once spelling) one two a b IsLine line_one line h k
  answer_of_one (Some s) IsLine IsWhole line_one whole_one h k = read_one (whole_once spelling s) one two a b IsWhole whole_one line h k

  canonical_answer_one : (syntax : Option Syntax) (by : WholeRules) → IsCanonicalAnswer syntax by line one a
      → IsCanonicalAnswer syntax by line two b → SameAnswer one two a b
  canonical_answer_one None by h k = read_one (locale_once spelling) one two a b (IsCanonicalized by.likely by.rules)
      (λ x p q. canonicalized_one canonical_line by.likely by.rules (facts by.likely by.rules) x one two a b p q) line h k
  canonical_answer_one (Some s) by h k = read_one (whole_once spelling s) one two a b (IsWholeCanonicalized by)
      (λ x p q. whole_canonicalized_one wholes by x one two a b p q) line h k

  named_with_one : (n : Naming) (by : Option WholeCanonicalizer) (x : LocaleIdentifier) → IsNamedWith n by x one a → IsNamedWith n by x two b
      → SameAnswer one two a b
  named_with_one n None x = named_one one two a b (whole_name_asked n x)
  named_with_one n (Some by) x = canonical_then_one wholes (whole_rules by) x one two a b
      (λ new. IsNamedLine (whole_name_asked n new)) (λ new. named_one one two a b (whole_name_asked n new))

  pub answer_by_one : (syntax : Option Syntax) (work : Tools) → IsAnswerBy syntax work line one a → IsAnswerBy syntax work line two b → SameAnswer one two a b
  answer_by_one syntax (tools.Form form e) h k = answer_of_one syntax (IsTransformed form (likely e)) (IsWholeTransformed form (likely e))
      (formed_one one two a b minimal_one (λ x. x) (λ x y. written y) form (likely e))
      (formed_one one two a b minimal_one (λ x. x.locale.id) (λ x y. extended.written (with_id x y)) form (likely e)) h k
  answer_by_one syntax (tools.Canonicalize c) h k = canonical_answer_one syntax (whole_rules c) h k
  answer_by_one syntax (tools.Direction d) h k = answer_of_one syntax (IsDirected d) (λ x. IsDirected d x.locale.id)
      (λ x p q. same p.0 q.0 refl p.1 q.1) (λ x p q. same p.0 q.0 refl p.1 q.1) h k
  answer_by_one syntax (tools.Negotiate n o) h k = read_one (listed_once spelling syntax) one two a b
      (IsNegotiatedLine n o.now.wholes.items) (negotiated_line_one n o.now.wholes.items) line h k
  answer_by_one syntax (tools.Serve how s o) h k = wish_one how.wishes syntax how s o.now.wholes.items h k
  answer_by_one syntax (tools.Distance e matching) h k = read_one (listed_once spelling syntax) one two a b
      (IsDistanceLine matching.now (likely e)) (distance_line_one matching.now (likely e)) line h k
  answer_by_one syntax (tools.Name n) h k = answer_of_one syntax (IsNamed n) (IsWholeNamed n)
      (λ x p q. named_one one two a b (name_asked n x) p q) (λ x p q. named_with_one n n.canonicalizer x p q) h k
  answer_by_one syntax (tools.Fallback f) h k = answer_of_one syntax (IsChained f) (λ x. IsChained f x.locale.id)
      (same_chain f) (λ x p q. same_chain f x.locale.id p q) h k
  answer_by_one syntax tools.Parts h k = answer_of_one syntax IsParted IsWholeParted
      (λ x p q. same p.0 q.0 refl p.1 q.1) (λ x p q. same p.0 q.0 refl p.1 q.1) h k
  answer_by_one syntax (tools.Key of c) h k = answer_of_one syntax (λ x. IsKeyed (whole_rules c) (bare x))
      (λ x. IsKeyed (whole_rules c) (keyed of x)) (λ x p q. keyed_one wholes (whole_rules c) (bare x) one two a b keys p q)
      (λ x p q. keyed_one wholes (whole_rules c) (keyed of x) one two a b keys p q) h k
  answer_by_one syntax (tools.Validate v) h k = answer_of_one syntax (λ x. IsReported v.now line (bare x)) (IsReported v.now line)
      (λ x p q. same p.0 q.0 refl p.1 q.1) (λ x p q. same p.0 q.0 refl p.1 q.1) h k
  answer_by_one syntax (tools.SubtagName n) h k = same h.0 k.0 refl h.1 k.1
  answer_by_one syntax (tools.Exemplars set) h k = same h.0 k.0 refl h.1 k.1
  answer_by_one syntax (tools.Subtags list) (keys, are, told, accepted) (others, also, told', accepted') =
      same told told' (ap (λ ks. members (began list.kind line ks) ++ codes "\n")
      (one_list (all_names list.tables.now) (markers_of list.kind) list.locale keys others are also)) accepted accepted'
