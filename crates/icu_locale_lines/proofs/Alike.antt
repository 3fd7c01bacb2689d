-- A line that holds identifiers alone is answered alike with a syntax and without.
use Rattle.std.proofs.Common.{◌≡◌, ◌↔◌, ℕ, Bool, false, List, [], ◌∷◌, ◌++◌, map, Option, None, Some, refl, ap, sym, subst, ◌∙◌, inl, inr, append-nil}
use Rattle.std.specs.Prelude.{codes}
use Rattle.std.specs.List.{AllZip, join_by, list_any, position}
use Rattle.std.specs.List.Sorted.{IsStrictlySortedBy}
use Rattle.icu_locale_core.specs.Identifier.{IsIdentifier, Spells, pieces, subtags}
use Rattle.icu_locale_core.specs.Identifier as core
use Rattle.icu_locale_core.specs.TextSet.{rising}
use Rattle.icu_locale_core.specs.declared.langid.LanguageIdentifier.{LanguageIdentifier}
use Rattle.icu_locale_core.specs.declared.locale.Locale.{Locale}
use Rattle.icu_locale_core.specs.declared.parse_error.ParseError.TheVariants as parsing
use Rattle.icu_locale_extensions.specs.Locales.{IsLocaleIdentifier}
use Rattle.icu_locale_extensions.specs.Locales as whole
use Rattle.icu_locale_extensions.specs.Built.{bare}
use Rattle.icu_locale_extensions.specs.Extensions.{is_singleton}
use Rattle.icu_locale_extensions.specs.Syntaxes.{IsFaultBy, SpellsBy, starts_by}
use Rattle.icu_locale_extensions.specs.declared.identifier.LocaleIdentifier.{LocaleIdentifier}
use Rattle.icu_locale_extensions.specs.declared.syntax.Syntax.{Syntax}
use Rattle.icu_locale_extensions.specs.declared.syntax.Syntax.TheVariants.{Unicode}
use Rattle.icu_locale.specs.Canonical.{IsCanonical, answer_of, is_applied, put_optional, rg, sd, without_extensions}
use Rattle.icu_locale.specs.Kinds.{next}
use Rattle.icu_locale_runs.specs.Run.{EndsAt}
use Rattle.icu_locale_parts.specs.Parts.{identifier_parts, identifier_parts_text, parts_text, tabbed}
use Rattle.icu_locale_values.specs.Refusals.{FirstRunsEnd, IsWholeRefusal}
use Rattle.icu_locale_values.specs.Whole.{WholeRules, IsWhole, AreMaps, whole_rules}
use Rattle.icu_locale_values.specs.declared.error.WholeError.{WholeError}
use Rattle.icu_locale_values.specs.declared.error.WholeError.TheVariants.{Memory, NoFixedPoint, NoSubdivisionFixedPoint, NoValueFixedPoint, NoFieldFixedPoint}
use Rattle.icu_locale_lines.specs.Wholes.{IsKeyed, IsWholeCanonicalized, TellsWholeRefusal, keyed}
use Rattle.icu_locale_lines.specs.declared.command.KeyOf.{KeyOf}
use Rattle.icu_locale_lines.specs.declared.command.KeyOf.TheVariants.{Whole, Identifier}
use Rattle.icu_locale.specs.LikelySubtags.{LikelySubtags}
use Rattle.icu_locale.specs.LikelyTable.{likely}
use Rattle.icu_locale.specs.declared.canonicalizer.rules.Rules.{Rules}
use Rattle.icu_locale.specs.declared.expander.TransformResult.{TransformResult}
use Rattle.icu_locale_lines.specs.Answers.{IsAnswerBy, IsIdentifierAnswer, IsLocaleAnswer, IsSpelledAnswer, IsCanonicalized, IsReported, IsParted, IsWholeParted, WishesIdentifiers}
use Rattle.icu_locale_lines.specs.Answers.{IsDirected, IsNamed, IsNamedWith, IsWholeNamed, IsTransformed, IsWholeTransformed}
use Rattle.icu_locale_lines.specs.Answers.{HoldsIdentifiers}
use Rattle.icu_locale_lines.specs.Names.{answers_in, name_asked, name_asked_with, IsNamedLine}
use Rattle.icu_locale_lines.specs.declared.work.name.Naming.{Naming}
use Rattle.icu_locale_full_names.specs.FullNames.{full_name_of}
use Rattle.icu_locale_names.specs.LanguageChains.{LanguageChain, chain_of}
use Rattle.icu_locale_names.specs.LanguageNames.{LocaleAnswers, name_of}
use Rattle.icu_locale_names.specs.declared.options.LanguageDisplay.{LanguageDisplay}
use Rattle.icu_locale_names.specs.declared.options.LanguageDisplay.TheVariants.{Dialect}
use Rattle.icu_provider.specs.declared.extension_names.ExtensionNames.{ExtensionNames}
use Rattle.std.specs.Borrow.{Bor}
use Rattle.icu_locale_lines.specs.Chains.{IsChained}
use Rattle.icu_locale_lines.specs.Lists.{IsListedAnswer, IsNegotiatedLine, IsWantedAnswer, SpellsAll, SpellsIn, SpellsWanted, SpellsWhole, listed}
use Rattle.icu_locale_lines.specs.Serving.{IsNearestLine, IsResolvedLine, IsDistanceLine, IsWishAnswerTo}
use Rattle.icu_locale_lines.specs.declared.command.ServeTask.{ServeTask}
use Rattle.icu_locale_lines.specs.declared.command.Wishes.{Wishes}
use Rattle.icu_locale_lines.specs.declared.command.Wishes.TheVariants.{Header, Requests, Resolved}
use Rattle.icu_locale_matching.specs.Service.{Service}
use Rattle.icu_locale_lines.specs.Locales.{is_tab}
use Rattle.icu_locale_lines.specs.Texts.{canonical_line, transformed_line, whole_line, mark}
use Rattle.icu_locale_lines.specs.declared.work.form.Form.{Form}
use Rattle.icu_locale_lines.specs.declared.work.Tools.{Tools}
use Rattle.icu_locale_lines.specs.declared.work.Tools.TheVariants as tools
use Rattle.icu_locale_lines.proofs.LineAnswers.{spelled_alone}
use Rattle.icu_locale_lines.proofs.Readings.{SpellingFacts, read_alike, alone_once, whole_once, listed_once, locale_once, wanted_once}

-- ---- how an identifier is written

pub written_bare : (y : LanguageIdentifier) → whole.written (bare y) ≡ core.written y
written_bare y = ap (λ ps. join_by (λ p. p) (codes "-") ps) (append-nil (subtags y (rising y.variants)))

pub line_bare : (y : LanguageIdentifier) (m : TransformResult) → whole_line (bare y) m ≡ transformed_line y m
line_bare y m = ap (λ t. t ++ (codes "\t" ++ (mark m ++ codes "\n"))) (written_bare y)

parts_bare : (y : LanguageIdentifier) → parts_text (bare y) ++ codes "\n" ≡ identifier_parts_text y ++ codes "\n"
parts_bare y = ap (λ t. (t ++ (tabbed (identifier_parts y) ++ codes "\t\t\t\t\t\t")) ++ codes "\n") (written_bare y)

-- ---- the canonical form of an identifier has no extensions

module _ (table : LikelySubtags) (rules : Rules) (x : LanguageIdentifier) (new : Locale) (canonical : IsCanonical table rules (without_extensions x) new) where
  no_extensions : new ≡ without_extensions new.id
  no_extensions =
      let keywords : new.extensions.unicode.keywords ≡ [] = canonical.keywords.whole
      ∙ (λ i. put_optional (put_optional [] rg (canonical.keywords.region_override_end i)) sd (canonical.keywords.subdivision_end i)) in
      let lang : new.extensions.transform.lang ≡ None = canonical.transform in
      λ i. record { id = new.id; extensions = record { unicode = record { keywords = keywords i }; transform = record { lang = lang i } } }

bare_maps : (z : LanguageIdentifier) → AreMaps (bare z)
unfolding IsStrictlySortedBy
bare_maps z = record { keywords = tt; fields = tt }

-- the bare locale identifier of the end of a run is the whole canonical form of a bare one
module _ (by : WholeRules) (x z : LanguageIdentifier) (ends : EndsAt (next by.likely by.rules) x z) where
  whole_bare : IsWhole by (bare x) (bare z)
  whole_bare = record {
    locale = record { id = ends; transform = refl; keywords = λ key. refl };
    fields = λ key. refl;
    attributes = refl;
    others = refl;
    private_use = refl;
    maps = bare_maps z;
  }

  canonical_bare : IsCanonical by.likely by.rules (without_extensions x) (without_extensions z)
  canonical_bare = record {
    id = ends;
    transform = refl;
    keywords = record { region_override = None; subdivision = None; region_override_end = refl; subdivision_end = refl; whole = refl };
  }

-- the forms of a locale identifier are one
abbrev pub HasOneForm : Type 0
HasOneForm = (by : WholeRules) (old new other : LocaleIdentifier) → IsWhole by old new → IsWhole by old other → new ≡ other

module _ (one : HasOneForm) (by : WholeRules) (x : LanguageIdentifier) (text : List ℕ) (a : Bool) where
  to_canonical : IsWholeCanonicalized by (bare x) text a → IsCanonicalized by.likely by.rules (without_extensions x) text a
  to_canonical (inl h) =
      let z = h.0.locale.id in
      let ends = h.1.locale.id in
      let same = one by (bare x) h.0 (bare z) h.1 (whole_bare by x z ends) in
      let m = answer_of (is_applied by.likely by.rules (without_extensions x)) in
      inl (without_extensions z, canonical_bare by x z ends, h.2.0 ∙ ap (λ w. whole_line w m) same ∙ line_bare z m, h.2.1)
  to_canonical (inr h) = refused h.0 h.1 h.2
    where
      refused : (e : WholeError) → IsWholeRefusal by (bare x) e → TellsWholeRefusal e text a
          → IsCanonicalized by.likely by.rules (without_extensions x) text a
      refused Memory why tells = absurd tells
      refused (NoFixedPoint z) (all, inl (ended, repeats)) tells = absurd repeats
      refused (NoFixedPoint z) (all, inr (ended, again)) tells = inr (inl (z, again, tells.0, tells.1))
      refused (NoSubdivisionFixedPoint v) why tells = inr (inr (v, why.1.1, tells.0, tells.1))
      refused (NoValueFixedPoint key v) why tells = absurd why.1.repeats
      refused (NoFieldFixedPoint key v) why tells = absurd why.repeats

  first_runs : FirstRunsEnd by (without_extensions x)
  first_runs = record { keywords = λ key. tt; transform = tt }

  from_canonical : IsCanonicalized by.likely by.rules (without_extensions x) text a → IsWholeCanonicalized by (bare x) text a
  from_canonical (inl h) =
      let z = h.0.id in
      let m = answer_of (is_applied by.likely by.rules (without_extensions x)) in
      let plain = ap (λ l. canonical_line l m) (no_extensions by.likely by.rules x h.0 h.1) in
      inl (bare z, whole_bare by x z h.1.id, (h.2 ∙ plain ∙ sym (line_bare z m), h.3))
  from_canonical (inr (inl h)) = inr (NoFixedPoint h.0, (λ key. tt, inr (first_runs, h.1)), (h.2, h.3))
  from_canonical (inr (inr h)) = inr (NoSubdivisionFixedPoint h.0, (λ key. tt, (first_runs, h.1)), (h.2, h.3))

-- the key of an identifier alone is that of its bare locale identifier
pub keyed_alike : (of : KeyOf) (by : WholeRules) (x : LanguageIdentifier) {text : List ℕ} {a : Bool}
    → IsKeyed by (keyed of (bare x)) text a ↔ IsKeyed by (bare x) text a
keyed_alike Whole by x = (λ h. h, λ h. h)
keyed_alike Identifier by x = (λ h. h, λ h. h)

-- ---- the answers

-- the facts of locale identifiers that are cited
pub record SyntaxFacts : Type 0 where
  pub spelling : SpellingFacts
  pub known : (x : LanguageIdentifier) → IsIdentifier x → IsLocaleIdentifier (bare x)
  pub alike : (s : Syntax) (t : List ℕ) (x : LanguageIdentifier) → IsIdentifier x → Spells t x → SpellsBy s t (bare x)
  pub plain : (t : List ℕ) (x : LocaleIdentifier) → list_any is_singleton (pieces t) ≡ false → SpellsBy Unicode t x
      → (IsIdentifier x.locale.id × Spells t x.locale.id) × (x ≡ bare x.locale.id)
  pub language : (s : Syntax) (t : List ℕ) → IsFaultBy s t parsing.InvalidLanguage ↔ (starts_by s t ≡ false)
  pub memory : (s : Syntax) (t : List ℕ) → ¬ (IsFaultBy s t parsing.Memory)
  pub one : HasOneForm
  pub kept : (answers : LocaleAnswers) (chain : LanguageChain) (display : LanguageDisplay) (names : ExtensionNames) (x : LanguageIdentifier)
      → full_name_of answers chain display names (bare x) ≡ name_of answers chain display x

-- the name of a locale identifier without extensions
asked_alike : SyntaxFacts → (n : Naming) (extensions : Option (Bor ExtensionNames)) (x : LanguageIdentifier) → name_asked_with n extensions (bare x) ≡ name_asked n x
asked_alike facts n None x = refl
asked_alike facts n (Some names) x = facts.kept (answers_in n.tables n.preferences.locale) (chain_of n.chain) Dialect names.now x

module _ (facts : SyntaxFacts) (s : Syntax) (line text : List ℕ) (a : Bool) where
  module _ (x : LanguageIdentifier) (spells : SpellsIn None line x) where
    spells_bare : SpellsWhole s line (bare x)
    spells_bare = (facts.known x spells.0, facts.alike s line x spells.0 spells.1)

    -- an answer that is the same for the identifier and the bare locale identifier
    pub each_alike : (IsWhole : LocaleIdentifier → List ℕ → Bool → Type 0) (IsLine : LanguageIdentifier → List ℕ → Bool → Type 0)
        → IsWhole (bare x) text a ↔ IsLine x text a
        → IsSpelledAnswer s IsWhole line text a ↔ IsIdentifierAnswer IsLine line text a
    each_alike IsWhole IsLine both =
        read_alike (whole_once facts.spelling s) (alone_once facts.spelling) IsWhole IsLine line text a (bare x) x spells_bare spells both

    pub transformed_alike : (form : Form) (table : LikelySubtags) → IsWholeTransformed form table (bare x) text a ↔ IsTransformed form table x text a
    transformed_alike form table = (
      λ h. (h.0, h.1, h.2, h.3 ∙ line_bare h.0 h.1, h.4),
      λ h. (h.0, h.1, h.2, h.3 ∙ sym (line_bare h.0 h.1), h.4),
    )

    pub named_alike : (n : Naming) → n.canonicalizer ≡ None → IsWholeNamed n (bare x) text a ↔ IsNamed n x text a
    named_alike n none =
        let same = asked_alike facts n n.extensions x in (
          λ h. subst (λ name. IsNamedLine name text a) same (subst (λ by. IsNamedWith n by (bare x) text a) none h),
          λ h. subst (λ by. IsNamedWith n by (bare x) text a) (sym none) (subst (λ name. IsNamedLine name text a) (sym same) h),
        )

    pub parted_alike : IsWholeParted (bare x) text a ↔ IsParted x text a
    parted_alike = (λ h. (h.0 ∙ parts_bare x, h.1), λ h. (h.0 ∙ sym (parts_bare x), h.1))

    pub canonical_answers_alike : (by : WholeRules) → position is_tab line ≡ None
        → IsSpelledAnswer s (IsWholeCanonicalized by) line text a ↔ IsLocaleAnswer by.likely by.rules line text a
    canonical_answers_alike by none =
        read_alike (whole_once facts.spelling s) (locale_once facts.spelling) (IsWholeCanonicalized by) (IsCanonicalized by.likely by.rules)
        line text a (bare x) (without_extensions x) spells_bare (spelled_alone line x none spells)
        (to_canonical facts.one by x text a, from_canonical facts.one by x text a)

  -- a list of identifiers is one in each syntax
  pub in_syntax : (texts : List (List ℕ)) (xs : List LanguageIdentifier) → SpellsAll None texts xs → SpellsAll (Some s) texts xs
  in_syntax [] [] each = tt
  in_syntax [] (x ∷ xs) each = absurd each
  in_syntax (t ∷ ts) [] each = absurd each
  in_syntax (t ∷ ts) (x ∷ xs) each =
      ((bare x, facts.known x each.0.0, facts.alike s t x each.0.0 each.0.1, refl), in_syntax ts xs each.1)

  pub lists_alike : (IsLine : List LanguageIdentifier → List ℕ → Bool → Type 0) (xs : List LanguageIdentifier) → SpellsAll None (listed line) xs
      → IsListedAnswer (Some s) IsLine line text a ↔ IsListedAnswer None IsLine line text a
  lists_alike IsLine xs each = read_alike (listed_once facts.spelling (Some s)) (listed_once facts.spelling None) IsLine IsLine line text a xs xs
      (in_syntax (listed line) xs each) each (λ h. h, λ h. h)

  -- and so is a list of what is wanted
  wanted_in_syntax : (texts : List (List ℕ)) (xs : List LanguageIdentifier) → SpellsAll None texts xs → AllZip (SpellsWanted (Some s)) texts (map bare xs)
  wanted_in_syntax [] [] each = tt
  wanted_in_syntax [] (x ∷ xs) each = absurd each
  wanted_in_syntax (t ∷ ts) [] each = absurd each
  wanted_in_syntax (t ∷ ts) (x ∷ xs) each = (spells_bare_text t x each.0, wanted_in_syntax ts xs each.1)
    where
      spells_bare_text : (t : List ℕ) (x : LanguageIdentifier) → SpellsIn None t x → SpellsWhole s t (bare x)
      spells_bare_text t x spells = (facts.known x spells.0, facts.alike s t x spells.0 spells.1)

  wanted_alone : (texts : List (List ℕ)) (xs : List LanguageIdentifier) → SpellsAll None texts xs → AllZip (SpellsWanted None) texts (map bare xs)
  wanted_alone [] [] each = tt
  wanted_alone [] (x ∷ xs) each = absurd each
  wanted_alone (t ∷ ts) [] each = absurd each
  wanted_alone (t ∷ ts) (x ∷ xs) each = ((each.0, refl), wanted_alone ts xs each.1)

  pub wanted_alike : (IsLine : List LocaleIdentifier → List ℕ → Bool → Type 0) (xs : List LanguageIdentifier) → SpellsAll None (listed line) xs
      → IsWantedAnswer (Some s) IsLine line text a ↔ IsWantedAnswer None IsLine line text a
  wanted_alike IsLine xs each = read_alike (wanted_once facts.spelling (Some s)) (wanted_once facts.spelling None) IsLine IsLine line text a
      (map bare xs) (map bare xs) (wanted_in_syntax (listed line) xs each) (wanted_alone (listed line) xs each) (λ h. h, λ h. h)

  wishes_alike : (wishes : Wishes) (how : ServeTask) (t : Service) (ws : List LocaleIdentifier) → WishesIdentifiers wishes line
      → IsWishAnswerTo wishes (Some s) how t ws line text a ↔ IsWishAnswerTo wishes None how t ws line text a
  wishes_alike Header how t ws holds = (λ h. h, λ h. h)
  wishes_alike Requests how t ws (xs, each) = lists_alike (IsNearestLine how t ws) xs each
  wishes_alike Resolved how t ws (xs, each) = wanted_alike (IsResolvedLine how t ws) xs each

  pub answers_alike : (work : Tools) → HoldsIdentifiers work line → IsAnswerBy (Some s) work line text a ↔ IsAnswerBy None work line text a
  answers_alike (tools.Form form e) (none, x, is, spells) = each_alike x (is, spells) (IsWholeTransformed form (likely e))
      (IsTransformed form (likely e)) (transformed_alike x (is, spells) form (likely e))
  answers_alike (tools.Canonicalize c) (none, x, is, spells) = canonical_answers_alike x (is, spells) (whole_rules c) none
  answers_alike (tools.Direction d) (none, x, is, spells) =
      each_alike x (is, spells) (λ w. IsDirected d w.locale.id) (IsDirected d) (λ h. h, λ h. h)
  answers_alike (tools.Negotiate n o) (xs, each) = lists_alike (IsNegotiatedLine n o.now.wholes.items) xs each
  answers_alike (tools.Serve how t o) holds = wishes_alike how.wishes how t o.now.wholes.items holds
  answers_alike (tools.Distance e matching) (xs, each) = lists_alike (IsDistanceLine matching.now (likely e)) xs each
  answers_alike (tools.Name n) (raw, (none, x, is, spells)) =
      each_alike x (is, spells) (IsWholeNamed n) (IsNamed n) (named_alike x (is, spells) n raw)
  answers_alike (tools.Fallback f) (none, x, is, spells) =
      each_alike x (is, spells) (λ w. IsChained f w.locale.id) (IsChained f) (λ h. h, λ h. h)
  answers_alike tools.Parts (none, x, is, spells) = each_alike x (is, spells) IsWholeParted IsParted (parted_alike x (is, spells))
  answers_alike (tools.Validate v) (none, x, is, spells) =
      each_alike x (is, spells) (IsReported v.now line) (λ y. IsReported v.now line (bare y)) (λ h. h, λ h. h)
  answers_alike (tools.SubtagName n) holds = (λ h. h, λ h. h)
  answers_alike (tools.Exemplars set) holds = (λ h. h, λ h. h)
  answers_alike (tools.Subtags list) holds = (λ h. h, λ h. h)
  answers_alike (tools.Key of k) (none, x, is, spells) =
      each_alike x (is, spells) (λ w. IsKeyed (whole_rules k) (keyed of w)) (λ y. IsKeyed (whole_rules k) (bare y)) (keyed_alike of (whole_rules k) x)
