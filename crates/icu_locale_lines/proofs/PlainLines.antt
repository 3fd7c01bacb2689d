-- A line without a piece of one character is answered alike in the syntax of UTS #35 and without one.
use Rattle.std.proofs.Common.{◌≡◌, ◌↔◌, ◌⊎◌, ℕ, Bool, true, false, ◌||◌, List, [], ◌∷◌, ◌++◌, Option, None, Some, Result, Ok, Err, refl, ap, sym, subst, ◌∙◌, inl, inr}
use Rattle.std.specs.List.{list_any, position}
use Rattle.std.proofs.lemmas.Bool.{false≢true}
use Rattle.icu_locale_core.specs.Identifier.{IsIdentifier, pieces, starts_with_language}
use Rattle.icu_locale_core.specs.Identifier as core
use Rattle.icu_locale_core.specs.declared.langid.LanguageIdentifier.{LanguageIdentifier}
use Rattle.icu_locale_core.specs.declared.parse_error.ParseError.{ParseError}
use Rattle.icu_locale_core.specs.declared.parse_error.ParseError.TheVariants.{InvalidLanguage, InvalidSubtag, Memory}
use Rattle.icu_locale_extensions.specs.Built.{bare}
use Rattle.icu_locale_extensions.specs.Syntaxes.{IsFaultBy}
use Rattle.icu_locale_extensions.specs.declared.identifier.LocaleIdentifier.{LocaleIdentifier}
use Rattle.icu_locale_extensions.specs.declared.syntax.Syntax.{Syntax}
use Rattle.icu_locale_extensions.specs.declared.syntax.Syntax.TheVariants.{Unicode}
use Rattle.icu_locale.specs.LikelyTable.{likely}
use Rattle.icu_locale_values.specs.Whole.{WholeRules, whole_rules}
use Rattle.icu_locale_lines.specs.Answers.{IsAnswerBy, IsCanonicalized, IsIdentifierAnswer, IsLocaleAnswer, IsSpelledAnswer, IsReported, IsTransformed, IsWholeTransformed, IsParted, IsWholeParted, WishesNoSingleton}
use Rattle.icu_locale_lines.specs.Answers.{IsDirected, IsNamed, IsWholeNamed, has_singleton, HasNoSingleton}
use Rattle.icu_locale_lines.specs.Chains.{IsChained}
use Rattle.icu_locale_lines.specs.Lists.{ids_of, IsFault, IsFirstFault, IsListedAnswer, IsNegotiatedLine, IsWantedAnswer, SpellsAll, SpellsIn, SpellsWhole, listed}
use Rattle.icu_locale_lines.specs.Locales.{is_tab, is_readable, identifier_text, value_text, IsLocaleFault, IsValueFault, SpellsSome}
use Rattle.icu_locale_lines.specs.Serving.{IsNearestLine, IsResolvedLine, IsDistanceLine, IsWishAnswerTo}
use Rattle.icu_locale_lines.specs.Wholes.{IsKeyed, IsWholeCanonicalized, keyed}
use Rattle.icu_locale_lines.specs.declared.command.ServeTask.{ServeTask}
use Rattle.icu_locale_lines.specs.declared.command.Wishes.{Wishes}
use Rattle.icu_locale_lines.specs.declared.command.Wishes.TheVariants.{Header, Requests, Resolved}
use Rattle.icu_locale_matching.specs.Service.{Service}
use Rattle.icu_locale_lines.proofs.ListReading.{wanted_spelled}
use Rattle.icu_locale_lines.specs.declared.work.Tools.{Tools}
use Rattle.icu_locale_lines.specs.declared.work.Tools.TheVariants as tools
use Rattle.icu_locale_lines.proofs.Alike.{SyntaxFacts, each_alike, transformed_alike, named_alike, canonical_answers_alike, in_syntax, lists_alike, keyed_alike, parted_alike, wanted_alike}
use Rattle.icu_locale_lines.proofs.LineAnswers.{locale_fault}
use Rattle.icu_locale_lines.proofs.LineCuts.{before_first-no_position}
use Rattle.icu_locale_lines.proofs.LocaleLines.{value_text-no_position}
use Rattle.icu_locale_lines.proofs.Readings.{answered_alike, alone_once, whole_once, listed_once, locale_once, wanted_once}

-- none of two passes
neither : (a b : Bool) → (a || b) ≡ false → (a ≡ false) × (b ≡ false)
neither true b e = absurd (false≢true (sym e))
neither false b e = (refl, e)

-- ---- a text without a piece of one character

module _ (facts : SyntaxFacts) (t : List ℕ) (plain : has_singleton t ≡ false) where
  -- spells the identifier alone
  from_whole : (w : LocaleIdentifier) → SpellsWhole Unicode t w → SpellsIn None t w.locale.id
  from_whole w whole = (facts.plain t w plain whole.1).0

  -- and is refused alike
  fault_alike : (e : ParseError) → IsFaultBy Unicode t e ↔ IsFault t e
  fault_alike InvalidLanguage = facts.language Unicode t
  fault_alike InvalidSubtag = (
    λ why. (why.0, λ x is s. why.1 (bare x) (facts.alike Unicode t x is s)),
    λ why. (why.0, λ w spells. (let spelled = (facts.plain t w plain spells).0 in why.1 w.locale.id spelled.0 spelled.1)),
  )
  fault_alike Memory = (facts.memory Unicode t, λ why. absurd why)

-- ---- the answers

module _ (facts : SyntaxFacts) (line text : List ℕ) (a : Bool) where
  module _ (plain : has_singleton line ≡ false) where
    -- an answer that is the same where the line spells an identifier
    each_plain : (IsWhole : LocaleIdentifier → List ℕ → Bool → Type 0) (IsLine : LanguageIdentifier → List ℕ → Bool → Type 0)
        → ((x : LanguageIdentifier) → SpellsIn None line x → IsWhole (bare x) text a ↔ IsLine x text a)
        → IsSpelledAnswer Unicode IsWhole line text a ↔ IsIdentifierAnswer IsLine line text a
    each_plain IsWhole IsLine both = answered_alike (whole_once facts.spelling Unicode) (alone_once facts.spelling) IsWhole IsLine line text a
        (λ w reads. by w.locale.id (from_whole facts line plain w reads)) by (fault_alike facts line plain)
      where
        by : (x : LanguageIdentifier) → SpellsIn None line x → IsSpelledAnswer Unicode IsWhole line text a ↔ IsIdentifierAnswer IsLine line text a
        by x spells = each_alike facts Unicode line text a x spells IsWhole IsLine (both x spells)

    -- without a tab a locale is refused as an identifier is
    module _ (none : position is_tab line ≡ None) where
      fault_of_locale : (e : ParseError) → IsLocaleFault line e → IsFault line e
      fault_of_locale e f = by f.fault
        where
          by : IsFault (identifier_text line) e ⊎ (SpellsSome (identifier_text line) × IsValueFault (value_text line) e) → IsFault line e
          by (inl why) = subst (λ t. IsFault t e) (before_first-no_position is_tab line none) why
          by (inr why) = absurd (false≢true (sym why.1.0 ∙ ap is_readable (value_text-no_position line none)))

      canonical_plain : (by : WholeRules)
          → IsSpelledAnswer Unicode (IsWholeCanonicalized by) line text a ↔ IsLocaleAnswer by.likely by.rules line text a
      canonical_plain by = answered_alike (whole_once facts.spelling Unicode) (locale_once facts.spelling)
          (IsWholeCanonicalized by) (IsCanonicalized by.likely by.rules) line text a
          (λ w reads. alike w.locale.id (from_whole facts line plain w reads))
          (λ old reads. alike old.id (reads.known, subst (λ t. core.Spells t old.id) (before_first-no_position is_tab line none) reads.id))
          (λ e. let both = fault_alike facts line plain e in (λ why. locale_fault line none e (both.0 why), λ why. both.1 (fault_of_locale e why)))
        where
          alike : (x : LanguageIdentifier) → SpellsIn None line x
              → IsSpelledAnswer Unicode (IsWholeCanonicalized by) line text a ↔ IsLocaleAnswer by.likely by.rules line text a
          alike x spells = canonical_answers_alike facts Unicode line text a x spells by none

  -- ---- lists

  spells_alone : (texts : List (List ℕ)) (xs : List LanguageIdentifier) → list_any has_singleton texts ≡ false
      → SpellsAll (Some Unicode) texts xs → SpellsAll None texts xs
  spells_alone [] [] plain each = tt
  spells_alone [] (x ∷ xs) plain each = absurd each
  spells_alone (t ∷ ts) [] plain each = absurd each
  spells_alone (t ∷ ts) (x ∷ xs) plain ((w, known, spells, same), later) =
      let both = neither (has_singleton t) (list_any has_singleton ts) plain in (
        subst (SpellsIn None t) same (from_whole facts t both.0 w (known, spells)),
        spells_alone ts xs both.1 later,
      )

  -- no text of a list has a piece of one character, none before a text, nor that text
  before_text : (earlier : List (List ℕ)) (t : List ℕ) (later : List (List ℕ)) → list_any has_singleton (earlier ++ t ∷ later) ≡ false
      → (list_any has_singleton earlier ≡ false) × (has_singleton t ≡ false)
  before_text [] t later plain = (refl, (neither (has_singleton t) (list_any has_singleton later) plain).0)
  before_text (e ∷ es) t later plain =
      let both = neither (has_singleton e) (list_any has_singleton (es ++ t ∷ later)) plain in
      let more = before_text es t later both.1 in
      (ap (λ b. b || list_any has_singleton es) both.0 ∙ more.0, more.1)

  module _ (plain : list_any has_singleton (listed line) ≡ false) where
    cut_there : (s : Option Syntax) (e : ParseError) (f : IsFirstFault s (listed line) e)
        → (list_any has_singleton f.earlier ≡ false) × (has_singleton f.text ≡ false)
    cut_there s e f = before_text f.earlier f.text f.later (subst (λ ts. list_any has_singleton ts ≡ false) f.parted plain)

    first_alone : (e : ParseError) → IsFirstFault (Some Unicode) (listed line) e → IsFirstFault None (listed line) e
    first_alone e f = let both = cut_there (Some Unicode) e f in record {
      earlier = f.earlier;
      text = f.text;
      later = f.later;
      parted = f.parted;
      identifiers = f.identifiers;
      spelled = spells_alone f.earlier f.identifiers both.0 f.spelled;
      refused = (fault_alike facts f.text both.1 e).0 f.refused;
    }

    first_whole : (e : ParseError) → IsFirstFault None (listed line) e → IsFirstFault (Some Unicode) (listed line) e
    first_whole e f = let both = cut_there None e f in record {
      earlier = f.earlier;
      text = f.text;
      later = f.later;
      parted = f.parted;
      identifiers = f.identifiers;
      spelled = in_syntax facts Unicode line text a f.earlier f.identifiers f.spelled;
      refused = (fault_alike facts f.text both.1 e).1 f.refused;
    }

    lists_plain : (IsLine : List LanguageIdentifier → List ℕ → Bool → Type 0)
        → IsListedAnswer (Some Unicode) IsLine line text a ↔ IsListedAnswer None IsLine line text a
    lists_plain IsLine = answered_alike (listed_once facts.spelling (Some Unicode)) (listed_once facts.spelling None) IsLine IsLine line text a
        (λ xs reads. by xs (spells_alone (listed line) xs plain reads)) by (λ e. (first_alone e, first_whole e))
      where
        by : (xs : List LanguageIdentifier) → SpellsAll None (listed line) xs
            → IsListedAnswer (Some Unicode) IsLine line text a ↔ IsListedAnswer None IsLine line text a
        by xs each = lists_alike facts Unicode line text a IsLine xs each

    wanted_plain : (IsLine : List LocaleIdentifier → List ℕ → Bool → Type 0)
        → IsWantedAnswer (Some Unicode) IsLine line text a ↔ IsWantedAnswer None IsLine line text a
    wanted_plain IsLine = answered_alike (wanted_once facts.spelling (Some Unicode)) (wanted_once facts.spelling None) IsLine IsLine line text a
        (λ ws reads. by (ids_of ws) (spells_alone (listed line) (ids_of ws) plain (wanted_spelled (Some Unicode) (listed line) ws reads)))
        (λ ws reads. by (ids_of ws) (wanted_spelled None (listed line) ws reads)) (λ e. (first_alone e, first_whole e))
      where
        by : (xs : List LanguageIdentifier) → SpellsAll None (listed line) xs
            → IsWantedAnswer (Some Unicode) IsLine line text a ↔ IsWantedAnswer None IsLine line text a
        by xs each = wanted_alike facts Unicode line text a IsLine xs each

  plain_wishes_alike : (wishes : Wishes) (how : ServeTask) (t : Service) (ws : List LocaleIdentifier) → WishesNoSingleton wishes line
      → IsWishAnswerTo wishes (Some Unicode) how t ws line text a ↔ IsWishAnswerTo wishes None how t ws line text a
  plain_wishes_alike Header how t ws plain = (λ h. h, λ h. h)
  plain_wishes_alike Requests how t ws plain = lists_plain plain (IsNearestLine how t ws)
  plain_wishes_alike Resolved how t ws plain = wanted_plain plain (IsResolvedLine how t ws)

  pub plain_answers_alike : (work : Tools) → HasNoSingleton work line
      → IsAnswerBy (Some Unicode) work line text a ↔ IsAnswerBy None work line text a
  plain_answers_alike (tools.Form form e) plain = each_plain plain (IsWholeTransformed form (likely e)) (IsTransformed form (likely e))
      (λ x spells. transformed_alike facts Unicode line text a x spells form (likely e))
  plain_answers_alike (tools.Canonicalize c) (none, plain) = canonical_plain plain none (whole_rules c)
  plain_answers_alike (tools.Direction d) plain =
      each_plain plain (λ w. IsDirected d w.locale.id) (IsDirected d) (λ x spells. (λ h. h, λ h. h))
  plain_answers_alike (tools.Negotiate n o) plain = lists_plain plain (IsNegotiatedLine n o.now.wholes.items)
  plain_answers_alike (tools.Serve how t o) plain = plain_wishes_alike how.wishes how t o.now.wholes.items plain
  plain_answers_alike (tools.Distance e matching) plain = lists_plain plain (IsDistanceLine matching.now (likely e))
  plain_answers_alike (tools.Name n) (raw, plain) = each_plain plain (IsWholeNamed n) (IsNamed n)
      (λ x spells. named_alike facts Unicode line text a x spells n raw)
  plain_answers_alike (tools.Fallback f) plain =
      each_plain plain (λ w. IsChained f w.locale.id) (IsChained f) (λ x spells. (λ h. h, λ h. h))
  plain_answers_alike tools.Parts plain =
      each_plain plain IsWholeParted IsParted (λ x spells. parted_alike facts Unicode line text a x spells)
  plain_answers_alike (tools.Validate v) plain =
      each_plain plain (IsReported v.now line) (λ y. IsReported v.now line (bare y)) (λ x spells. (λ h. h, λ h. h))
  plain_answers_alike (tools.SubtagName n) plain = (λ h. h, λ h. h)
  plain_answers_alike (tools.Exemplars set) plain = (λ h. h, λ h. h)
  plain_answers_alike (tools.Subtags list) plain = (λ h. h, λ h. h)
  plain_answers_alike (tools.Key of k) plain =
      each_plain plain (λ w. IsKeyed (whole_rules k) (keyed of w)) (λ y. IsKeyed (whole_rules k) (bare y)) (λ x spells. keyed_alike of (whole_rules k) x)
